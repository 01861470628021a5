-- `automaton::tests::place` meets its contract: the test is the definition's. Assumes nothing.
use mathlib.Core.Path.{◌≡◌}
use Rattle.automaton.specs.Stored.{place_word}
use Rattle.automaton.proofs.Passes.{place_used, place_free}
use Rattle.automaton.proofs.tests.place.Goals as goal

pub returns-then-k-n : goal.returns-then-k-n
returns-then-k-n c =
    let x : c.place-x.result ≡ place_word c.args.f.set.now c.args.i c.args.k = cc (c.place-x.ensures, c.args.f.framed.1) in
    place_used _ _ _ _ _ _ x c.requires c.args.f.framed.0.state_count_is c.if-k-n.true

pub returns-else-k-n : goal.returns-else-k-n
returns-else-k-n c =
    let x : c.place-x.result ≡ place_word c.args.f.set.now c.args.i c.args.k = cc (c.place-x.ensures, c.args.f.framed.1) in
    place_free _ _ _ _ _ 0 x c.requires c.if-k-n.false
