-- `document::near::near_row` meets its contract: a row near at hand is the one that the probe finds. Assumes nothing.
use mathlib.Core.Path.{sym, ◌∙◌}
use lib.Dec.{ltb, ltb→lt}
use lib.ListN.{get_or}
use Rattle.model.proofs.Members.{T_and, T_true}
use Rattle.document.proofs.Nearby.{did_near}
use Rattle.document.proofs.near.near_row.Goals as goal

pub returns-then-guess-n : goal.returns-then-guess-n
returns-then-guess-n c =
    let i = get_or c.args.near.now c.near_place.result 0 in
    let (l, e) = T_and (ltb i c.args.n) c.same_words.result ((T_true _).1 c.if-guess-n.true) in
    record {
      inside = ltb→lt i c.args.n l;
      found = λ x slots limit words ready. did_near c.args.rows.now slots c.args.n limit ready c.args.w.a c.args.w.b c.args.w.c x words i (ltb→lt i c.args.n l) (sym c.same_words.ensures ∙ (T_true _).0 e);
    }
