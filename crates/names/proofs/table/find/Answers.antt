-- The first symbol with the name, or none has it. Assumes nothing.
use Rattle.std.proofs.Common.{rules, tests, ℕ, ◌≡◌, true, false}
use Rattle.std.proofs.lemmas.Iterator.{first_from_Range}
use Rattle.model.specs.Lists.{eq_list}
use Rattle.names.specs.Names.{find_in}
use Rattle.names.specs.Table.{name_in}
use Rattle.names.proofs.First.{first_found}
use Rattle.names.proofs.table.find.Goals as goal

pub returns : goal.returns
unfolding find_in name_in
returns c =
    let is = λ (k : ℕ). eq_list (name_in c.args.t.now k) c.args.bytes.now in
    first_found is c.args.symbols c.find.result
    (first_from_Range _ _ _ c.find.result (λ k. is k ≡ true) (λ k. is k ≡ false) c.find.ensures.ran (λ x q k. search (rules, tests)) (λ x q k. search (rules, tests)))
