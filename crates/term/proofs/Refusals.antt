-- Every refusal has one of document 01's numbers, none above 67. Assumes nothing.
use mathlib.Core.Path.{◌≡◌, refl, sym, ap, ◌∙◌}
use mathlib.Core.Bool.{Bool, true, false, cond}
use mathlib.Core.List.{List, []}
use Prim.Native.Nat.{ℕ, zero, suc, ◌≤◌}
use native.Mathlib.Omega.{arith}
use lib.Dec.{eqb}
use lib.ListN.{length}
use Rattle.model.specs.Limits.{max_levels}
use Rattle.model.specs.Refusal.{demand}
use Rattle.model.specs.Table.{Row}
use Rattle.automaton.specs.Stored.{decode}
use Rattle.automaton.specs.Check.{check_of}
use Rattle.automaton.proofs.Passes.{check_most}
use Rattle.names.specs.Check.{names_check_of}
use Rattle.term.specs.Grammar.{Outcome}
use Rattle.term.specs.Read.{Reading, rows_read, refused_at, whole_text, read_text, setting_for, unless_refused, read_of, reading_map, read_answer}
use Rattle.std.specs.Prelude.{Result, Err}
use Rattle.base.specs.Refusals as refusals
use Rattle.base.specs.declared.refusal.TextRefusal.{TextRefusal}
use Rattle.term.proofs.Meaning.{Gives, gives, gives_none, IsTerm, term_gives}
use Rattle.term.proofs.TextTable.{known}

demand_most : (t : Bool) (n rest : ℕ) → n ≤ 67 → rest ≤ 67 → demand t n rest ≤ 67
unfolding demand
demand_most true n rest h k = k
demand_most false n rest h k = h

set_most : (set : List ℕ) → check_of set ≤ 67
set_most set = let h = check_most set in omega arith

names_most : (n : ℕ) (site built_in : List ℕ) → names_check_of n site built_in ≤ 67
unfolding names_check_of
names_most n site built_in = demand_most _ 61 _ (omega arith) (demand_most _ 62 _ (omega arith) (omega arith))

-- a reading's refusal number, 0 for none
abbrev number : Reading (List Row) → ℕ
number (rows_read rows) = 0
number (refused_at w p) = w

end_most : (P : ℕ → ℕ → List Row → Type 0) (end : ℕ) {o : Outcome ℕ} → Gives P o → number (whole_text end o) ≤ 67
end_most P end (gives {v = j} {n = next} {rows = rows} h) = go (eqb next end)
  where
    go : (b : Bool) → number (cond b (rows_read rows) (refused_at 63 next)) ≤ 67
    go true = omega arith
    go false = omega arith
end_most P end (gives_none l) = l

after_most : (n : ℕ) (v : Reading (List Row)) → n ≤ 67 → number v ≤ 67 → number (unless_refused n v) ≤ 67
after_most zero v h k = k
after_most (suc n) v h k = h

module _ (set site built_in text : List ℕ) (space : ℕ) where
  text_most : number (read_text (setting_for set site built_in space) text) ≤ 67
  unfolding read_text
  text_most =
      end_most (IsTerm (decode set) (setting_for set site built_in space) text (known set site built_in) (λ s. refl) max_levels 0 []) (length text)
      (term_gives (decode set) (setting_for set site built_in space) text (known set site built_in) (λ s. refl) max_levels 0 [])

  read_most : number (read_of set site built_in text space) ≤ 67
  unfolding read_of
  read_most =
      after_most (check_of set) _ (set_most set)
      (after_most (names_check_of (length (decode set).arities) site built_in) _ (names_most (length (decode set).arities) site built_in) text_most)

  pub refused_most : (r : Result ℕ TextRefusal) (e : TextRefusal) → read_answer r ≡ reading_map length (read_of set site built_in text space) → r ≡ Err e → refusals.number e.refusal ≤ 67
  refused_most r e = go (read_of set site built_in text space) read_most
    where
      go : (v : Reading (List Row)) → number v ≤ 67 → read_answer r ≡ reading_map length v → r ≡ Err e → refusals.number e.refusal ≤ 67
      go (rows_read rows) l f q = let z : ◌≡◌ {A = Reading ℕ} (rows_read (length rows)) (refused_at (refusals.number e.refusal) e.place) = sym f ∙ ap read_answer q in cc
      go (refused_at w s) l f q = let z : ◌≡◌ {A = Reading ℕ} (refused_at w s) (refused_at (refusals.number e.refusal) e.place) = sym f ∙ ap read_answer q in let g : w ≡ refusals.number e.refusal = cc in omega arith
