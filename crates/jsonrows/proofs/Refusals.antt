-- Every refusal has one of document 02's numbers, none above 74. Assumes nothing.
use mathlib.Core.Path.{◌≡◌, sym, ap, ◌∙◌}
use mathlib.Core.Bool.{Bool, true, false, cond}
use mathlib.Core.List.{List, []}
use Rattle.std.specs.Prelude.{Result, Err}
use Prim.Native.Nat.{ℕ, ◌≤◌}
use native.Mathlib.Omega.{arith}
use lib.Dec.{eqb}
use lib.ListN.{length}
use Rattle.model.specs.Limits.{max_levels}
use Rattle.model.specs.Table.{Row}
use Rattle.jsontext.specs.Spaces.{space_end}
use Rattle.jsonrows.specs.Keys.{keys_fit?}
use Rattle.jsonrows.specs.Grammar.{Setting, Built, built, Outcome}
use Rattle.jsonrows.specs.Read.{Reading, rows_read, refused_at, reading_map, whole_text, read_text, setting_for, read_of}
use Rattle.jsonrows.specs.Answer.{read_answer}
use Rattle.base.specs.Refusals.{number}
use Rattle.base.specs.declared.refusal.TextRefusal.{TextRefusal}
use Rattle.jsonrows.proofs.Planted.{Gives, gives, gives_none}
use Rattle.jsonrows.proofs.ReadValues.{IsValue, value_gives}

-- a reading's refusal number, 0 for none
abbrev refusal_of : Reading (List Row) → ℕ
refusal_of (rows_read rows) = 0
refusal_of (refused_at w p) = w

end_most : (P : ℕ → ℕ → Built → Type 0) (t : List ℕ) {o : Outcome} → Gives P o → refusal_of (whole_text t o) ≤ 74
end_most P t (gives {n = next} {b = b} h) = go (eqb (space_end t next) (length t))
  where
    go : (c : Bool) → refusal_of (cond c (rows_read b.rows) (refused_at 71 (space_end t next))) ≤ 74
    go true = omega arith
    go false = omega arith
end_most P t (gives_none l) = l

text_most : (S : Setting) (t : List ℕ) → refusal_of (read_text max_levels S t) ≤ 74
unfolding read_text
text_most S t = end_most (IsValue S t max_levels (space_end t 0) (built [] [])) t (value_gives S t max_levels (space_end t 0) (built [] []))

module _ (list text : List ℕ) (space : ℕ) where
  read_most : refusal_of (read_of list text space) ≤ 74
  unfolding read_of
  read_most = go (keys_fit? list)
    where
      go : (c : Bool) → refusal_of (cond c (read_text max_levels (setting_for list space) text) (refused_at 74 0)) ≤ 74
      go true = text_most (setting_for list space) text
      go false = omega arith

  pub refused_most : (r : Result ℕ TextRefusal) (e : TextRefusal) → read_answer r ≡ reading_map length (read_of list text space) → r ≡ Err e → number e.refusal ≤ 74
  refused_most r e = go (read_of list text space) read_most
    where
      go : (v : Reading (List Row)) → refusal_of v ≤ 74 → read_answer r ≡ reading_map length v → r ≡ Err e → number e.refusal ≤ 74
      go (rows_read rows) l f q = let g : ◌≡◌ {A = Reading ℕ} (rows_read (length rows)) (refused_at (number e.refusal) e.place) = sym f ∙ ap read_answer q in let z : ⊥ = cc in absurd z
      go (refused_at w s) l f q = let g : ◌≡◌ {A = Reading ℕ} (refused_at w s) (refused_at (number e.refusal) e.place) = sym f ∙ ap read_answer q in let h : w ≡ number e.refusal = cc in omega (arith, h, l)
