-- The keys of an object: each way through their definitions, by what was found. Assumes nothing.
use mathlib.Core.Path.{◌≡◌, sym, ap, ◌∙◌}
use mathlib.Core.Bool.{Bool, true, false}
use mathlib.Core.List.{List}
use Rattle.std.specs.Prelude.{Result, Ok, Err}
use Prim.Native.Nat.{ℕ, ◌+◌}
use lib.ListN.{get_or, set}
use Rattle.document.specs.Fields.{as_row}
use Rattle.jsonrows.specs.Signature.{key_symbol}
use Rattle.jsonrows.specs.Seen.{first_listed, listed_part, listed_entry, listed_flags}
use Rattle.base.specs.declared.refusal.Refusal.TheVariants.{KeyRepeated}
use Rattle.base.specs.declared.refusal.TextRefusal.{TextRefusal}
use Rattle.jsonrows.specs.declared.members.KeyPart.{KeyPart}

-- a listed key that stood before, and one that did not, by its flag at place i
module _ (k at next used texts level : ℕ) (pending : List ℕ) (flags : List Bool) (i : ℕ) (is : i ≡ k) where
  pub listed_again : get_or flags i false ≡ true → (◌≡◌ {A = Result KeyPart TextRefusal} (Err (record { refusal = KeyRepeated; place = at })) (listed_part (get_or flags k false) k at next used texts)) × (pending ≡ listed_entry (get_or flags k false) pending level k) × (flags ≡ listed_flags (get_or flags k false) flags k)
  listed_again e =
      let q : true ≡ get_or flags k false = sym (ap (λ j. get_or flags j false) (sym is) ∙ e) in
      (ap (λ c. listed_part c k at next used texts) q, ap (λ c. listed_entry c pending level k) q, ap (λ c. listed_flags c flags k) q)

  pub listed_first : get_or flags i false ≡ false → (◌≡◌ {A = Result KeyPart TextRefusal} (Ok (record { symbol = key_symbol k; row = as_row 0; next = next; counts = record { used = used; texts = texts } })) (listed_part (get_or flags k false) k at next used texts)) × (set pending level (first_listed + k) ≡ listed_entry (get_or flags k false) pending level k) × (set flags i true ≡ listed_flags (get_or flags k false) flags k)
  listed_first n =
      let q : false ≡ get_or flags k false = sym (ap (λ j. get_or flags j false) (sym is) ∙ n) in
      (ap (λ c. listed_part c k at next used texts) q, ap (λ c. listed_entry c pending level k) q, ap (λ j. set flags j true) is ∙ ap (λ c. listed_flags c flags k) q)
