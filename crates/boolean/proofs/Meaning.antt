-- What union and product write is a sound set, and it accepts what either set does, or what both do. Assumes nothing.
use mathlib.Core.Path.{◌≡◌, refl, sym, subst}
use mathlib.Core.Logic.{◌⊎◌, ◌↔◌}
use mathlib.Core.List.{List}
use mathlib.Core.Bool.{Bool, true, false, ◌||◌, cond}
use Prim.Native.Nat.{ℕ}
use lib.ListN.{length, take}
use Rattle.model.specs.Tree.{Tree}
use Rattle.model.specs.Automaton.{Automaton, ForgetsNothing}
use Rattle.model.specs.Run.{Accepts}
use Rattle.model.specs.Refusal.{gives}
use Rattle.model.specs.Sound.{Sound}
use Rattle.model.specs.Boolean.{union, product}
use Rattle.model.proofs.SoundUnion.{union_nothing, union_accepts}
use Rattle.model.proofs.SoundProduct.{product_nothing, product_accepts}
use Rattle.automaton.specs.declared.Form.TheVariants.{Wide, Isolating}
use Rattle.automaton.specs.Form.{isolating?, HasRoom}
use Rattle.automaton.specs.Stored.{form_of, decode}
use Rattle.automaton.specs.Check.{check_of}
use Rattle.automaton.specs.Answer.{Stores}
use Rattle.automaton.proofs.Sound.{sound_decode, plain_forgets}
use Rattle.automaton.proofs.Encoded.{wide_room, isolating_room}
use Rattle.automaton.proofs.Answering.{given_length, given_stores}
use Rattle.boolean.specs.Combine.{result_form, combine_check_of}
use Rattle.boolean.specs.Answer.{combined_of, combined_space}
use Rattle.boolean.specs.Ready.{Ready}
use Rattle.boolean.proofs.Refusing.{ready}
use Rattle.boolean.specs.Sounds.{ready_union, ready_product}

-- The form of a result has room for it, where it forgets nothing if neither input does.
result_room : (first second : List ℕ) (R : Automaton) → check_of first ≡ 0 → check_of second ≡ 0 → Sound R → (ForgetsNothing (decode first) → ForgetsNothing (decode second) → ForgetsNothing R) → HasRoom (result_form first second) R
unfolding result_form
result_room first second R hf hs sound none = go (isolating? (form_of first)) (isolating? (form_of second)) refl refl
  where
    go : (a b : Bool) → isolating? (form_of first) ≡ a → isolating? (form_of second) ≡ b → HasRoom (cond (a || b) Isolating Wide) R
    go true b ea eb = isolating_room R sound
    go false true ea eb = isolating_room R sound
    go false false ea eb = wide_room R sound (none (plain_forgets first ea) (plain_forgets second eb))

module _ (result : Automaton → Automaton → Automaton) (first second space : List ℕ) (n : ℕ) (e : combined_of result first second space ≡ gives n) where
  abbrev R : Automaton
  R = result (decode first) (decode second)

  abbrev number : ℕ
  number = combine_check_of result first second (length space)

  its_ready : Ready first second R
  its_ready = (ready result first second (length space) (given_length (result_form first second) R space number n e).0).0

  its_bytes : Sound R → (ForgetsNothing (decode first) → ForgetsNothing (decode second) → ForgetsNothing R) → Stores (take n (combined_space result first second space)) R
  its_bytes s none = given_stores (result_form first second) R space number n e s (result_room first second R its_ready.first_sound its_ready.second_sound s none)

-- Where the answer is a length, so many bytes at the front of the space are a sound set: the union ..
module _ (first second space : List ℕ) (n : ℕ) (e : combined_of union first second space ≡ gives n) where
  pub union_stored : Stores (take n (combined_space union first second space)) (union (decode first) (decode second))
  union_stored = let h = its_ready union first second space n e in its_bytes union first second space n e (ready_union first second h) (union_nothing (decode first) (decode second) (sound_decode first h.first_sound).wellformed (sound_decode second h.second_sound).wellformed)

  -- .. which accepts what either set accepts.
  pub union_either : (t : Tree) → Accepts (decode (take n (combined_space union first second space))) t ↔ (Accepts (decode first) t ⊎ Accepts (decode second) t)
  union_either t =
      let h = its_ready union first second space n e in
      subst (λ (A : Automaton). Accepts A t ↔ (Accepts (decode first) t ⊎ Accepts (decode second) t)) (sym union_stored.decoded)
      (union_accepts (decode first) (decode second) (sound_decode first h.first_sound) (sound_decode second h.second_sound) h.same t)

-- .. and the product ..
module _ (first second space : List ℕ) (n : ℕ) (e : combined_of product first second space ≡ gives n) where
  pub product_stored : Stores (take n (combined_space product first second space)) (product (decode first) (decode second))
  product_stored = let h = its_ready product first second space n e in its_bytes product first second space n e (ready_product first second h) (product_nothing (decode first) (decode second) (sound_decode first h.first_sound).wellformed (sound_decode second h.second_sound).wellformed h.same)

  -- .. which accepts what both sets accept.
  pub product_both : (t : Tree) → Accepts (decode (take n (combined_space product first second space))) t ↔ (Accepts (decode first) t × Accepts (decode second) t)
  product_both t =
      let h = its_ready product first second space n e in
      subst (λ (A : Automaton). Accepts A t ↔ (Accepts (decode first) t × Accepts (decode second) t)) (sym product_stored.decoded)
      (product_accepts (decode first) (decode second) (sound_decode first h.first_sound) (sound_decode second h.second_sound) h.same t)
