-- A set written in a form, part after part; and the numbers of a move, of values that were read. Assumes nothing.
use mathlib.Core.Path.{◌≡◌, refl, sym, ap, ◌∙◌, subst}
use mathlib.Core.Logic.{◌↔◌}
use mathlib.Core.Bool.{Bool, true, false, ◌||◌, not}
use mathlib.Core.List.{List, [], ◌++◌, map, append-nil, Memᴰ as In}
use Prim.Native.Nat.{ℕ, zero, suc, ◌≤◌, ◌<◌}
use native.Mathlib.Omega.{arith}
use borrow.Author.Tests.{leb-true, le-leb, lt-leb, eq-eqb, ne_eqb}
use lib.Dec.{leb}
use lib.ListN.{length, drop}
use Rattle.model.specs.Automaton.{Rule, State, Automaton, forgets_nothing?}
use Rattle.model.specs.Boolean.{shift_state}
use Rattle.model.specs.Lists.{concat_map}
use Rattle.model.specs.Refusal.{demand, and_after, gives, unless}
use Rattle.model.proofs.Forgetting.{nothing_exactly}
use Rattle.automaton.specs.declared.Form.{Form}
use Rattle.automaton.specs.declared.Form.TheVariants.{Narrow, Wide, Isolating}
use Rattle.automaton.specs.Form.{tag_bits, total_length, isolating?, kept_mask, HasRoom}
use Rattle.automaton.specs.Stored.{form_of, decode}
use Rattle.automaton.specs.Check.{check_of}
use Rattle.automaton.specs.Encode.{encode_header, encode_symbol, encode_rule, encode_states, encode, encoded_length, Put}
use Rattle.automaton.proofs.Encoded.{header, encode_length, encode_parts}
use Rattle.automaton.proofs.Passes.{met, meets}
use Rattle.automaton.proofs.Sound.{plain_forgets}
use Rattle.automaton.proofs.Put.{Writing, writing_none, writing_more, writing_length, writing_all}
use Rattle.automaton.proofs.Shifted.{states_zero}
use Rattle.forms.specs.Move.{in_form, move_check_of, moved_of}

-- A set is put: header, symbols, states, rules.
module _ (form : Form) (A : Automaton) (space : List ℕ) (room : encoded_length form A ≤ length space) where
  abbrev symbols : List ℕ
  symbols = concat_map encode_symbol A.arities

  abbrev states : List ℕ
  states = encode_states form A.states

  abbrev rules : List ℕ
  rules = concat_map (encode_rule form) A.rules

  begun : Writing space (encode form A) space 0 (header form A ++ (symbols ++ (states ++ (rules ++ []))))
  begun =
      subst (Writing space (encode form A) space 0)
      (encode_parts form A ∙ ap (λ (l : List ℕ). header form A ++ (symbols ++ (states ++ l))) (sym (append-nil rules)))
      (writing_none space (encode form A) (let e = encode_length form A in omega arith))

  module _ (one two three four : List ℕ) (a b c d : ℕ) (p : Put space 0 (header form A) one a) (q : Put one a symbols two b) (r : Put two b (encode_states form (map (shift_state 0) A.states)) three c) (s : Put three c rules four d) where
    unmoved : Put two b states three c
    unmoved = subst (λ (qs : List State). Put two b (encode_states form qs) three c) (states_zero A.states) r

    ended : Writing space (encode form A) four d []
    ended =
        writing_more space (encode form A) three four c d rules []
        (writing_more space (encode form A) two three b c states (rules ++ [])
        (writing_more space (encode form A) one two a b symbols (states ++ (rules ++ []))
        (writing_more space (encode form A) space one 0 a (header form A) (symbols ++ (states ++ (rules ++ []))) begun p) q) unmoved) s

    pub set_put : (d ≡ encoded_length form A) × (four ≡ encode form A ++ drop d space)
    set_put =
        let n = writing_length space (encode form A) four d ended in
        (n ∙ encode_length form A, writing_all space (encode form A) four d ended ∙ ap (λ (k : ℕ). encode form A ++ drop k space) (sym n))

-- the header of counts that were read
pub header_put : (form : Form) (A : Automaton) (S Q T R : ℕ) → S ≡ length A.arities → Q ≡ length A.states → T ≡ A.tags → R ≡ length A.rules → (out one : List ℕ) (a : ℕ) → Put out 0 (encode_header form S Q T R) one a → Put out 0 (header form A) one a
header_put form A S Q T R es eq et er out one a p =
    let e : encode_header form S Q T R ≡ header form A = cc in
    subst (λ (bytes : List ℕ). Put out 0 bytes one a) e p

-- .. and the length
pub counted : (form : Form) (A : Automaton) (S Q R : ℕ) → S ≡ length A.arities → Q ≡ length A.states → R ≡ length A.rules → total_length form S Q R ≡ encoded_length form A
counted form A S Q R es eq er = cc

after_none : (k rest : ℕ) → and_after k rest ≡ 0 → (k ≡ 0) × (rest ≡ 0)
unfolding and_after
after_none zero rest h = (refl, h)
after_none (suc k) rest h = absurd (omega arith)

-- the test for 10 says what it should: the form keeps each mask
masks_kept : (form : Form) (A : Automaton) → ((isolating? form || forgets_nothing? A) ≡ true) ↔ ((r : Rule) → In r A.rules → kept_mask form r.forget ≡ r.forget)
unfolding kept_mask
masks_kept Narrow A = (λ e r m. sym ((nothing_exactly A).0 e r m), λ k. (nothing_exactly A).1 (λ r m. sym (k r m)))
masks_kept Wide A = (λ e r m. sym ((nothing_exactly A).0 e r m), λ k. (nothing_exactly A).1 (λ r m. sym (k r m)))
masks_kept Isolating A = (λ e r m. refl, λ k. refl)

-- the two flags of whether a form keeps a set's masks: that it has a place for them, and that the set's own form has
module _ (form : Form) (s : List ℕ) (f : Form) (e : f ≡ form_of s) (a b : Bool) (ea : a ≡ isolating? form) (eb : b ≡ isolating? f) where
  pub kept_unseen : (a || not b) ≡ true → true ≡ (isolating? form || forgets_nothing? (decode s))
  kept_unseen = go a b ea (eb ∙ ap isolating? e)
    where
      go : (x y : Bool) → x ≡ isolating? form → y ≡ isolating? (form_of s) → (x || not y) ≡ true → true ≡ (isolating? form || forgets_nothing? (decode s))
      go true y ex ey h = rw (← ex)
      go false true ex ey h = let z : ◌≡◌ {A = ℕ} 0 1 = cc in absurd (omega arith)
      go false false ex ey h = rw (← ex, (nothing_exactly (decode s)).1 (plain_forgets s (sym ey)))

  pub kept_seen : (r : Bool) → r ≡ forgets_nothing? (decode s) → (a || not b) ≡ false → r ≡ (isolating? form || forgets_nothing? (decode s))
  kept_seen r er h = er ∙ ap (◌|| forgets_nothing? (decode s)) (sym (first a b h) ∙ ea)
    where
      first : (x y : Bool) → (x || not y) ≡ false → x ≡ false
      first true y h = h
      first false y h = refl

-- The numbers in their order, of a set that passed its check: each where the tests before it are met.
module _ (from to : Form) (set : List ℕ) (space : ℕ) (h : check_of set ≡ 0) where
  abbrev number : ℕ
  number = move_check_of from to set space

  pub not_in_form : (length set ≡ encoded_length from (decode set) → ⊥) → 18 ≡ number
  unfolding move_check_of and_after demand
  not_in_form n = rw (h, ne_eqb (length set) (encoded_length from (decode set)) n)

  module _ (e : length set ≡ encoded_length from (decode set)) where
    pub too_many_tags : tag_bits to < (decode set).tags → 8 ≡ number
    unfolding move_check_of and_after demand
    too_many_tags l = rw (h, eq-eqb (length set) (encoded_length from (decode set)) e, lt-leb (decode set).tags (tag_bits to) l)

    module _ (b : (decode set).tags ≤ tag_bits to) where
      pub forgets_tags : (isolating? to || forgets_nothing? (decode set)) ≡ false → 10 ≡ number
      unfolding move_check_of and_after demand
      forgets_tags k = rw (h, eq-eqb (length set) (encoded_length from (decode set)) e, le-leb (decode set).tags (tag_bits to) b, k)

      module _ (k : (isolating? to || forgets_nothing? (decode set)) ≡ true) where
        pub too_short : space < encoded_length to (decode set) → 53 ≡ number
        unfolding move_check_of and_after demand
        too_short l = rw (h, eq-eqb (length set) (encoded_length from (decode set)) e, le-leb (decode set).tags (tag_bits to) b, k, lt-leb (encoded_length to (decode set)) space l)

        pub passed_all : encoded_length to (decode set) ≤ space → 0 ≡ number
        unfolding move_check_of and_after demand
        passed_all l = rw (h, eq-eqb (length set) (encoded_length from (decode set)) e, le-leb (decode set).tags (tag_bits to) b, k, le-leb (encoded_length to (decode set)) space l)

-- What the number 0 tells of a set that is moved: it is sound and in the first form, and the other has room for it, and so has the space ..
pub record Movable (from to : Form) (set : List ℕ) (space : ℕ) : Type 0 where
  pub sound : check_of set ≡ 0
  pub form : in_form from set ≡ true
  pub room : HasRoom to (decode set)
  pub long : encoded_length to (decode set) ≤ space

pub movable : (from to : Form) (set : List ℕ) (space : ℕ) → move_check_of from to set space ≡ 0 → Movable from to set space
unfolding move_check_of
movable from to set space h =
    let one = after_none (check_of set) _ h in
    let two = met (in_form from set) 17 _ one.1 in
    let three = met (leb (decode set).tags (tag_bits to)) 7 _ two.1 in
    let four = met (isolating? to || forgets_nothing? (decode set)) 9 _ three.1 in
    let five = met (leb (encoded_length to (decode set)) space) 52 _ four.1 in
    record {
      sound = one.0;
      form = two.0;
      room = record { bits = leb-true (decode set).tags (tag_bits to) three.0; masks = (masks_kept to (decode set)).0 four.0 };
      long = leb-true (encoded_length to (decode set)) space five.0;
    }

-- .. and back.
pub not_refused : (from to : Form) (set : List ℕ) (space : ℕ) → Movable from to set space → move_check_of from to set space ≡ 0
unfolding move_check_of and_after
not_refused from to set space m =
    rw m.sound (meets (in_form from set) 18 _ m.form
    (meets (leb (decode set).tags (tag_bits to)) 8 _ (le-leb (decode set).tags (tag_bits to) m.room.bits)
    (meets (isolating? to || forgets_nothing? (decode set)) 10 _ ((masks_kept to (decode set)).1 m.room.masks)
    (meets (leb (encoded_length to (decode set)) space) 53 0 (le-leb (encoded_length to (decode set)) space m.long) refl))))

pub not_refused_answer : (from to : Form) (set space : List ℕ) → Movable from to set (length space) → moved_of from to set space ≡ gives (encoded_length to (decode set))
unfolding unless
not_refused_answer from to set space m = ap (λ (k : ℕ). unless k (encoded_length to (decode set))) (not_refused from to set (length space) m)
