-- What a move means: the same automaton in the other form, and the same bytes again where the set is moved back. Assumes nothing.
use mathlib.Core.Path.{◌≡◌, sym, ap, ◌∙◌, subst}
use mathlib.Core.Logic.{◌↔◌}
use mathlib.Core.Bool.{true, false}
use mathlib.Core.List.{List, [], ◌++◌}
use Prim.Native.Nat.{ℕ, ◌≤◌, ◌<◌}
use native.Mathlib.Omega.{arith}
use borrow.Author.Tests.{eq-eqb}
use lib.ListN.{length, get_or, take, drop}
use Rattle.model.specs.Tree.{Tree}
use Rattle.model.specs.Automaton.{Automaton, forgets_nothing?}
use Rattle.model.specs.Refusal.{gives}
use Rattle.model.specs.Run.{Accepts}
use Rattle.model.specs.Sound.{Sound}
use Rattle.model.proofs.Forgetting.{nothing_exactly}
use Rattle.automaton.specs.declared.Form.{Form}
use Rattle.automaton.specs.declared.Form.TheVariants.{Wide, Isolating}
use Rattle.automaton.specs.Form.{tags_width, tag_bits, isolating?, HasRoom}
use Rattle.automaton.specs.Stored.{decode}
use Rattle.automaton.specs.Check.{check_of}
use Rattle.automaton.specs.Encode.{encode, encoded_length, space_of}
use Rattle.automaton.specs.Answer.{Stores}
use Rattle.automaton.proofs.Sound.{sound_decode, plain_forgets}
use Rattle.automaton.proofs.Encoded.{encode_length}
use Rattle.automaton.proofs.Answering.{given_length, given_stores}
use Rattle.forms.specs.Move.{in_form, move_check_of, moved_of, moved_space, SameSet}
use Rattle.forms.proofs.InForm.{in_form_length, in_form_room, in_both, in_form_bytes, in_plain_form}
use Rattle.forms.proofs.Moving.{Movable, movable, not_refused, not_refused_answer}

-- Where a move answers a length, so many bytes at the front of the space ..
module _ (from to : Form) (set space : List ℕ) (n : ℕ) (e : moved_of from to set space ≡ gives n) where
  abbrev A : Automaton
  A = decode set

  abbrev number : ℕ
  number = move_check_of from to set (length space)

  abbrev pub moved : List ℕ
  moved = take n (moved_space from to set space)

  its_movable : Movable from to set (length space)
  its_movable = movable from to set (length space) (given_length to A space number n e).0

  its_sound : Sound A
  its_sound = sound_decode set its_movable.sound

  its_bytes : moved ≡ encode to A
  its_bytes = (given_length to A space number n e).2

  -- .. are a sound set that stands for the same automaton ..
  pub moved_stores : Stores moved (decode set)
  moved_stores = given_stores to A space number n e its_sound its_movable.room

  pub moved_same : SameSet set moved
  moved_same = record { checked = its_movable.sound ∙ sym moved_stores.sound; decoded = sym moved_stores.decoded }

  pub moved_sound : check_of set ≡ 0
  moved_sound = its_movable.sound

  -- .. in the other form ..
  pub moved_from : in_form from set ≡ true
  moved_from = its_movable.form

  pub moved_form : in_form to moved ≡ true
  moved_form =
      eq-eqb (length moved) (encoded_length to (decode moved))
      (ap length its_bytes ∙ encode_length to A ∙ ap (encoded_length to) (sym moved_stores.decoded))

  -- .. and accept the same trees.
  pub moved_accepts : (t : Tree) → Accepts (decode moved) t ↔ Accepts (decode set) t
  moved_accepts t = subst (λ (B : Automaton). Accepts B t ↔ Accepts (decode set) t) (sym moved_stores.decoded) (λ a. a, λ a. a)

  -- Moved back, in a space that holds them, they are the bytes that the set was: by widening and then narrowing, and by narrowing and then widening, of states and of rules.
  module _ (bytes : (k : ℕ) → get_or set k 0 < 256) (back : List ℕ) (room : length set ≤ length back) where
    long : encoded_length from A ≡ length set
    long = in_form_length from set its_movable.sound its_movable.form

    again : Movable to from moved (length back)
    again = record {
      sound = moved_stores.sound;
      form = moved_form;
      room = subst (HasRoom from) (sym moved_stores.decoded) (in_form_room from set its_movable.sound its_movable.form);
      long = subst (λ (B : Automaton). encoded_length from B ≤ length back) (sym moved_stores.decoded) (let l = long in omega arith);
    }

    pub back_answer : moved_of to from moved back ≡ gives (length set)
    back_answer = not_refused_answer to from moved back again ∙ ap (λ (B : Automaton). gives (encoded_length from B)) moved_stores.decoded ∙ ap gives long

    pub there_and_back : take (length set) (moved_space to from moved back) ≡ set
    there_and_back =
        (given_length from (decode moved) back (move_check_of to from moved (length back)) (length set) back_answer).2
        ∙ ap (encode from) moved_stores.decoded
        ∙ (in_form_bytes from set its_movable.sound bytes).0 its_movable.form

-- A set that is in two forms is moved from one to the other as it is ..
module _ (from to : Form) (set space : List ℕ) (h : check_of set ≡ 0) (bytes : (k : ℕ) → get_or set k 0 < 256) (first : in_form from set ≡ true) (second : in_form to set ≡ true) (room : length set ≤ length space) where
  stays : Movable from to set (length space)
  stays = record {
    sound = h;
    form = first;
    room = in_form_room to set h second;
    long = let l = in_form_length to set h second in omega arith;
  }

  pub stays_answer : moved_of from to set space ≡ gives (length set)
  stays_answer = not_refused_answer from to set space stays ∙ ap gives (in_form_length to set h second)

  pub stays_space : moved_space from to set space ≡ set ++ drop (length set) space
  stays_space =
      ap (λ (k : ℕ). space_of k to (decode set) space) (not_refused from to set (length space) stays)
      ∙ ap (◌++ drop (encoded_length to (decode set)) space) ((in_form_bytes to set h bytes).0 second)
      ∙ ap (λ (k : ℕ). set ++ drop k space) (in_form_length to set h second)

-- .. so both moves of rules take a wide set with no rules and leave its bytes as they are: it has the same bytes in both forms.
module _ (set space : List ℕ) (h : check_of set ≡ 0) (bytes : (k : ℕ) → get_or set k 0 < 256) (wide : in_form Wide set ≡ true) (none : (decode set).rules ≡ []) (room : length set ≤ length space) where
  isolating : in_form Isolating set ≡ true
  isolating = in_both set none ∙ wide

  pub no_rules_widened : (moved_of Wide Isolating set space ≡ gives (length set)) × (moved_space Wide Isolating set space ≡ set ++ drop (length set) space)
  no_rules_widened = (stays_answer Wide Isolating set space h bytes wide isolating room, stays_space Wide Isolating set space h bytes wide isolating room)

  pub no_rules_narrowed : (moved_of Isolating Wide set space ≡ gives (length set)) × (moved_space Isolating Wide set space ≡ set ++ drop (length set) space)
  no_rules_narrowed = (stays_answer Isolating Wide set space h bytes isolating wide room, stays_space Isolating Wide set space h bytes isolating wide room)

-- 8 is for the narrowing of states alone: a sound set has few enough tags for the wide forms ..
pub wide_enough : (set : List ℕ) → check_of set ≡ 0 → (decode set).tags ≤ tag_bits Wide
unfolding tags_width
wide_enough set h = (sound_decode set h).few_tags

-- .. and 10 for the narrowing of rules alone: a set in a form without masks forgets nothing.
pub plain_enough : (from : Form) (set : List ℕ) → check_of set ≡ 0 → in_form from set ≡ true → isolating? from ≡ false → forgets_nothing? (decode set) ≡ true
plain_enough from set h e plain = (nothing_exactly (decode set)).1 (plain_forgets set (in_plain_form from set h e plain))
