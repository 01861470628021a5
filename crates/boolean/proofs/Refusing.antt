-- The numbers of union and product: which place decides, what is known where none does, and the answer with its number. Assumes nothing.
use mathlib.Core.Path.{◌≡◌, refl, sym, ap, ◌∙◌, subst}
use mathlib.Core.List.{List}
use mathlib.Core.Bool.{Bool, true, false, ◌&&◌, ◌||◌, cond}
use Prim.Native.Nat.{ℕ, zero, suc, ◌≤◌}
use native.Mathlib.Omega.{arith}
use borrow.Author.Tests.{leb-true, eqb-true, eq-eqb, ne_eqb}
use lib.Dec.{leb, eqb}
use lib.ListN.{length}
use lib.Seq.{ext_get_or}
use Rattle.model.specs.Limits.{max_states, max_tags, max_rules}
use Rattle.model.specs.Lists.{all_below}
use Rattle.model.specs.Refusal.{demand, and_after}
use Rattle.model.specs.Automaton.{Automaton, arity_of}
use Rattle.model.proofs.Below.{at}
use Rattle.automaton.specs.Form.{total_length, isolating?}
use Rattle.automaton.specs.declared.Form.{Form}
use Rattle.automaton.specs.declared.Form.TheVariants.{Wide, Isolating}
use Rattle.automaton.specs.Stored.{form_of, decode}
use Rattle.automaton.specs.Check.{check_of}
use Rattle.automaton.specs.Encode.{encode, encoded_length}
use Rattle.automaton.proofs.Passes.{split}
use Rattle.automaton.proofs.Encoded.{encode_length}
use Rattle.boolean.specs.Combine.{result_form, same_symbols, within_limits, result_check_of, combine_check_of}
use Rattle.automaton.specs.Laid.{Laid}
use Rattle.boolean.specs.Ready.{Ready, Sized}
use Rattle.boolean.specs.declared.Size.{Size}
use Rattle.std.specs.Prelude.{Result, Ok, Err}
use Rattle.base.specs.Refusals.{refused_by}
use Rattle.base.specs.Refusals.{number as its_number}
use Rattle.base.specs.declared.refusal.Refusal.{Refusal}
use Rattle.base.proofs.Refusing.{some_number}
use Rattle.automaton.proofs.Answering.{Answered, refused_answer, written_answer_lem}

-- the form of a result, from what was read of the inputs' forms
pub form_told : (first second : List ℕ) (f g : Form) (a b t : Bool) → f ≡ form_of first → a ≡ isolating? f → g ≡ form_of second → b ≡ isolating? g → (a || b) ≡ t → cond t Isolating Wide ≡ result_form first second
unfolding result_form
form_told first second f g a b t ef ea eg eb et =
    ap (λ (z : Bool). cond z Isolating Wide) (sym et ∙ ap (◌|| b) (ea ∙ ap isolating? ef) ∙ ap (isolating? (form_of first) ||◌) (eb ∙ ap isolating? eg))

-- 51: symbols that differ in number, and the test of their children where they do not
module _ (A B : Automaton) where
  pub symbols_apart : (length A.arities ≡ length B.arities → ⊥) → false ≡ same_symbols A B
  unfolding same_symbols
  symbols_apart h = rw (ne_eqb (length A.arities) (length B.arities) h)

  pub symbols_alike : (b : Bool) → length A.arities ≡ length B.arities → b ≡ all_below (length A.arities) (λ f. eqb (arity_of A f) (arity_of B f)) → b ≡ same_symbols A B
  unfolding same_symbols
  symbols_alike b e h = rw (eq-eqb (length A.arities) (length B.arities) e) h

  pub same_arities : same_symbols A B ≡ true → A.arities ≡ B.arities
  unfolding same_symbols
  same_arities h =
      let (n, each) = split (eqb (length A.arities) (length B.arities)) (all_below (length A.arities) (λ f. eqb (arity_of A f) (arity_of B f))) h in
      ext_get_or 0 A.arities B.arities (eqb-true (length A.arities) (length B.arities) n)
      (λ i l. eqb-true (arity_of A i) (arity_of B i) (at (λ f. eqb (arity_of A f) (arity_of B f)) (length A.arities) i each l))

-- 52: what a result within the limits tells
pub record Within (states tags rules : ℕ) : Type 0 where
  pub few_states : states ≤ max_states
  pub few_tags : tags ≤ max_tags
  pub few_rules : rules ≤ max_rules

pub within_known : (states tags rules : ℕ) → within_limits states tags rules ≡ true → Within states tags rules
unfolding within_limits
within_known states tags rules h =
    let (ab, c) = split (leb states max_states && leb tags max_tags) (leb rules max_rules) h in
    let (a, b) = split (leb states max_states) (leb tags max_tags) ab in
    record { few_states = leb-true states max_states a; few_tags = leb-true tags max_tags b; few_rules = leb-true rules max_rules c }

-- the number of the two inputs, then that of the result
module _ (m n : ℕ) (t : Bool) (rest : ℕ) where
  abbrev inputs : ℕ
  inputs = and_after m (and_after n (demand t 51 0))

  abbrev whole : ℕ
  whole = and_after m (and_after n (demand t 51 rest))

  inputs_refuse : (inputs ≡ 0 → ⊥) → inputs ≡ whole
  unfolding and_after demand
  inputs_refuse = go m n t
    where
      go : (m n : ℕ) (t : Bool) → (and_after m (and_after n (demand t 51 0)) ≡ 0 → ⊥) → and_after m (and_after n (demand t 51 0)) ≡ and_after m (and_after n (demand t 51 rest))
      go (suc m) n t h = refl
      go zero (suc n) t h = refl
      go zero zero false h = refl
      go zero zero true h = absurd (h refl)

  inputs_pass : inputs ≡ 0 → (m ≡ 0) × (n ≡ 0) × (t ≡ true) × (rest ≡ whole)
  unfolding and_after demand
  inputs_pass = go m n t
    where
      go : (m n : ℕ) (t : Bool) → and_after m (and_after n (demand t 51 0)) ≡ 0 → (m ≡ 0) × (n ≡ 0) × (t ≡ true) × (rest ≡ and_after m (and_after n (demand t 51 rest)))
      go (suc m) n t h = absurd (omega arith)
      go zero (suc n) t h = absurd (omega arith)
      go zero zero false h = absurd (omega arith)
      go zero zero true h = (refl, refl, refl, refl)

result_pass : (form : Form) (R : Automaton) (space : ℕ) → result_check_of form R space ≡ 0 → Within (length R.states) R.tags (length R.rules) × (encoded_length form R ≤ space)
unfolding result_check_of demand
result_pass form R space h = go (within_limits (length R.states) R.tags (length R.rules)) (leb (encoded_length form R) space) refl refl h
  where
    go : (a b : Bool) → within_limits (length R.states) R.tags (length R.rules) ≡ a → leb (encoded_length form R) space ≡ b → demand a 52 (demand b 53 0) ≡ 0 → Within (length R.states) R.tags (length R.rules) × (encoded_length form R ≤ space)
    go true true ea eb e = (within_known (length R.states) R.tags (length R.rules) ea, leb-true (encoded_length form R) space eb)
    go true false ea eb e = absurd (omega arith)
    go false b ea eb e = absurd (omega arith)

-- the number of a result from its counts
pub sized_check : (form : Form) (R : Automaton) (symbols : ℕ) (size : Size) (space : ℕ) → symbols ≡ length R.arities → Sized size R → demand (within_limits size.states size.tags size.rules) 52 (demand (leb (total_length form symbols size.states size.rules) space) 53 0) ≡ result_check_of form R space
unfolding result_check_of
sized_check form R symbols size space e s =
    ap (λ (z : ℕ). demand (within_limits size.states size.tags size.rules) 52 (demand (leb (total_length form z size.states size.rules) space) 53 0)) e
    ∙ ap (λ (z : ℕ). demand (within_limits z size.tags size.rules) 52 (demand (leb (total_length form (length R.arities) z size.rules) space) 53 0)) s.states
    ∙ ap (λ (z : ℕ). demand (within_limits (length R.states) z size.rules) 52 (demand (leb (total_length form (length R.arities) (length R.states) size.rules) space) 53 0)) s.tags
    ∙ ap (λ (z : ℕ). demand (within_limits (length R.states) R.tags z) 52 (demand (leb (total_length form (length R.arities) (length R.states) z) space) 53 0)) s.rules

module _ (result : Automaton → Automaton → Automaton) (first second : List ℕ) (space : ℕ) where
  abbrev R : Automaton
  R = result (decode first) (decode second)

  abbrev form : Form
  form = result_form first second

  abbrev number : ℕ
  number = combine_check_of result first second space

  module _ (n : ℕ) (e : n ≡ and_after (check_of first) (and_after (check_of second) (demand (same_symbols (decode first) (decode second)) 51 0))) where
    -- The inputs' number is the whole number unless it is 0; then the result's is.
    inputs_decide : (n ≡ 0 → ⊥) → n ≡ number
    unfolding combine_check_of
    inputs_decide h = e ∙ inputs_refuse (check_of first) (check_of second) (same_symbols (decode first) (decode second)) (result_check_of form R space) (λ z. h (e ∙ z))

    inputs_none : n ≡ 0 → result_check_of form R space ≡ number
    unfolding combine_check_of
    inputs_none h = (inputs_pass (check_of first) (check_of second) (same_symbols (decode first) (decode second)) (result_check_of form R space) (sym e ∙ h)).3

    sound_inputs : n ≡ 0 → (check_of first ≡ 0) × (check_of second ≡ 0) × ((decode first).arities ≡ (decode second).arities)
    sound_inputs h = let p = inputs_pass (check_of first) (check_of second) (same_symbols (decode first) (decode second)) 0 (sym e ∙ h) in (p.0, p.1, same_arities (decode first) (decode second) p.2)

  number_inputs : number ≡ 0 → and_after (check_of first) (and_after (check_of second) (demand (same_symbols (decode first) (decode second)) 51 0)) ≡ 0
  unfolding combine_check_of and_after demand
  number_inputs = go (check_of first) (check_of second) (same_symbols (decode first) (decode second))
    where
      go : (m n : ℕ) (t : Bool) → and_after m (and_after n (demand t 51 (result_check_of form R space))) ≡ 0 → and_after m (and_after n (demand t 51 0)) ≡ 0
      go (suc m) n t h = h
      go zero (suc n) t h = h
      go zero zero false h = h
      go zero zero true h = refl

  -- What is known where the two are not refused.
  pub ready : number ≡ 0 → Ready first second R × (encoded_length form R ≤ space)
  ready h =
      let i = number_inputs h in
      let p = inputs_pass (check_of first) (check_of second) (same_symbols (decode first) (decode second)) (result_check_of form R space) i in
      let (w, l) = result_pass form R space (inputs_none _ refl i ∙ h) in (
        record {
          first_sound = p.0;
          second_sound = p.1;
          same = same_arities (decode first) (decode second) p.2;
          states = w.few_states;
          tags = w.few_tags;
          rules = w.few_rules;
        },
        l,
      )

-- What is answered of two sets, from what their parts tell: p is what is known of the inputs, m of the result.
module _ (result : Automaton → Automaton → Automaton) (first second out : List ℕ) where
  abbrev made : Automaton
  made = result (decode first) (decode second)

  abbrev asked : Form
  asked = result_form first second

  abbrev refusal : ℕ
  refusal = combine_check_of result first second (length out)

  module _ (p : Result (Unit {0}) Refusal) (e : refused_by p ≡ and_after (check_of first) (and_after (check_of second) (demand (same_symbols (decode first) (decode second)) 51 0))) where
    pub inputs_refused : (w : Refusal) → p ≡ Err w → Answered asked made out refusal (Err w) out
    inputs_refused w h =
        let s = some_number w in
        let n : its_number w ≡ refused_by p = ap refused_by (sym h) in
        refused_answer asked made out refusal w (inputs_decide result first second (length out) (its_number w) (n ∙ e) (λ z. absurd (omega (arith, s.1))))

    module _ (none : p ≡ Ok tt) where
      zero_number : refused_by p ≡ 0
      zero_number = ap refused_by none

      pub inputs_sound : (check_of first ≡ 0) × (check_of second ≡ 0) × ((decode first).arities ≡ (decode second).arities)
      inputs_sound = sound_inputs result first second 0 (refused_by p) e zero_number

      module _ (F : Form) (ef : F ≡ asked) (symbols : ℕ) (size : Size) (m : Result (Unit {0}) Refusal) (es : symbols ≡ length made.arities) (s : Sized size made) (em : refused_by m ≡ demand (within_limits size.states size.tags size.rules) 52 (demand (leb (total_length F symbols size.states size.rules) (length out)) 53 0)) where
        decides : refused_by m ≡ refusal
        decides =
            em
            ∙ sized_check F made symbols size (length out) es s
            ∙ ap (λ (z : Form). result_check_of z made (length out)) ef
            ∙ inputs_none result first second (length out) (refused_by p) e zero_number

        pub result_refused : (w : Refusal) → m ≡ Err w → Answered asked made out refusal (Err w) out
        result_refused w h = refused_answer asked made out refusal w (ap refused_by (sym h) ∙ decides)

        module _ (fits : m ≡ Ok tt) where
          no_number : refusal ≡ 0
          no_number = sym decides ∙ ap refused_by fits

          pub may_write : Ready first second made × Sized size made × (encoded_length F made ≤ length out)
          may_write = let (a, b) = ready result first second (length out) no_number in (a, s, subst (λ (z : Form). encoded_length z made ≤ length out) (sym ef) b)

          pub written : (r : ℕ) (after : List ℕ) → Laid out after 0 r (encode F made) → Answered asked made out refusal (Ok r) after
          written r after l =
              let q = subst (λ (z : Form). Laid out after 0 r (encode z made)) ef l in
              written_answer_lem asked made out refusal r after no_number (let d = encode_length asked made in let z = q.ends in omega arith) q.holds
