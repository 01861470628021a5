-- The index of a key list's lines: what the probe for some bytes finds. Assumes nothing.
use mathlib.Core.Path.{◌≡◌, refl, sym, ap, ◌∙◌}
use mathlib.Core.Bool.{Bool, true, false}
use mathlib.Core.List.{List, []}
use mathlib.Core.Option.{Option, none, some}
use Rattle.std.specs.Prelude.{Option as Maybe, Some, None}
use Prim.Native.Nat.{ℕ, ◌-◌, ◌<◌, ◌≤◌}
use native.Mathlib.Omega.{arith}
use borrow.Author.Tests.{ltb-true, ltb-false}
use lib.Dec.{ltb}
use lib.ListN.{length, get_or, take, drop}
use lib.Seq.{take-take}
use Rattle.base.specs.Text.{Got, got}
use Rattle.model.specs.Lists.{eq_list}
use Rattle.automaton.proofs.Parts.{tab_of}
use Rattle.document.specs.Index.{probe}
use Rattle.document.specs.declared.index.Probed.{Probed}
use Rattle.document.proofs.Probing.{scan, Answers, known, free, answers}
use Rattle.names.specs.Lines.{lines}
use Rattle.jsontext.specs.Decoded.{text_slot, is_text}
use Rattle.jsontext.specs.Tokens.{TokenOf}
use Rattle.jsontext.specs.declared.tokens.Token.{Token}
use Rattle.jsonrows.specs.declared.keys.Line.{Line}
use Rattle.jsonrows.specs.Keys.{max_keys, find_text}
use Rattle.jsonrows.specs.KeyTable.{key_at, key_start, key_end, line_at, no_line, token_at, Stands, Entered, KeyTable, key_of, key_after, answer_of, Keyed}
use Rattle.jsonrows.proofs.Finding.{eq_list_eq, find_scan}

pub not_listed : (k : ℕ) → ◌≡◌ {A = Maybe ℕ} None (Some k) → k < max_keys
not_listed k e = let z : ⊥ = cc in absurd z

pub listed_below : {n k : ℕ} → k < n → n ≤ max_keys → (j : ℕ) → Some k ≡ Some j → j < max_keys
listed_below {k = k} l m j e = let q : k ≡ j = cc in omega (arith, l, m, q)

module _ {list : List ℕ} {places : List Line} {slots : List ℕ} {n : ℕ} (x : Entered list places slots n) where
  -- a slot that is not empty has one of the lines
  pub held_line : {v : ℕ} (s : ℕ) → v ≡ get_or slots s 0 → (v ≡ 0 → ⊥) → v - 1 < n
  held_line s e z = let h = x.indexed.held s in omega (arith, e, h, z)

  pub probe_key : (bs : List ℕ) → Answers slots n (λ k. eq_list bs (key_at list k)) (text_slot bs) (probe slots (λ k. eq_list bs (key_at list k)) (text_slot bs))
  probe_key bs =
      answers slots n (λ k. text_slot (key_at list k)) (λ k. eq_list bs (key_at list k)) (text_slot bs) x.indexed
      (λ i l e. ap text_slot (sym (that i e)))
      (omega (arith, x.few))
      (λ i j l m a b. x.distinct i j l m (sym (that i a) ∙ that j b))
    where
      that : (i : ℕ) → eq_list bs (key_at list i) ≡ true → bs ≡ key_at list i
      that i e = eq_list_eq bs (key_at list i) e

-- a number whose place is not that of no line is that of a line
line_placed : {list : List ℕ} {places : List Line} {slots : List ℕ} → Keyed list places slots → (k : ℕ) → (line_at places k ≡ no_line → ⊥) → k < length (lines list)
line_placed {list = list} x k z = go (ltb k (length (lines list))) refl
  where
    go : (b : Bool) → ltb k (length (lines list)) ≡ b → k < length (lines list)
    go true e = ltb-true k (length (lines list)) e
    go false e = absurd (z (x.others k (ltb-false k (length (lines list)) e)))

-- a number whose end is not 0
pub line_ended : {list : List ℕ} {places : List Line} {slots : List ℕ} → Keyed list places slots → (k : ℕ) → (key_end places k ≡ 0 → ⊥) → k < length (lines list)
line_ended x k z = line_placed x k (λ e. z (ap (λ (l : Line). l.end) e))

-- a string that is written as a line's token is the line
pub token_string : {list : List ℕ} {places : List Line} {slots : List ℕ} → Keyed list places slots → (k : ℕ) (t : Token) → token_at places k ≡ Some t → (g : Got (List ℕ)) (r : ℕ) → ((key : List ℕ) → TokenOf key t.first t.last t.length → g ≡ got key r) → (k < length (lines list)) × (g ≡ got (key_at list k) r)
token_string {list} {places} x k t has g r written =
    let l : k < length (lines list) = line_placed x k (λ e. let o : ◌≡◌ {A = Maybe Token} None (Some t) = sym (ap (λ (l : Line). l.token) e) ∙ has in let z : ⊥ = cc in z) in
    (l, written (key_at list k) (x.tokens k l t has))

-- a string that is the bytes from a line's start up to its end
pub line_string : {list : List ℕ} {places : List Line} (k : ℕ) {j r : ℕ} → j ≡ k → Stands list places k → (g : Got (List ℕ)) → g ≡ got (take (key_end places k - key_start places k) (take (length list - key_start places k) (drop (key_start places k) list))) r → g ≡ got (key_at list j) r
line_string {list} {places} k {r = r} e x g is =
    is ∙ ap (λ (bs : List ℕ). got bs r) (take-take (key_end places k - key_start places k) (length list - key_start places k) (drop (key_start places k) list) (omega (arith, x.inside)) ∙ x.line ∙ ap (key_at list) (sym e))

-- an answer, and the line that it says
says_line : (m : Maybe ℕ) → answer_of (key_of m) ≡ m
says_line (Some k) = refl
says_line None = refl

line_said : (o : Option ℕ) → key_of (answer_of o) ≡ o
line_said (some k) = refl
line_said none = refl

-- the places and the slots of all lines tell so
module _ {list : List ℕ} {places : List Line} {slots : List ℕ} (x : KeyTable list places slots) where
  scanned : (key : List ℕ) {o : Option ℕ} → scan (length (lines list)) (λ k. eq_list key (key_at list k)) ≡ o → o ≡ find_text key (lines list)
  scanned key q = sym (ap (find_text key) (sym (tab_of [] (lines list))) ∙ find_scan key (length (lines list)) (key_at list) (λ k. eq_list key (key_at list k)) (λ k l. refl) ∙ q)

  found_by : (key : List ℕ) {p : Probed} → Answers slots (length (lines list)) (λ k. eq_list key (key_at list k)) (text_slot key) p → key_of (key_after p) ≡ find_text key (lines list)
  found_by key (known i l a b) = scanned key b
  found_by key (free s a b o) = scanned key b

  pub keyed : Keyed list places slots
  keyed =
      record {
        few = x.few;
        stands = x.stands;
        distinct = x.distinct;
        held = x.indexed.held;
        found = λ key. sym (says_line (key_after (probe slots (λ k. eq_list key (key_at list k)) (text_slot key)))) ∙ ap answer_of (found_by key (probe_key x key));
        tokens = x.tokens;
        others = x.others;
      }

module _ {list : List ℕ} {places : List Line} {slots : List ℕ} (x : Keyed list places slots) where
  -- a slot that is not empty has one of the lines
  pub line_held : {v : ℕ} (s : ℕ) → v ≡ get_or slots s 0 → (v ≡ 0 → ⊥) → v - 1 < length (lines list)
  line_held s e z = let h = x.held s in omega (arith, e, h, z)

  -- what a probe for the bytes of a string answers is the first line that is these bytes
  pub find_line : (g : Got (List ℕ)) (slot : ℕ) (p : Probed) → p ≡ probe slots (λ k. is_text g (key_at list k)) slot → (key : List ℕ) (next : ℕ) → g ≡ got key next → slot ≡ text_slot key → key_of (key_after p) ≡ find_text key (lines list)
  find_line g slot p e key next string here =
      let q : p ≡ probe slots (λ k. eq_list key (key_at list k)) (text_slot key) = e ∙ (λ i. probe slots (λ k. is_text (string i) (key_at list k)) (here i)) in
      ap (λ (r : Probed). key_of (key_after r)) q ∙ ap key_of (x.found key) ∙ line_said (find_text key (lines list))
