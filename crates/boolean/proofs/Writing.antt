-- A result put part after part: room for each, and the whole at the end. Assumes nothing.
use mathlib.Core.Path.{◌≡◌, sym, ap, ◌∙◌, subst}
use mathlib.Core.List.{List, map}
use Prim.Native.Nat.{ℕ, ◌+◌, ◌<◌, ◌≤◌}
use native.Mathlib.Omega.{arith}
use lib.ListN.{length, take, length-append}
use Rattle.model.specs.Lists.{concat_map}
use Rattle.model.specs.Automaton.{Automaton}
use Rattle.model.specs.Sound.{Sound}
use Rattle.model.specs.Boolean.{shift_state, union}
use Rattle.automaton.specs.declared.Form.{Form}
use Rattle.automaton.specs.Stored.{decode}
use Rattle.automaton.specs.Encode.{encode_header, encode_symbol, encode_rule, encode_states, encode, encoded_length, Put}
use Rattle.boolean.specs.Key.{packed, encode_key}
use Rattle.automaton.specs.Laid.{Laid}
use Rattle.boolean.specs.Ready.{Ready, Sized, Keyed, front}
use Rattle.boolean.specs.declared.Size.{Size}
use Rattle.automaton.proofs.Laying.{laid_put, laid_then, laid_length}
use Rattle.boolean.proofs.Packing.{small_of, encode_packed}
use Rattle.boolean.proofs.Stating.{both_states, result_parts, result_lengths, sized_front}

-- the header, then the symbols
module _ (form : Form) (A : Automaton) (symbols states tags rules : ℕ) (e : symbols ≡ length A.arities) (out mid : List ℕ) (r : ℕ) (fits : length (front form A states tags rules) ≤ length out) (p : Put out 0 (encode_header form symbols states tags rules) mid r) where
  abbrev header : List ℕ
  header = encode_header form (length A.arities) states tags rules

  parts : length (front form A states tags rules) ≡ length header + length (concat_map encode_symbol A.arities)
  parts = length-append header (concat_map encode_symbol A.arities)

  header_laid : Laid out mid 0 r header
  header_laid =
      subst (λ (z : ℕ). Laid out mid 0 r (encode_header form z states tags rules)) e
      (laid_put out mid 0 r (encode_header form symbols states tags rules) p
      (let d = ap (λ (z : ℕ). length (encode_header form z states tags rules)) e in let n = parts in omega arith))

  symbols_room : r + length (concat_map encode_symbol A.arities) ≤ length mid
  symbols_room = let n = parts in let d = header_laid.ends in let l = laid_length header_laid in omega arith

  pub front_laid : (last : List ℕ) (end : ℕ) → Put mid r (concat_map encode_symbol A.arities) last end → Laid out last 0 end (front form A states tags rules)
  front_laid last end q = laid_then header_laid (laid_put mid last r end (concat_map encode_symbol A.arities) q symbols_room)

-- rules put from their keys, with the symbols of a set that has those of the result
module _ (form : Form) (R : Automaton) (sound : Sound R) (arities : List ℕ) (same : R.arities ≡ arities) (keys : List ℕ) (n : ℕ) (h : Keyed R keys n) where
  abbrev encoded : List ℕ
  encoded = concat_map (encode_key form arities) (take n keys)

  keyed_bytes : encoded ≡ concat_map (encode_rule form) R.rules
  keyed_bytes =
      ap (concat_map (encode_key form arities)) h.holds
      ∙ ap (λ (z : List ℕ). concat_map (encode_key form z) (map packed R.rules)) (sym same)
      ∙ encode_packed form R.arities R.rules (small_of R sound)

  pub rules_room : (at space : ℕ) → at + length (concat_map (encode_rule form) R.rules) ≤ space → at + length encoded ≤ space
  rules_room at space l = let e = ap length keyed_bytes in omega arith

  pub rules_laid : (out last : List ℕ) (at end : ℕ) → Laid out last at end encoded → Laid out last at end (concat_map (encode_rule form) R.rules)
  rules_laid out last at end l = subst (Laid out last at end) keyed_bytes l

-- room for the front of a result, and the front with the result's own counts
module _ (form : Form) (first second : List ℕ) (R : Automaton) (size : Size) (h : Ready first second R) (s : Sized size R) (out : List ℕ) where
  abbrev A : Automaton
  A = decode first

  abbrev own : List ℕ
  own = front form A (length R.states) R.tags (length R.rules)

  front_room : length own ≤ length out → (size.states < 65536) × (size.tags < 65536) × (size.rules < 65536) × (length (front form A size.states size.tags size.rules) ≤ length out)
  front_room l =
      let f = ap length (sized_front form A R size s) in
      let es = s.states in let et = s.tags in let er = s.rules in
      let ls = h.states in let lt = h.tags in let lr = h.rules in
      (omega arith, omega arith, omega arith, omega arith)

  front_own : (mid : List ℕ) (end : ℕ) → Laid out mid 0 end (front form A size.states size.tags size.rules) → Laid out mid 0 end own
  front_own mid end l = subst (Laid out mid 0 end) (sized_front form A R size s) l

-- The states of a union: the first's, then the second's.
module _ (form : Form) (A B : Automaton) (out : List ℕ) (at : ℕ) (room : at + length (encode_states form (union A B).states) ≤ length out) where
  abbrev firsts : List ℕ
  firsts = encode_states form (map (shift_state 0) A.states)

  abbrev seconds : List ℕ
  seconds = encode_states form (map (shift_state A.tags) B.states)

  together : at + length firsts + length seconds ≤ length out
  together = let e = ap length (both_states form A B) in let d = length-append firsts seconds in omega arith

  pub union_states_laid : (mid last : List ℕ) (e end t : ℕ) → Put out at firsts mid e → t ≡ A.tags → Put mid e (encode_states form (map (shift_state t) B.states)) last end → Laid out last at end (encode_states form (union A B).states)
  union_states_laid mid last e end t p et q = subst (Laid out last at end) (both_states form A B) (laid_then first second)
    where
      first : Laid out mid at e firsts
      first = let l = together in laid_put out mid at e firsts p (omega arith)

      second : Laid mid last e end seconds
      second =
          let l = together in let d = first.ends in let m = laid_length first in
          laid_put mid last e end seconds (subst (λ (z : ℕ). Put mid e (encode_states form (map (shift_state z) B.states)) last end) et q) (omega arith)

-- A result: front, states, rules.
module _ (form : Form) (first second : List ℕ) (R : Automaton) (same : R.arities ≡ (decode first).arities) (size : Size) (out : List ℕ) (p : Ready first second R × Sized size R × (encoded_length form R ≤ length out)) where
  abbrev F : Automaton
  F = decode first

  pub result_front_room : (size.states < 65536) × (size.tags < 65536) × (size.rules < 65536) × (length (front form F size.states size.tags size.rules) ≤ length out)
  result_front_room = front_room form first second R size p.0 p.1 out (let n = result_lengths form F R same in let l = p.2 in omega arith)

  module _ (one : List ℕ) (e : ℕ) (l : Laid out one 0 e (front form F size.states size.tags size.rules)) where
    whole : Laid out one 0 e (front form F (length R.states) R.tags (length R.rules))
    whole = front_own form first second R size p.0 p.1 out one e l

    pub states_room : Ready first second R × (e + length (encode_states form R.states) ≤ length one)
    states_room =
        let n = result_lengths form F R same in let b = p.2 in let d = whole.ends in let m = laid_length whole in
        (p.0, omega arith)

    module _ (two : List ℕ) (e₂ : ℕ) (q : Laid one two e e₂ (encode_states form R.states)) where
      pub result_rules_room : e₂ + length (concat_map (encode_rule form) R.rules) ≤ length two
      result_rules_room =
          let n = result_lengths form F R same in let b = p.2 in
          let d = whole.ends in let m = laid_length whole in let d₂ = q.ends in let m₂ = laid_length q in
          omega arith

      pub result_laid : (last : List ℕ) (end : ℕ) → Laid two last e₂ end (concat_map (encode_rule form) R.rules) → Laid out last 0 end (encode form R)
      result_laid last end s = subst (Laid out last 0 end) (result_parts form F R same) (laid_then (laid_then whole q) s)
