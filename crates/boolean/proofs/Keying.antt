-- The keys of a result's rules in scratch space: room for them, and that they are in order. Assumes nothing.
use mathlib.Core.Path.{◌≡◌, sym, ap, ◌∙◌}
use mathlib.Core.List.{List, ◌++◌, map, append_assoc}
use Prim.Native.Nat.{ℕ, ◌+◌, ◌-◌, ◌≤◌}
use native.Mathlib.Omega.{arith}
use borrow.Rule.Slice.PartMut.{post_of, put_mid}
use lib.ListN.{length, take, drop, length-append, length-drop, length-map}
use lib.Seq.{take_at, drop_at, length-take-le}
use Rattle.model.specs.Limits.{max_rules}
use Rattle.model.specs.Automaton.{Automaton}
use Rattle.model.specs.Boolean.{shift_rule, pair_rules, union, product}
use Rattle.model.proofs.SoundUnion.{union_rules_lem}
use Rattle.model.proofs.SoundProduct.{product_rules}
use Rattle.automaton.specs.Stored.{decode}
use Rattle.automaton.proofs.Sound.{sound_decode}
use Rattle.boolean.specs.Key.{packed}
use Rattle.automaton.specs.Laid.{Laid}
use Rattle.boolean.specs.Merge.{ordered, merged, merged_at}
use Rattle.boolean.specs.Ready.{Ready, Keyed}
use Rattle.automaton.proofs.Laying.{laid_front, laid_length}
use Rattle.boolean.specs.Sounds.{ready_union, ready_product}
use Rattle.boolean.proofs.Results.{union_keys, product_keys}

-- the keys of all rules, put at the front
keyed_front : (R : Automaton) (z keys : List ℕ) (n : ℕ) → z ≡ map packed R.rules → n ≡ length R.rules → Keyed R (z ++ drop n keys) n
keyed_front R z keys n e en =
    let l : length z ≡ n = ap length e ∙ length-map R.rules packed ∙ sym en in
    record { few = let a = length-append z (drop n keys) in omega arith; holds = take_at z (drop n keys) n l ∙ e }

-- A union: the first's n keys, then the second's k, in scratch space; and merged.
module _ (first second : List ℕ) (h : Ready first second (union (decode first) (decode second))) (scratch : List ℕ) (wide : max_rules ≤ length scratch) (n k : ℕ) (en : n ≡ length (decode first).rules) (ek : k ≡ length (decode second).rules) where
  abbrev A : Automaton
  A = decode first

  abbrev B : Automaton
  B = decode second

  keys_room : n + k ≤ length scratch
  keys_room = omega (arith, h.rules, union_rules_lem A B)

  pub firsts_room : n ≤ length scratch
  firsts_room = let r = keys_room in omega arith

  pub firsts_count : length (take n scratch) ≡ n
  firsts_count = length-take-le n scratch firsts_room

  pub space_room : (keys : List ℕ) → max_rules ≤ length keys → n + k ≤ length keys
  space_room keys e = omega (arith, h.rules, union_rules_lem A B)

  pub space_count : (keys : List ℕ) → max_rules ≤ length keys → length (take (n + k) keys) ≡ n + k
  space_count keys e = length-take-le (n + k) keys (space_room keys e)

  module _ (x : List ℕ) (ex : x ≡ map packed (map (shift_rule 0 0) A.rules)) where
    x_long : length x ≡ n
    x_long = ap length ex ∙ length-map (map (shift_rule 0 0) A.rules) packed ∙ length-map A.rules (shift_rule 0 0) ∙ sym en

    pub seconds_end : n + k ≤ length (x ++ drop n scratch)
    seconds_end = let l = x_long in let a = length-append x (drop n scratch) in let d = length-drop n scratch in let r = keys_room in omega arith

    module _ (q t : ℕ) (eq : q ≡ length A.states) (et : t ≡ A.tags) (y : List ℕ) (ey : y ≡ map packed (map (shift_rule q t) B.rules)) where
      abbrev both : List ℕ
      both = put_mid n (n + k - n) (x ++ drop n scratch) y

      abbrev rest : List ℕ
      rest = post_of n (n + k - n) (x ++ drop n scratch)

      xy_long : length (x ++ y) ≡ n + k
      xy_long =
          let a = length-append x y in let l = x_long in
          let m : length y ≡ k = ap length ey ∙ length-map (map (shift_rule q t) B.rules) packed ∙ length-map B.rules (shift_rule q t) ∙ sym ek in
          omega arith

      parts : both ≡ x ++ y ++ rest
      parts = ap (λ (z : List ℕ). z ++ (y ++ rest)) (take_at x (drop n scratch) n x_long) ∙ sym (append_assoc x y rest)

      pub both_room : n + k ≤ length both
      both_room = let e = ap length parts in let a = length-append (x ++ y) rest in let l = xy_long in omega arith

      pub both_count : length (take (n + k) both) ≡ n + k
      both_count = length-take-le (n + k) both both_room

      pub merge_room : (keys : List ℕ) → max_rules ≤ length keys → (n ≤ length (take (n + k) both)) × (length (take (n + k) keys) ≡ length (take (n + k) both))
      merge_room keys e = let m = both_count in (omega arith, space_count keys e ∙ sym m)

      both_front : take (n + k) both ≡ x ++ y
      both_front = ap (take (n + k)) parts ∙ take_at (x ++ y) rest (n + k) xy_long

      pub union_keyed : (keys z : List ℕ) → z ≡ merged_at n (take (n + k) both) → Keyed (union A B) (z ++ drop (n + k) keys) (n + k)
      union_keyed keys z ez =
          keyed_front (union A B) z keys (n + k)
          (ez
          ∙ ap (merged_at n) both_front
          ∙ ap (λ (l : List ℕ). merged l (drop n (x ++ y))) (take_at x y n x_long)
          ∙ ap (merged x) (drop_at x y n x_long)
          ∙ ap (λ (l : List ℕ). merged l y) ex
          ∙ ap (merged (map packed (map (shift_rule 0 0) A.rules))) (ey ∙ ap (λ (j : ℕ). map packed (map (shift_rule j t) B.rules)) eq ∙ ap (λ (j : ℕ). map packed (map (shift_rule (length A.states) j) B.rules)) et)
          ∙ union_keys A B (sound_decode first h.first_sound) (sound_decode second h.second_sound) (ready_union first second h))
          (ap (◌+ k) en ∙ ap (length A.rules +◌) ek ∙ sym (union_rules_lem A B))

-- A product: the keys of the pairs at the front of a space; and sorted.
module _ (first second : List ℕ) (h : Ready first second (product (decode first) (decode second))) (before after : List ℕ) (n : ℕ) (p : Laid before after 0 n (map packed (pair_rules (length (decode second).states) (decode first).tags (decode first).rules (decode second).rules))) where
  abbrev F : Automaton
  F = decode first

  abbrev S : Automaton
  S = decode second

  abbrev pairs : List ℕ
  pairs = map packed (pair_rules (length S.states) F.tags F.rules S.rules)

  pub pairs_count : length (take n after) ≡ n
  pairs_count = length-take-le n after (let l = p.inside in let e = laid_length p in omega arith)

  pub product_keyed : (z : List ℕ) → z ≡ ordered (take n after) → Keyed (product F S) (z ++ drop n after) n
  product_keyed z ez =
      keyed_front (product F S) z after n
      (ez ∙ ap ordered (laid_front p) ∙ product_keys F S (sound_decode first h.first_sound) (sound_decode second h.second_sound) (ready_product first second h))
      (let l = length-map (pair_rules (length S.states) F.tags F.rules S.rules) packed in let e = p.ends in let d = product_rules F S in omega arith)
