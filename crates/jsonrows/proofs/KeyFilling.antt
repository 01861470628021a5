-- Lines entered one after the other: each is a key that is new, or the list does not fit. Assumes nothing.
use mathlib.Core.Path.{◌≡◌, refl, sym, ap, subst, ◌∙◌}
use mathlib.Core.Bool.{Bool, true, false}
use mathlib.Core.List.{List, []}
use mathlib.Core.Option.{none, some}
use Rattle.std.specs.Prelude.{Option as Maybe, Some, None, IfSome}
use Rattle.jsontext.specs.declared.tokens.Token.{Token}
use Prim.Native.Nat.{ℕ, zero, suc, ◌+◌, ◌-◌, ◌<◌, ◌≤◌, min}
use native.Mathlib.Nat.{add-zero, mod-lt}
use native.Mathlib.Numerals.{add-one}
use native.Mathlib.Omega.{arith}
use lib.ListN.{length, get_or, take, drop, set, replicate, length-set, length-replicate}
use lib.Seq.{get_or-drop, get_or-set_same, get_or-set_other}
use Rattle.model.specs.Lists.{eq_list}
use Rattle.document.specs.Index.{slot_count, probe, Indexed}
use Rattle.document.specs.declared.index.Probed.{Probed}
use Rattle.document.proofs.Probing.{Opens, Answers, known, free, indexed_none, indexed_more}
use Rattle.names.specs.Lines.{lines, line_count}
use Rattle.names.specs.Places.{Starts, Ended}
use Rattle.names.proofs.Scan.{starts_first, starts_next, one_left, none_left}
use Rattle.jsontext.specs.Decoded.{text_slot}
use Rattle.jsontext.specs.Tokens.{TokenOf}
use Rattle.jsonrows.specs.declared.keys.Line.{Line}
use Rattle.jsonrows.specs.Keys.{max_keys, key?, keys_fit?}
use Rattle.jsonrows.specs.KeyTable.{key_at, no_line, line_at, key_start, key_end, Stands, Tokened, LinePut, Entered, Told, line_entered, list_unfit, KeyTable, free_in, free_of}
use Rattle.jsonrows.proofs.Finding.{eq_eq_list, eq_list_eq}
use Rattle.jsonrows.proofs.Numbered.{each_more, distinct_more}
use Rattle.jsonrows.proofs.KeyLines.{all_apart, no_key, twice, lines_fit, many_lines, lines_unfit}
use Rattle.jsonrows.proofs.Keying.{probe_key}

-- a token whose numbers are the same
pub tokened_at : {line : List ℕ} {first last n first' last' n' : ℕ} → first' ≡ first → last' ≡ last → n' ≡ n → ((n ≡ 0 → ⊥) → TokenOf line first last n) → (n' ≡ 0 → ⊥) → TokenOf line first' last' n'
tokened_at {line} {last = last} {n} {first'} {last'} f l c x z =
    subst (λ k. TokenOf line first' last' k) (sym c)
    (subst (λ k. TokenOf line first' k n) (sym l) (subst (λ k. TokenOf line k last n) (sym f) (x (λ e. z (c ∙ e)))))

-- a line stands where its place is the same, and so does its token
stands_same : {list : List ℕ} {places more : List Line} {k : ℕ} → line_at more k ≡ line_at places k → Stands list places k → Stands list more k
stands_same {list} {places} {more} {k} s x =
    let start : key_start more k ≡ key_start places k = ap (λ (l : Line). l.start) s in
    let end : key_end more k ≡ key_end places k = ap (λ (l : Line). l.end) s in
    record {
      from = omega (arith, start, end, x.from);
      inside = omega (arith, end, x.inside);
      line = (λ i. take (end i - start i) (drop (start i) list)) ∙ x.line;
    }

tokened_same : {line : List ℕ} (places more : List Line) (k : ℕ) → line_at more k ≡ line_at places k → Tokened line places k → Tokened line more k
tokened_same places more k s x t e = x t (sym (ap (λ (l : Line). l.token) s) ∙ e)

-- what is said of a token that there is
pub token_told : {line : List ℕ} (o : Maybe Token) → IfSome o (λ t. TokenOf line t.first t.last t.length) → (k : Token) → o ≡ Some k → TokenOf line k.first k.last k.length
token_told {line} o h k e = subst (λ (o : Maybe Token). IfSome o (λ t. TokenOf line t.first t.last t.length)) e h

-- a line that is written is there with its places and its token, and other lines are as they were
module _ (places : List Line) (n a e : ℕ) (put : Line) (room : length places ≡ 64) (few : n < max_keys) (start : put.start ≡ a) (end : put.end ≡ e) where
  put_here : line_at (set places n put) n ≡ put
  put_here = get_or-set_same places n put no_line (omega (arith, room, few))

  pub line_put : {line : List ℕ} → ((k : Token) → put.token ≡ Some k → TokenOf line k.first k.last k.length) → LinePut line places (set places n put) n a e
  line_put token =
      record {
        room = length-set places n put ∙ room;
        start = ap (λ (l : Line). l.start) put_here ∙ start;
        end = ap (λ (l : Line). l.end) put_here ∙ end;
        token = λ k q. token k (sym (ap (λ (l : Line). l.token) put_here) ∙ q);
        others = λ k d. get_or-set_other places n k put no_line d;
      }

-- line n, which stands from a to e, is to be entered
module _ {list : List ℕ} {places : List Line} {slots : List ℕ} {n a e : ℕ} (x : Entered list places slots n) (s : Starts list n a) (d : Ended list a e) (before : a < length list) where
  abbrev line : List ℕ
  line = take (e - a) (drop a list)

  there : n < length (lines list)
  unfolding line_count
  there = one_left list n a s before

  line_is : line ≡ key_at list n
  line_is = d.line ∙ ap (λ ls. get_or ls 0 []) s.lines_from ∙ get_or-drop n (lines list) 0 [] ∙ ap (λ k. get_or (lines list) k []) (add-zero n)

  pub not_key : (r : Bool) → r ≡ key? line → r ≡ false → keys_fit? list ≡ false
  not_key r is f = lines_unfit list (no_key (lines list) n there (ap key? (sym line_is) ∙ sym is ∙ f))

  abbrev same? : ℕ → Bool
  same? k = eq_list line (key_at list k)

  -- an equal line is entered
  one_taken : {p : Probed} → Answers slots n same? (text_slot line) p → free_in p ≡ none → keys_fit? list ≡ false
  one_taken (known i l t q) f = lines_unfit list (twice (lines list) i n l there (sym (eq_list_eq line (key_at list i) t) ∙ line_is))
  one_taken (free u g q o) f = let z : ⊥ = cc in absurd z

  -- or none is, and the slot is free for it
  one_free : {p : Probed} (t : ℕ) → Answers slots n same? (text_slot line) p → free_in p ≡ some t → ((k : ℕ) → k < n → same? k ≡ false) × Opens slots (text_slot line) t
  one_free t (known i l u q) f = let z : ⊥ = cc in absurd z
  one_free t (free u g q o) f = let w : u ≡ t = cc in (g, subst (Opens slots (text_slot line)) w o)

  -- what the probe for it found
  module _ (slot : ℕ) (here : slot ≡ text_slot line) (r : Maybe ℕ) (found : free_of r ≡ free_in (probe slots same? slot)) where
    told : free_in (probe slots same? (text_slot line)) ≡ free_of r
    told = ap (λ i. free_in (probe slots same? i)) (sym here) ∙ sym found

    pub line_taken : r ≡ None → keys_fit? list ≡ false
    line_taken f = one_taken (probe_key x line) (told ∙ ap free_of f)

    module _ (t : ℕ) (f : r ≡ Some t) where
      fresh : ((k : ℕ) → k < n → same? k ≡ false) × Opens slots (text_slot line) t
      fresh = one_free t (probe_key x line) (told ∙ ap free_of f)

      pub slot_inside : t < slot_count
      slot_inside = let o = fresh.1 in let l = mod-lt (text_slot line + o.steps) {m = slot_count} (omega arith) in omega (arith, o.here, l)

      differs : (k : ℕ) → k < n → key_at list n ≡ key_at list k → ⊥
      differs k l q =
          let w : true ≡ false = sym (eq_eq_list line (key_at list k) (line_is ∙ q)) ∙ fresh.0 k l in
          cc

      -- its place is written
      module _ (put : Line) (start : put.start ≡ a) (end : put.end ≡ e) (token : (k : Token) → put.token ≡ Some k → TokenOf line k.first k.last k.length) (i : ℕ) (is : i ≡ n) (few : n < max_keys) where
        abbrev more : List Line
        more = set places i put

        written : LinePut line places more n a e
        written = subst (λ j. LinePut line places (set places j put) n a e) (sym is) (line_put places n a e put x.room few start end token)

        stands_here : Stands list more n
        stands_here =
            let s = written.start in
            let f = written.end in
            record {
              from = omega (arith, s, f, d.from);
              inside = omega (arith, f, d.inside);
              line = (λ i. take (f i - s i) (drop (s i) list)) ∙ line_is;
            }

        same_before : (k : ℕ) → k < n → line_at more k ≡ line_at places k
        same_before k l = written.others k (λ q. omega (arith, q, l))

        still_indexed : Indexed (set slots t (suc n)) (suc n) (λ k. text_slot (key_at list k))
        still_indexed = indexed_more slots n (λ k. text_slot (key_at list k)) t x.indexed (subst (λ l. Opens slots (text_slot l) t) line_is fresh.1)

        pub places_entered : key? line ≡ true → Entered list more (set slots t (n + 1)) (n + 1)
        places_entered key =
            record {
              few = omega (arith, few);
              room = written.room;
              inside = omega (arith, there);
              stands = each_more (Stands list more) n stands_here (λ k l. stands_same (same_before k l) (x.stands k l));
              keys = each_more (λ k. key? (key_at list k) ≡ true) n (ap key? (sym line_is) ∙ key) x.keys;
              distinct = distinct_more (key_at list) n x.distinct differs;
              indexed = subst (λ m. Indexed (set slots t m) m (λ k. text_slot (key_at list k))) (sym (add-one n)) still_indexed;
              tokens = each_more (λ k. Tokened (key_at list k) more k) n
                  (subst (λ bs. Tokened bs more n) line_is written.token)
                  (λ k l. tokened_same places more k (same_before k l) (x.tokens k l));
              others = λ k l. written.others k (λ q. omega (arith, q, l)) ∙ x.others k (omega (arith, l));
            }

module _ {list : List ℕ} {places : List Line} {slots : List ℕ} {n : ℕ} where
  pub entered_when : {r : Bool} → Told list places slots n r → r ≡ true → Entered list places slots (n + 1)
  entered_when (line_entered x) e = x
  entered_when (list_unfit f) e = let z : ⊥ = cc in absurd z

  pub unfit_when : {r : Bool} → Told list places slots n r → r ≡ false → keys_fit? list ≡ false
  unfit_when (line_entered x) e = let z : ⊥ = cc in absurd z
  unfit_when (list_unfit f) e = f

-- at the loop's head: the first n lines are entered, and the next one starts at a
pub record Filling (list : List ℕ) (places : List Line) (slots : List ℕ) (n a : ℕ) : Type 0 where
  pub starts : Starts list n a
  pub entered : Entered list places slots n

-- where no line stands anywhere, none stands at k
no_place : (n k : ℕ) → line_at (replicate n no_line) k ≡ no_line
no_place zero k = refl
no_place (suc n) zero = refl
no_place (suc n) (suc k) = no_place n k

pub filling_none : (list : List ℕ) (places : List Line) (slots : List ℕ) → places ≡ replicate 64 no_line → slots ≡ replicate slot_count 0 → Filling list places slots 0 0
filling_none list places slots z e =
    record {
      starts = starts_first list;
      entered = record {
        few = omega arith;
        room = ap length z ∙ length-replicate {A = Line} 64 no_line;
        inside = omega arith;
        stands = λ k m. let z : ⊥ = omega (arith, m) in absurd z;
        keys = λ k m. let z : ⊥ = omega (arith, m) in absurd z;
        distinct = λ j k m o q. let z : ⊥ = omega (arith, m) in absurd z;
        indexed = subst (λ s. Indexed s 0 (λ k. text_slot (key_at list k))) (sym e) (indexed_none (λ k. text_slot (key_at list k)));
        tokens = λ k m. let z : ⊥ = omega (arith, m) in absurd z;
        others = λ k m. ap (λ l. line_at l k) z ∙ no_place 64 k;
      };
    }

pub filling_more : {list : List ℕ} {places : List Line} {slots : List ℕ} {n a e r : ℕ} → Starts list n a → Ended list a e → r ≡ min (e + 1) (length list) → Entered list places slots (n + 1) → Filling list places slots (n + 1) r
filling_more s d is x = record { starts = starts_next _ _ _ s _ _ d is; entered = x }

module _ {list : List ℕ} {places : List Line} {slots : List ℕ} {n a : ℕ} (x : Filling list places slots n a) where
  pub too_many : a < length list → n ≡ max_keys → keys_fit? list ≡ false
  unfolding line_count
  too_many l e = many_lines list (omega (arith, one_left list n a x.starts l, e))

  all : length list ≤ a → n ≡ length (lines list)
  unfolding line_count
  all l = omega (arith, none_left list n a x.starts l, x.entered.inside)

  filled : length list ≤ a → KeyTable list places slots
  filled l = subst (Entered list places slots) (all l) x.entered

  pub list_fills : length list ≤ a → (true ≡ keys_fit? list) × (true ≡ true → KeyTable list places slots)
  list_fills l =
      let t = filled l in
      (sym (lines_fit list t.few (all_apart (lines list) t.keys t.distinct)), λ e. t)

pub list_fails : {list : List ℕ} {places : List Line} {slots : List ℕ} → keys_fit? list ≡ false → (false ≡ keys_fit? list) × (false ≡ true → KeyTable list places slots)
list_fails f = (sym f, λ e. let z : ⊥ = cc in absurd z)
