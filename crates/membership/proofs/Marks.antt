-- Marks in the work space: which annotations are reached. Assumes nothing.
use mathlib.Core.Path.{◌≡◌, refl, sym, ap, ◌∙◌, subst}
use mathlib.Core.Logic.{◌⊎◌, inl, inr, ⊎_elim}
use mathlib.Core.List.{List}
use mathlib.Core.Bool.{Bool, true, false, ◌&&◌, cond}
use Prim.Native.Nat.{ℕ, ◌+◌, ◌*◌, ◌/◌, ◌-◌, ◌<◌, ◌≤◌}
use native.Mathlib.Omega.{arith}
use native.Mathlib.Decide.{ℕ_discrete}
use borrow.Author.Rules.{rules}
use borrow.Author.Tests.{eq-eqb, ne_eqb, lt-ltb, le-ltb}
use lib.Dec.{T, eqb}
use lib.ListN.{length, get_or, set, length-set}
use lib.Seq.{get_or-set_same, get_or-set_other}
use Rattle.std.specs.Prelude.{Option, Some, None, MatchOption}
use Rattle.model.specs.Limits.{max_children, unused}
use Rattle.model.specs.Automaton.{Automaton, final?}
use Rattle.model.proofs.Members.{T_true}
use Rattle.document.specs.Rows.{row_cells, decode_rows}
use Rattle.document.proofs.Places.{rows_length}
use Rattle.membership.specs.Cells.{cell_of, child_in}
use Rattle.membership.specs.Trace.{reached?, KeptBut, ReachedMore, Unmarked, ChildBelow, ChildOf, ChildrenReached, Traced, number_at, accepting_in, FirstOf}

of_true : (b : Bool) → b ≡ true → T b
of_true b e = (T_true b).1 e

not_both : {A : Type 0} (b : Bool) → T b → b ≡ false → A
not_both b t e = absurd (subst T e t)

-- a mark set or taken away
module _ (work : List ℕ) (j v : ℕ) where
  put_kept : KeptBut 26 work (set work (j * 32 + 26) v)
  unfolding cell_of
  put_kept i k l other = get_or-set_other work (j * 32 + 26) (i * 32 + k) v 0 (λ e. other (omega arith))

  put_others : (x : ℕ) → (x ≡ j → ⊥) → reached? (set work (j * 32 + 26) v) x ≡ reached? work x
  unfolding reached? cell_of
  put_others x other = ap (λ z. eqb z 1) (get_or-set_other work (j * 32 + 26) (x * 32 + 26) v 0 (λ e. other (omega arith)))

  put_this : j * 32 + 32 ≤ length work → reached? (set work (j * 32 + 26) v) j ≡ eqb v 1
  unfolding reached? cell_of
  put_this l = ap (λ z. eqb z 1) (get_or-set_same work (j * 32 + 26) v 0 (omega arith))

pub reach_more : (work : List ℕ) (j : ℕ) → j * 32 + 32 ≤ length work → ReachedMore work j (set work (j * 32 + 26) 1)
reach_more work j l = record { kept = put_kept work j 1; this = put_this work j 1 l; others = put_others work j 1 }

-- none of the first k is reached
pub record Unmarking (before : List ℕ) (n : ℕ) (after : List ℕ) (k : ℕ) : Type 0 where
  pub space : length after ≡ length before
  pub inside : k ≤ n
  pub unmarked : Unmarked before k after

module _ (before : List ℕ) (n : ℕ) where
  pub unmark_none : Unmarking before n before 0
  unmark_none = record { space = refl; inside = omega arith; unmarked = record { kept = λ i k l other. refl; none = λ j l. let z : ⊥ = omega arith in absurd z } }

  pub unmark_more : (after : List ℕ) (k : ℕ) → Unmarking before n after k → k < n → n * 32 ≤ length before → Unmarking before n (set after (k * 32 + 26) 0) (k + 1)
  unmark_more after k h l fits =
      record {
        space = length-set after (k * 32 + 26) 0 ∙ h.space;
        inside = omega arith;
        unmarked = record {
          kept = λ i c lc other. put_kept after k 0 i c lc other ∙ h.unmarked.kept i c lc other;
          none = λ j m. go j m (ℕ_discrete j k);
        };
      }
    where
      go : (j : ℕ) → j < k + 1 → Dec (j ≡ k) → reached? (set after (k * 32 + 26) 0) j ≡ false
      go j m (yes q) = rw q (put_this after k 0 (omega (arith, h.space)))
      go j m (no q) = put_others after k 0 j q ∙ h.unmarked.none j (omega (arith, q))

  pub unmark_all : (after : List ℕ) (k : ℕ) → Unmarking before n after k → n ≤ k → Unmarked before n after
  unmark_all after k h l = record { kept = h.unmarked.kept; none = λ j m. h.unmarked.none j (omega arith) }

pub ruleset unmarks = (unmark_none, unmark_more, unmark_all, rules)

-- what `find` answers over the numbers below n
pub first_of : (f : ℕ → Bool) (n : ℕ) (r : Option ℕ) → MatchOption r ((k : ℕ) → 0 ≤ k → k < n → f k ≡ false) (λ i. (0 ≤ i) × (i < n) × (f i ≡ true) × ((k : ℕ) → 0 ≤ k → k < i → f k ≡ false)) → FirstOf f n r
first_of f n None h = λ k l. h k (omega arith) l
first_of f n (Some i) (a, l, found, before) = (l, found, λ k m. before k (omega arith) m)

-- a child annotation is read from cells that the marks leave alone
child_kept : (before after : List ℕ) → KeptBut 26 before after → (j p : ℕ) → p < max_children → child_in after j p ≡ child_in before j p
unfolding child_in
child_kept before after kept j p l = kept j (20 + p) (omega arith) (λ e. omega arith)

child_moved : (before after : List ℕ) → KeptBut 26 before after → (j x : ℕ) → ChildOf after j x → ChildOf before j x
child_moved before after kept j x c = record { place = c.place; is_place = c.is_place; holds = sym (child_kept before after kept j c.place c.is_place) ∙ c.holds; lower = c.lower }

child_back : (before after : List ℕ) → KeptBut 26 before after → (j x : ℕ) → ChildOf before j x → ChildOf after j x
child_back before after kept j x c = record { place = c.place; is_place = c.is_place; holds = child_kept before after kept j c.place c.is_place ∙ c.holds; lower = c.lower }

-- the child annotations in the first p places are reached
pub record Reaching (before : List ℕ) (j : ℕ) (after : List ℕ) (p : ℕ) : Type 0 where
  pub space : length after ≡ length before
  pub inside : p ≤ max_children
  pub kept : KeptBut 26 before after
  pub stays : (x : ℕ) → T (reached? before x) → T (reached? after x)
  pub reaches : (x : ℕ) → ChildBelow before p j x → T (reached? after x)
  pub only : (x : ℕ) → T (reached? after x) → T (reached? before x) ⊎ ChildBelow before p j x

module _ (before : List ℕ) (j : ℕ) where
  pub reaching_none : Reaching before j before 0
  reaching_none =
      record {
        space = refl;
        inside = omega arith;
        kept = λ i k l other. refl;
        stays = λ x t. t;
        reaches = λ x c. let h = c.is_place in let z : ⊥ = omega arith in absurd z;
        only = λ x t. inl t;
      }

  module _ (after : List ℕ) (p x : ℕ) (h : Reaching before j after p) (l : p < max_children) (ex : x ≡ child_in after j p) where
    this_child : child_in before j p ≡ x
    this_child = sym (child_kept before after h.kept j p l) ∙ sym ex

    earlier : (y : ℕ) (c : ChildBelow before (p + 1) j y) → (c.place ≡ p → ⊥) → ChildBelow before p j y
    earlier y c other = record { place = c.place; is_place = let g = c.is_place in omega (arith, other); holds = c.holds; lower = c.lower }

    pub reaching_more : (after' : List ℕ) → x < j → ReachedMore after x after' → length after' ≡ length after → Reaching before j after' (p + 1)
    reaching_more after' low m e =
        record {
          space = e ∙ h.space;
          inside = omega arith;
          kept = λ i k lk other. m.kept i k lk other ∙ h.kept i k lk other;
          stays = λ y t. grown y (h.stays y t);
          reaches = λ y c. go y c (ℕ_discrete c.place p);
          only = λ y t. back y t (ℕ_discrete y x);
        }
      where
        grown : (y : ℕ) → T (reached? after y) → T (reached? after' y)
        grown y t = pick (ℕ_discrete y x)
          where
            pick : Dec (y ≡ x) → T (reached? after' y)
            pick (yes q) = of_true _ (ap (reached? after') q ∙ m.this)
            pick (no q) = subst T (sym (m.others y q)) t

        go : (y : ℕ) (c : ChildBelow before (p + 1) j y) → Dec (c.place ≡ p) → T (reached? after' y)
        go y c (yes q) = of_true _ (ap (reached? after') (sym c.holds ∙ ap (child_in before j) q ∙ this_child) ∙ m.this)
        go y c (no q) = grown y (h.reaches y (earlier y c q))

        back : (y : ℕ) → T (reached? after' y) → Dec (y ≡ x) → T (reached? before y) ⊎ ChildBelow before (p + 1) j y
        back y t (yes q) = inr (record { place = p; is_place = omega arith; holds = this_child ∙ sym q; lower = subst (λ z. z < j) (sym q) low })
        back y t (no q) = ⊎_elim inl (λ c. inr (record { place = c.place; is_place = let g = c.is_place in omega arith; holds = c.holds; lower = c.lower })) (h.only y (subst T (m.others y q) t))

    pub reaching_skip : j ≤ x → Reaching before j after (p + 1)
    reaching_skip high =
        record {
          space = h.space;
          inside = omega arith;
          kept = h.kept;
          stays = h.stays;
          reaches = λ y c. go y c (ℕ_discrete c.place p);
          only = λ y t. ⊎_elim inl (λ c. inr (record { place = c.place; is_place = let g = c.is_place in omega arith; holds = c.holds; lower = c.lower })) (h.only y t);
        }
      where
        go : (y : ℕ) (c : ChildBelow before (p + 1) j y) → Dec (c.place ≡ p) → T (reached? after y)
        go y c (yes q) = let e = sym c.holds ∙ ap (child_in before j) q ∙ this_child in let g = c.lower in let z : ⊥ = omega arith in absurd z
        go y c (no q) = h.reaches y (earlier y c q)

  pub reaching_all : (after : List ℕ) (p : ℕ) → Reaching before j after p → max_children ≤ p → ChildrenReached before j after
  reaching_all after p h l =
      record {
        kept = h.kept;
        stays = h.stays;
        reaches = λ x c. h.reaches x (record { place = c.place; is_place = let g = c.is_place in omega arith; holds = c.holds; lower = c.lower });
        only = λ x t. ⊎_elim inl (λ c. let i = h.inside in inr (record { place = c.place; is_place = let g = c.is_place in omega arith; holds = c.holds; lower = c.lower })) (h.only x t);
      }

pub ruleset reaches = (reaching_none, reaching_more, reaching_skip, reaching_all, rules)

-- the annotations from i on are done
pub record Tracing (before : List ℕ) (root : ℕ) (after : List ℕ) (i : ℕ) : Type 0 where
  pub space : length after ≡ length before
  pub inside : i ≤ root + 1
  pub kept : KeptBut 26 before after
  pub from : T (reached? after root)
  pub closed : (j x : ℕ) → i ≤ j → j ≤ root → T (reached? after j) → ChildOf after j x → T (reached? after x)
  pub used : (x : ℕ) → x < root → T (reached? after x) → (j : ℕ) × (i ≤ j) × (j ≤ root) × T (reached? after j) × ChildOf after j x

-- the loop starts where only the root is reached
pub tracing_start : (first mid before : List ℕ) (root : ℕ) → Unmarked first root mid → ReachedMore mid root before → Tracing before root before (root + 1)
tracing_start first mid before root f m =
    record {
      space = refl;
      inside = omega arith;
      kept = λ i k l other. refl;
      from = of_true _ m.this;
      closed = λ j x l l'. let z : ⊥ = omega arith in absurd z;
      used = λ x l t. not_both (reached? before x) t (m.others x (λ q. omega arith) ∙ f.none x l);
    }

module _ (before : List ℕ) (root : ℕ) where
  module _ (after : List ℕ) (i : ℕ) (h : Tracing before root after i) (some : 0 < i) where
    pub tracing_more : (after' : List ℕ) (r : Bool) → r ≡ reached? after (i - 1) → r ≡ true → ChildrenReached after (i - 1) after' → length after' ≡ length after → Tracing before root after' (i - 1)
    tracing_more after' r er t c e =
        record {
          space = e ∙ h.space;
          inside = let g = h.inside in omega arith;
          kept = λ j k l other. c.kept j k l other ∙ h.kept j k l other;
          from = c.stays root h.from;
          closed = λ j x l l' tj cj. go j x l l' tj cj (ℕ_discrete j (i - 1));
          used = λ x l tx.
              ⊎_elim
              (λ tx'. let (j, a, b, tj, cj) = h.used x l tx' in (j, omega arith, b, c.stays j tj, child_back after after' c.kept j x cj))
              (λ cx. let g = h.inside in (i - 1, omega arith, omega arith, c.stays (i - 1) this, child_back after after' c.kept (i - 1) x cx))
              (c.only x tx);
        }
      where
        this : T (reached? after (i - 1))
        this = of_true _ (sym er ∙ t)

        go : (j x : ℕ) → i - 1 ≤ j → j ≤ root → T (reached? after' j) → ChildOf after' j x → Dec (j ≡ i - 1) → T (reached? after' x)
        go j x l l' tj cj (yes q) = c.reaches x (subst (λ z. ChildOf after z x) q (child_moved after after' c.kept j x cj))
        go j x l l' tj cj (no q) =
            ⊎_elim (λ tj'. c.stays x (h.closed j x (omega (arith, q)) l' tj' (child_moved after after' c.kept j x cj)))
            (λ cx. let g = cx.lower in let z : ⊥ = omega arith in absurd z)
            (c.only j tj)

    pub tracing_skip : (r : Bool) → r ≡ reached? after (i - 1) → r ≡ false → Tracing before root after (i - 1)
    tracing_skip r er t =
        record {
          space = h.space;
          inside = let g = h.inside in omega arith;
          kept = h.kept;
          from = h.from;
          closed = λ j x l l' tj cj. go j x l l' tj cj (ℕ_discrete j (i - 1));
          used = λ x l tx. let (j, a, b, tj, cj) = h.used x l tx in (j, omega arith, b, tj, cj);
        }
      where
        go : (j x : ℕ) → i - 1 ≤ j → j ≤ root → T (reached? after j) → ChildOf after j x → Dec (j ≡ i - 1) → T (reached? after x)
        go j x l l' tj cj (yes q) = not_both (reached? after j) tj (ap (reached? after) q ∙ sym er ∙ t)
        go j x l l' tj cj (no q) = h.closed j x (omega (arith, q)) l' tj cj

pub tracing_all : (first mid before after : List ℕ) (root i : ℕ) → Unmarked first root mid → ReachedMore mid root before → Tracing before root after i → i ≤ 0 → Traced first root after
tracing_all first mid before after root i f m h l =
    record {
      kept = λ j k lk other. h.kept j k lk other ∙ m.kept j k lk other ∙ f.kept j k lk other;
      reached = record {
        from = h.from;
        closed = λ j x l' t c. h.closed j x (omega arith) l' t c;
        used = λ x l' t. let (j, a, b, tj, cj) = h.used x l' t in (j, b, tj, cj);
      };
    }

-- the numbers of the child annotations' steps
pub number_some : (work : List ℕ) (j p x y : ℕ) → x ≡ child_in work j p → x < j → y ≡ cell_of work x 27 → y ≡ number_at work j p
number_some work j p x y e l ey =
    ey ∙ ap (λ z. cell_of work z 27) e ∙ sym (ap (λ b. cond b (cell_of work (child_in work j p) 27) unused) (lt-ltb (child_in work j p) j (subst (λ z. z < j) e l)))

pub number_none : (work : List ℕ) (j p x : ℕ) → x ≡ child_in work j p → j ≤ x → unused ≡ number_at work j p
number_none work j p x e l = sym (ap (λ b. cond b (cell_of work (child_in work j p) 27) unused) (le-ltb (child_in work j p) j (subst (λ z. j ≤ z) e l)))

pub ruleset numbers = (number_some, number_none, rules)

-- what is read of an annotation
pub cell_read : (work : List ℕ) (j k : ℕ) → get_or work (j * 32 + k) 0 ≡ cell_of work j k
unfolding cell_of
cell_read work j k = refl

pub child_read : (work : List ℕ) (j s p y r : ℕ) → y ≡ cell_of work s (20 + p) → s ≡ j → r ≡ y → r ≡ child_in work j p
unfolding child_in
child_read work j s p y r e es er = er ∙ e ∙ ap (λ z. cell_of work z (20 + p)) es

pub reached_read : (work : List ℕ) (j x : ℕ) → x ≡ cell_of work j 26 → eqb x 1 ≡ reached? work j
unfolding reached?
reached_read work j x e = ap (λ z. eqb z 1) e

pub accepting_read : (A : Automaton) (work : List ℕ) (j last x y : ℕ) (r : Bool) → x ≡ cell_of work j 0 → x ≡ last → y ≡ cell_of work j 1 → r ≡ final? A y → r ≡ accepting_in A last work j
accepting_read A work j last x y r ex el ey er =
    er ∙ ap (final? A) ey ∙ sym (ap (λ b. b && final? A (cell_of work j 1)) (eq-eqb (cell_of work j 0) last (sym ex ∙ el)))

pub other_read : (A : Automaton) (work : List ℕ) (j last x : ℕ) → x ≡ cell_of work j 0 → (x ≡ last → ⊥) → false ≡ accepting_in A last work j
other_read A work j last x ex h = sym (ap (λ b. b && final? A (cell_of work j 1)) (ne_eqb (cell_of work j 0) last (λ e. h (ex ∙ e))))

pub ruleset reads = (cell_read, child_read, reached_read, accepting_read, other_read, reach_more, rules)

-- the last row
module _ (cells : List ℕ) (n : ℕ) (e : n ≡ length cells / row_cells) where
  pub row_some : 0 < length (decode_rows cells) → 1 ≤ n
  row_some l = let h = rows_length cells in omega arith

  pub row_last : n - 1 ≡ length (decode_rows cells) - 1
  row_last = let h = rows_length cells in omega arith

  pub row_narrow : length (decode_rows cells) ≤ 1024 → n - 1 < 65536
  row_narrow l = let h = rows_length cells in omega arith

pub last_is : (cells : List ℕ) (n r : ℕ) → n ≡ length cells / row_cells → r ≡ n - 1 → r ≡ length (decode_rows cells) - 1
last_is cells n r e er = er ∙ row_last cells n e

pub ruleset lasts = (row_some, row_last, row_narrow, last_is, rules)
