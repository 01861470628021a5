-- The order of rules: a strict order on keys, what ascending lists are, and that sorting is the only way to an ascending list. Assumes nothing.
use mathlib.Core.Path.{◌≡◌, refl, sym, ap, ◌∙◌, subst}
use mathlib.Core.Logic.{◌⊎◌, inl, inr, ⊎_elim, ◌↔◌}
use mathlib.Core.List.Memᴰ.{cases_cons as in_cons}
use mathlib.Core.List.Memᴰ.{head as here}
use mathlib.Core.List.Memᴰ.{not-nil}
use mathlib.Core.List.Memᴰ.{tail as there}
use mathlib.Core.List.{List, [], ◌∷◌, ◌++◌, Memᴰ as In}
use mathlib.Core.Bool.{Bool, true, false, ◌&&◌, ◌||◌, cond}
use Prim.Native.Nat.{ℕ, suc, ◌<◌, ◌≤◌}
use native.Mathlib.Omega.{arith}
use native.Mathlib.Decide.{dec_lt}
use lib.Dec.{T, eqb, ltb, eqb→eq, eqb_refl, ltb→lt, lt→ltb}
use lib.Seq.{ext_get_or, get_or_at}
use lib.ListN.{length, get_or, get_or-append}
use Rattle.model.specs.Limits.{max_children, unused}
use Rattle.model.specs.Lists.{tab}
use Rattle.model.specs.Automaton.{Rule, Automaton, OneRule}
use Rattle.model.specs.Order.{place, key, lower?, before?, Ascending, insert, sorted}
use Rattle.model.proofs.Members.{T_and, and_T, or_left, or_right}
use Rattle.model.proofs.Tab.{tab_at, length_tab}
use Rattle.model.proofs.Pairwise.{Pairwise, pairwise_at, at_pairwise, pairwise_weaken}

T-or : (a b : Bool) → T (a || b) → T a ⊎ T b
T-or true b h = inl tt
T-or false b h = inr h

-- the first place decides, or the rest does
abbrev pub Decided : ℕ → ℕ → List ℕ → List ℕ → Type 0
Decided x y a b = (x < y) ⊎ ((x ≡ y) × T (lower? a b))

pub lower_cons : (x y : ℕ) (a b : List ℕ) → T (lower? (x ∷ a) (y ∷ b)) ↔ Decided x y a b
lower_cons x y a b = (λ h. ⊎_elim (λ l. inl (ltb→lt x y l)) (λ g. let (e, l) = T_and (eqb x y) (lower? a b) g in inr (eqb→eq x y e, l)) (T-or (ltb x y) (eqb x y && lower? a b) h), back)
  where
    back : Decided x y a b → T (lower? (x ∷ a) (y ∷ b))
    back (inl l) = or_left (ltb x y) (eqb x y && lower? a b) (lt→ltb x y l)
    back (inr (e, l)) = or_right (ltb x y) (eqb x y && lower? a b) (and_T (eqb x y) (lower? a b) (subst (λ z. T (eqb x z)) e (eqb_refl x)) l)

-- `lower?` is a strict order, total on lists of one length: exactly one of lower, equal and higher holds.
pub lower_irreflexive : (a : List ℕ) → T (lower? a a) → ⊥
lower_irreflexive [] h = h
lower_irreflexive (x ∷ a) h = ⊎_elim (λ l. omega arith) (λ (e, l). lower_irreflexive a l) ((lower_cons x x a a).0 h)

pub lower_transitive : (a b c : List ℕ) → T (lower? a b) → T (lower? b c) → T (lower? a c)
lower_transitive [] b c h g = absurd h
lower_transitive (x ∷ a) [] c h g = absurd h
lower_transitive (x ∷ a) (y ∷ b) [] h g = absurd g
lower_transitive (x ∷ a) (y ∷ b) (z ∷ c) h g = (lower_cons x z a c).1 (go (lower_transitive a b c) ((lower_cons x y a b).0 h) ((lower_cons y z b c).0 g))
  where
    go : (T (lower? a b) → T (lower? b c) → T (lower? a c)) → Decided x y a b → Decided y z b c → Decided x z a c
    go ih (inl l) (inl m) = inl (omega arith)
    go ih (inl l) (inr (e, m)) = inl (omega arith)
    go ih (inr (e, l)) (inl m) = inl (omega arith)
    go ih (inr (e, l)) (inr (d, m)) = inr (e ∙ d, ih l m)

pub lower_total : (a b : List ℕ) → length a ≡ length b → T (lower? a b) ⊎ ((a ≡ b) ⊎ T (lower? b a))
lower_total [] [] h = inr (inl refl)
lower_total [] (y ∷ b) h = let z : ⊥ = omega arith in absurd z
lower_total (x ∷ a) [] h = let z : ⊥ = omega arith in absurd z
lower_total (x ∷ a) (y ∷ b) h = go (dec_lt x y) (dec_lt y x) (lower_total a b (omega arith))
  where
    go : Dec (x < y) → Dec (y < x) → T (lower? a b) ⊎ ((a ≡ b) ⊎ T (lower? b a)) → T (lower? (x ∷ a) (y ∷ b)) ⊎ ((x ∷ a ≡ y ∷ b) ⊎ T (lower? (y ∷ b) (x ∷ a)))
    go (yes l) d r = inl ((lower_cons x y a b).1 (inl l))
    go (no n) (yes l) r = inr (inr ((lower_cons y x b a).1 (inl l)))
    go (no n) (no m) (inl l) = inl ((lower_cons x y a b).1 (inr (omega arith, l)))
    go (no n) (no m) (inr (inl e)) = let d : x ≡ y = omega arith in inr (inl (cc))
    go (no n) (no m) (inr (inr l)) = inr (inr ((lower_cons y x b a).1 (inr (omega arith, l))))

-- the relations of an earlier rule to a later one
abbrev pub Before : Rule → Rule → Type 0
Before r s = T (before? r s)

abbrev pub OtherKey : Rule → Rule → Type 0
OtherKey r s = key r ≡ key s → ⊥

pub before_irreflexive : (r : Rule) → Before r r → ⊥
before_irreflexive r = lower_irreflexive (key r)

pub before_transitive : (r s t : Rule) → Before r s → Before s t → Before r t
before_transitive r s t = lower_transitive (key r) (key s) (key t)

pub before_total : (r s : Rule) → Before r s ⊎ ((key r ≡ key s) ⊎ Before s r)
before_total r s = lower_total (key r) (key s) refl

pub before_other : (r s : Rule) → Before r s → OtherKey r s
before_other r s h e = lower_irreflexive (key s) (subst (λ a. T (lower? a (key s))) e h)

-- What a key holds: the symbol, the child places, the target.
pub key_symbol_lem : (r s : Rule) → key r ≡ key s → r.symbol ≡ s.symbol
key_symbol_lem r s e = ap (λ (l : List ℕ). get_or l 0 0) e

after_symbol : (m : ℕ) (f : ℕ → ℕ) (t k : ℕ) → k < m → get_or (tab m f ++ t ∷ []) k 0 ≡ f k
after_symbol m f t k l = get_or-append (tab m f) (t ∷ []) 0 k (omega (arith, length_tab m f)) ∙ tab_at 0 m f k l

pub key_place : (r s : Rule) → key r ≡ key s → (k : ℕ) → k < max_children → place r k ≡ place s k
key_place r s e k l =
    sym (after_symbol max_children (place r) r.target k l)
    ∙ ap (λ (a : List ℕ). get_or a (suc k) 0) e
    ∙ after_symbol max_children (place s) s.target k l

pub key_target : (r s : Rule) → key r ≡ key s → r.target ≡ s.target
key_target r s e =
    sym (get_or_at (tab max_children (place r)) r.target [] 0 max_children (length_tab max_children (place r)))
    ∙ ap (λ (a : List ℕ). get_or a (suc max_children) 0) e
    ∙ get_or_at (tab max_children (place s)) s.target [] 0 max_children (length_tab max_children (place s))

-- Rules with as many children have one key only where they have the same children; what they forget is not in the key.
pub key_children : (r s : Rule) → length r.children ≡ length s.children → length r.children ≤ max_children → key r ≡ key s → r.children ≡ s.children
key_children r s same few e = ext_get_or unused r.children s.children same (λ i l. key_place r s e i (omega arith))

pub same_key : (r s : Rule) → r.symbol ≡ s.symbol → r.children ≡ s.children → r.target ≡ s.target → key r ≡ key s
same_key r s es ec et = λ i. es i ∷ tab max_children (λ k. get_or (ec i) k unused) ++ et i ∷ []

-- In an ascending list each earlier rule stands before each later one.
pub ascending_pairwise : (rs : List Rule) → Ascending rs → Pairwise Before rs
ascending_pairwise [] h = tt
ascending_pairwise (r ∷ []) h = (λ y m. absurd (not-nil m), tt)
ascending_pairwise (r ∷ s ∷ rs) h = go (ascending_pairwise (s ∷ rs) h.1)
  where
    go : Pairwise Before (s ∷ rs) → Pairwise Before (r ∷ s ∷ rs)
    go g = (λ y m. ⊎_elim (λ e. subst (Before r) (sym e) h.0) (λ n. before_transitive r s y h.0 (g.0 y n)) (in_cons m), g)

pub pairwise_ascending : (rs : List Rule) → Pairwise Before rs → Ascending rs
pairwise_ascending [] h = tt
pairwise_ascending (r ∷ []) h = tt
pairwise_ascending (r ∷ s ∷ rs) h = (h.0 s (here refl), pairwise_ascending (s ∷ rs) h.1)

pub ascending_at : (d : Rule) (rs : List Rule) → Ascending rs ↔ ((i j : ℕ) → i < j → j < length rs → Before (get_or rs i d) (get_or rs j d))
ascending_at d rs = (λ h. pairwise_at Before d rs (ascending_pairwise rs h), λ h. pairwise_ascending rs (at_pairwise Before d rs h))

-- .. and it is enough that each rule stands before the next
pub ascending_next : (d : Rule) (rs : List Rule) → Ascending rs ↔ ((i : ℕ) → suc i < length rs → Before (get_or rs i d) (get_or rs (suc i) d))
ascending_next d rs = (λ h i l. (ascending_at d rs).0 h i (suc i) (omega arith) l, back rs)
  where
    back : (rs : List Rule) → ((i : ℕ) → suc i < length rs → Before (get_or rs i d) (get_or rs (suc i) d)) → Ascending rs
    back [] h = tt
    back (r ∷ []) h = tt
    back (r ∷ s ∷ rs) h = (h 0 (omega arith), back (s ∷ rs) (λ i l. h (suc i) (omega arith)))

-- .. so no two of its rules have one key
pub ascending_other : (rs : List Rule) → Ascending rs → Pairwise OtherKey rs
ascending_other rs h = pairwise_weaken Before OtherKey rs before_other (ascending_pairwise rs h)

-- .. and two of its rules with one key are one rule: the key tells what a rule forgets
pub one_key : (rs : List Rule) → Pairwise OtherKey rs → {r s : Rule} → In r rs → In s rs → key r ≡ key s → r ≡ s
one_key [] h m n e = absurd (not-nil m)
one_key (x ∷ rs) h {r} {s} m n e =
    ⊎_elim
    (λ q. ⊎_elim (λ q'. q ∙ sym q') (λ n'. absurd (h.0 s n' (ap key (sym q) ∙ e))) (in_cons n))
    (λ m'. ⊎_elim (λ q'. absurd (h.0 r m' (ap key (sym q') ∙ sym e))) (λ n'. one_key rs h.1 m' n' e) (in_cons n))
    (in_cons m)

-- A rule stands once.
pub ascending_once : (A : Automaton) → Ascending A.rules → OneRule A
ascending_once A h r s ir is es ec et = ap (λ (x : Rule). x.forget) (one_key A.rules (ascending_other A.rules h) ir is (same_key r s es ec et))

-- sorting keeps the members
in_insert : (r : Rule) (rs : List Rule) {y : Rule} → In y (insert r rs) → In y (r ∷ rs)
in_insert r [] h = h
in_insert r (s ∷ rs) {y = y} h = go (before? s r) h (λ g. in_insert r rs g)
  where
    go : (b : Bool) → In y (cond b (s ∷ insert r rs) (r ∷ s ∷ rs)) → (In y (insert r rs) → In y (r ∷ rs)) → In y (r ∷ s ∷ rs)
    go false g ih = g
    go true g ih = ⊎_elim (λ e. there (here e)) (λ m. ⊎_elim here (λ n. there (there n)) (in_cons (ih m))) (in_cons g)

insert_in : (r : Rule) (rs : List Rule) {y : Rule} → In y (r ∷ rs) → In y (insert r rs)
insert_in r [] h = h
insert_in r (s ∷ rs) {y = y} h = go (before? s r) (λ g. insert_in r rs g)
  where
    go : (b : Bool) → (In y (r ∷ rs) → In y (insert r rs)) → In y (cond b (s ∷ insert r rs) (r ∷ s ∷ rs))
    go false ih = h
    go true ih = ⊎_elim (λ e. there (ih (here e))) (λ m. ⊎_elim here (λ n. there (ih (there n))) (in_cons m)) (in_cons h)

pub in_sorted : (rs : List Rule) {y : Rule} → In y (sorted rs) → In y rs
in_sorted [] h = h
in_sorted (r ∷ rs) h = ⊎_elim here (λ m. there (in_sorted rs m)) (in_cons (in_insert r (sorted rs) h))

pub sorted_in : (rs : List Rule) {y : Rule} → In y rs → In y (sorted rs)
sorted_in [] h = h
sorted_in (r ∷ rs) h = insert_in r (sorted rs) (⊎_elim here (λ m. there (sorted_in rs m)) (in_cons h))

pub length_sorted : (rs : List Rule) → length (sorted rs) ≡ length rs
length_sorted [] = refl
length_sorted (r ∷ rs) = length_insert r (sorted rs) ∙ ap suc (length_sorted rs)
  where
    length_insert : (r : Rule) (rs : List Rule) → length (insert r rs) ≡ suc (length rs)
    length_insert r [] = refl
    length_insert r (s ∷ rs) = go (before? s r) (length_insert r rs)
      where
        go : (b : Bool) → length (insert r rs) ≡ suc (length rs) → length (cond b (s ∷ insert r rs) (r ∷ s ∷ rs)) ≡ suc (suc (length rs))
        go true e = ap suc e
        go false e = refl

insert_pairwise : (r : Rule) (rs : List Rule) → ((s : Rule) → In s rs → OtherKey r s) → Pairwise Before rs → Pairwise Before (insert r rs)
insert_pairwise r [] other h = (λ y m. absurd (not-nil m), tt)
insert_pairwise r (s ∷ rs) other h = go (before? s r) refl (insert_pairwise r rs (λ y m. other y (there m)) h.1)
  where
    first : (before? s r ≡ false) → Before r s
    first e = ⊎_elim (λ l. l) (⊎_elim (λ k. absurd (other s (here refl) k)) (λ l. absurd (subst T e l))) (before_total r s)

    go : (b : Bool) → before? s r ≡ b → Pairwise Before (insert r rs) → Pairwise Before (cond b (s ∷ insert r rs) (r ∷ s ∷ rs))
    go true e ih = (λ y m. ⊎_elim (λ q. subst (Before s) (sym q) (rw e tt)) (h.0 y) (in_cons (in_insert r rs m)), ih)
    go false e ih = (λ y m. ⊎_elim (λ q. subst (Before r) (sym q) (first e)) (λ n. before_transitive r s y (first e) (h.0 y n)) (in_cons m), h)

-- Sorting rules with pairwise different keys makes them ascend.
pub sorted_ascending : (rs : List Rule) → Pairwise OtherKey rs → Ascending (sorted rs)
sorted_ascending rs h = pairwise_ascending (sorted rs) (go rs h)
  where
    go : (rs : List Rule) → Pairwise OtherKey rs → Pairwise Before (sorted rs)
    go [] h = tt
    go (r ∷ rs) h = insert_pairwise r (sorted rs) (λ s m. h.0 s (in_sorted rs m)) (go rs h.1)

-- Two ascending lists with the same rules are equal: however the rules are sorted, this is what comes out.
pub ascending_unique : (xs ys : List Rule) → Ascending xs → Ascending ys → ((r : Rule) → In r xs ↔ In r ys) → xs ≡ ys
ascending_unique xs ys h g same = unique xs ys (ascending_pairwise xs h) (ascending_pairwise ys g) same
  where
    head : (x y : Rule) (xs ys : List Rule) → Pairwise Before (x ∷ xs) → Pairwise Before (y ∷ ys) → In x (y ∷ ys) → In y (x ∷ xs) → x ≡ y
    head x y xs ys h g m n = ⊎_elim (λ e. e) (λ m'. ⊎_elim sym (λ n'. absurd (before_irreflexive x (before_transitive x y x (h.0 y n') (g.0 x m')))) (in_cons n)) (in_cons m)

    tail : (x y : Rule) (xs ys : List Rule) → x ≡ y → Pairwise Before (x ∷ xs) → (r : Rule) → In r xs → In r (y ∷ ys) → In r ys
    tail x y xs ys e h r m n = ⊎_elim (λ q. absurd (before_irreflexive r (subst (λ z. Before z r) (e ∙ sym q) (h.0 r m)))) (λ n'. n') (in_cons n)

    unique : (xs ys : List Rule) → Pairwise Before xs → Pairwise Before ys → ((r : Rule) → In r xs ↔ In r ys) → xs ≡ ys
    unique [] [] h g same = refl
    unique [] (y ∷ ys) h g same = absurd (not-nil ((same y).1 (here refl)))
    unique (x ∷ xs) [] h g same = absurd (not-nil ((same x).0 (here refl)))
    unique (x ∷ xs) (y ∷ ys) h g same =
        let e = head x y xs ys h g ((same x).0 (here refl)) ((same y).1 (here refl)) in
        cc (e, unique xs ys h.1 g.1 (λ r. (λ m. tail x y xs ys e h r m ((same r).0 (there m)), λ m. tail y x ys xs (sym e) g r m ((same r).1 (there m)))))

-- What ascends and has the rules of a list is the list sorted.
pub is_sorted : (xs ys : List Rule) → Pairwise OtherKey xs → Ascending ys → ((r : Rule) → In r ys ↔ In r xs) → ys ≡ sorted xs
is_sorted xs ys h g same = ascending_unique ys (sorted xs) g (sorted_ascending xs h) (λ r. (λ m. sorted_in xs ((same r).0 m), λ m. (same r).1 (in_sorted xs m)))
