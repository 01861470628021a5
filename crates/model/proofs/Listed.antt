-- The computed list holds exactly the annotations that derive, each once. Assumes nothing.
use mathlib.Core.Path.{◌≡◌, refl, sym, ap, subst}
use mathlib.Core.Logic.{⊎_elim, ◌↔◌}
use mathlib.Core.List.Memᴰ.{eq_of_singleton}
use mathlib.Core.List.Memᴰ.{head as here}
use mathlib.Core.List.Memᴰ.{not-nil}
use mathlib.Core.List.Memᴰ.{tail as there}
use mathlib.Core.List.{List, [], ◌∷◌, ◌++◌, map, Memᴰ as In}
use mathlib.Core.Bool.{Bool, true, false, cond}
use Prim.Native.Nat.{ℕ, zero, suc, ◌<◌, ◌≤◌}
use native.Mathlib.Omega.{arith}
use native.Mathlib.Nat.{eq-or-lt_of_le, le_of_suc-le-suc, le_antisymm}
use lib.Dec.{T, eqb, eqb→eq, eqb_refl}
use lib.ListN.{length}
use Rattle.model.specs.Lists.{concat_map, only, any}
use Rattle.model.specs.Automaton.{Rule, Automaton}
use Rattle.model.specs.Table.{Row, row_at, Lower}
use Rattle.model.specs.Annotation.{Memory, Annotation, annotation, empty_memory, agree?, joined, kept, finish, Derivable, derived, Joins, joins_none, joins_more, eq_annotation, memories, choices, by_rule, add_new, annotations_below, annotations}
use Rattle.model.proofs.Members.{any_in, eq_annotation_refl, in_concat_map, concat_map_in, in_map, map_in, in_only, only_in, in_add_new, add_new_known, add_new_new, in_memories, memories_in}
use Rattle.model.proofs.Count.{NoRepeats, one_more, no_longer}
use Rattle.model.proofs.Derivable.{row_known}

module _ (A : Automaton) (rows : List Row) where
  abbrev Derives : Annotation → Type 0
  Derives a = Derivable A rows a.row a.state a.memory

  moved : (a : Annotation) (x : Memory) (c q : ℕ) → a.row ≡ c → a.state ≡ q → x ≡ a.memory → Derives a → Derivable A rows c q x
  moved a x c q er es em d = rw (← er, ← es, em) d

  -- a computed annotation derives
  choices_join : (known : List Annotation) → ((a : Annotation) → In a known → Derives a) → (cs qs : List ℕ) (m : Memory) {y : Memory} → In y (choices known m cs qs) → Joins A rows m cs qs y
  choices_join known h [] [] m i = subst (Joins A rows m [] []) (sym (eq_of_singleton i)) joins_none
  choices_join known h [] (q ∷ qs) m i = absurd (not-nil i)
  choices_join known h (c ∷ cs) [] m i = absurd (not-nil i)
  choices_join known h (c ∷ cs) (q ∷ qs) m i =
      let (x, ix, iy) = in_concat_map (λ x. only (agree? m x) (choices known (joined m x) cs qs)) (memories known c q) i in
      let (a, ia, er, es, em) = in_memories known c q ix in
      let (t, iy') = in_only (agree? m x) (choices known (joined m x) cs qs) iy in
      joins_more (moved a x c q er es em (h a ia)) t (choices_join known h cs qs (joined m x) iy')

  rule_derives : (known : List Annotation) → ((a : Annotation) → In a known → Derives a) → (i : ℕ) → i < length rows → (r : Rule) → In r A.rules → (a : Annotation) → In a (by_rule A rows known i r) → (a.row ≡ i) × Derives a
  rule_derives known h i l r ir a ia =
      let (t, im) = in_only (eqb r.symbol (row_at rows i).symbol) _ ia in
      let (y, iy, e) = in_map (annotation i r.target) _ im in
      let (m, ic, ifin) = in_concat_map (λ m. finish A r.target i (kept A r m)) (choices known (empty_memory A) (row_at rows i).children r.children) iy in
      (ap (λ z. z.row) e, subst Derives (sym e) (derived l ir (eqb→eq _ _ t) refl (choices_join known h _ _ _ ic) ifin))

  listed_derives : (n : ℕ) → n ≤ length rows → (a : Annotation) → In a (annotations_below A rows n) → (a.row < n) × Derives a
  listed_derives zero h a ia = absurd (not-nil ia)
  listed_derives (suc i) h a ia =
      let below = listed_derives i (omega arith) in
      ⊎_elim (λ g. let (l, d) = below a g in (omega arith, d))
      (λ g.
      let (r, ir, ib) = in_concat_map (by_rule A rows (annotations_below A rows i) i) A.rules g in
      let (e, d) = rule_derives (annotations_below A rows i) (λ b ib. (below b ib).1) i h r ir a ib in
      (omega arith, d))
      (in_add_new _ (annotations_below A rows i) ia)

  -- what is listed below n stays listed
  pub listed_more : (n n' : ℕ) {a : Annotation} → n ≤ n' → In a (annotations_below A rows n) → In a (annotations_below A rows n')
  listed_more n zero {a} h i = let e : n ≡ 0 = omega arith in subst (λ z. In a (annotations_below A rows z)) e i
  listed_more n (suc n') {a} h i =
      ⊎_elim (λ e. subst (λ z. In a (annotations_below A rows z)) e i)
      (λ l. add_new_known (concat_map (by_rule A rows (annotations_below A rows n') n') A.rules) (annotations_below A rows n') (listed_more n n' (le_of_suc-le-suc l) i))
      (eq-or-lt_of_le h)

  listed_by_rule : (i q : ℕ) (r : Rule) (m y : Memory) → In r A.rules → r.symbol ≡ (row_at rows i).symbol → r.target ≡ q → In m (choices (annotations_below A rows i) (empty_memory A) (row_at rows i).children r.children) → In y (finish A q i (kept A r m)) → In (annotation i q y) (annotations_below A rows (suc i))
  listed_by_rule i q r m y ir es et im iy =
      let known = annotations_below A rows i in
      add_new_new _ known
      (concat_map_in (by_rule A rows known i) ir
      (only_in (eqb r.symbol (row_at rows i).symbol) (subst (λ z. T (eqb r.symbol z)) es (eqb_refl r.symbol))
      (subst (λ z. In (annotation i z y) (map (annotation i r.target) (concat_map (λ m. finish A r.target i (kept A r m)) (choices known (empty_memory A) (row_at rows i).children r.children)))) et
      (map_in (annotation i r.target) (concat_map_in (λ m. finish A r.target i (kept A r m)) im (rw et iy))))))

  module _ (lower : Lower rows) where
    -- an annotation that derives is computed with its row
    mutual
      derives_listed : {i q : ℕ} {m : Memory} → Derivable A rows i q m → In (annotation i q m) (annotations_below A rows (suc i))
      derives_listed (derived {i = i} {q = q} {r = r} {m = m} {y = y} l ir es et js iy) = listed_by_rule i q r m y ir es et (joins_chosen i (lower i l) js) iy

      joins_chosen : (i : ℕ) {m y : Memory} {cs qs : List ℕ} → ((c : ℕ) → In c cs → c < i) → Joins A rows m cs qs y → In y (choices (annotations_below A rows i) m cs qs)
      joins_chosen i low joins_none = here refl
      joins_chosen i low (joins_more {m = m} {x = x} {c = c} {q = q} {cs = cs} {qs = qs} d t js) =
          concat_map_in (λ x. only (agree? m x) (choices (annotations_below A rows i) (joined m x) cs qs))
          (memories_in (listed_more (suc c) i (low c (here refl)) (derives_listed d)) c q refl refl)
          (only_in (agree? m x) t (joins_chosen i (λ z h. low z (there h)) js))

    -- THE THEOREM: below row n exactly the annotations that derive are computed.
    pub listed_below : (n : ℕ) → n ≤ length rows → (a : Annotation) → In a (annotations_below A rows n) ↔ ((a.row < n) × Derivable A rows a.row a.state a.memory)
    listed_below n h a = (listed_derives n h a, λ (l, d). listed_more (suc a.row) n l (derives_listed d))

    pub listed_derivable : (a : Annotation) → In a (annotations A rows) ↔ Derivable A rows a.row a.state a.memory
    listed_derivable a = (λ h. ((listed_below (length rows) (omega arith) a).0 h).1, λ d. (listed_below (length rows) (omega arith) a).1 (row_known A rows d, d))

add_new_once : (d : Annotation) (as' known : List Annotation) → NoRepeats d known → NoRepeats d (add_new known as')
add_new_once d [] known h = h
add_new_once d (a ∷ as') known h = add_new_once d as' _ (go (any (eq_annotation a) known) refl)
  where
    go : (b : Bool) → any (eq_annotation a) known ≡ b → NoRepeats d (cond b known (known ++ a ∷ []))
    go true e = h
    go false e = one_more d known a h (λ m. subst T e (any_in (eq_annotation a) m (eq_annotation_refl a)))

-- No annotation is listed twice.
pub no_duplicates : (A : Automaton) (rows : List Row) (d : Annotation) (n : ℕ) → NoRepeats d (annotations_below A rows n)
no_duplicates A rows d zero = λ i j li lj e. let z : ⊥ = omega arith in absurd z
no_duplicates A rows d (suc n) = add_new_once d (concat_map (by_rule A rows (annotations_below A rows n) n) A.rules) (annotations_below A rows n) (no_duplicates A rows d n)

-- Their number is that of the annotations that derive: a list of exactly these without repeats is as long.
pub annotation_count : (A : Automaton) (rows : List Row) → Lower rows → (d : Annotation) (l : List Annotation) → NoRepeats d l → ((a : Annotation) → In a l ↔ Derivable A rows a.row a.state a.memory) → length l ≡ length (annotations A rows)
annotation_count A rows lower d l once h =
    let same = listed_derivable A rows lower in
    le_antisymm (no_longer d l (annotations A rows) once (λ a ia. (same a).1 ((h a).0 ia))) (no_longer d (annotations A rows) l (no_duplicates A rows d (length rows)) (λ a ia. (h a).1 ((same a).0 ia)))
