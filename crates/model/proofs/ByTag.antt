-- Memories worked out one tag after the other clash where memories worked out whole do. Assumes nothing.
use mathlib.Core.Path.{◌≡◌, refl, sym, ap, ◌∙◌, subst}
use mathlib.Core.Logic.{⊎_elim, ◌↔◌}
use mathlib.Core.List.Memᴰ.{eq_of_singleton}
use mathlib.Core.List.Memᴰ.{head as here}
use mathlib.Core.List.{List, [], ◌∷◌, ◌++◌, map, Memᴰ as In}
use mathlib.Core.Bool.{cond}
use Prim.Native.Nat.{ℕ, zero, suc, ◌<◌}
use native.Mathlib.Omega.{arith}
use native.Mathlib.Nat.{eq-or-lt_of_le, le_of_suc-le-suc}
use lib.Dec.{T}
use lib.Seq.{get_or-append_seam}
use lib.ListN.{length, get_or, length-append, get_or-append}
use Rattle.model.specs.Lists.{tab, all_below}
use Rattle.model.specs.Automaton.{Rule, Automaton, forgets?}
use Rattle.model.specs.Table.{Row}
use Rattle.model.specs.Annotation.{Memory, places_agree, joined_place, empty_memory, agree?, joined, kept, finish}
use Rattle.model.specs.Written.{Step, step_at, rule_of, StepFits, joined_all, left_by}
use Rattle.model.specs.WrittenTest.{left_at, some?, first_or, memories_below, clear?, one_row?}
use Rattle.model.specs.ByTag.{all_joined, all_agree?, kept_place, own_place, place_by, place_clear?, child_places, places_below, tag_clear?, one_row_by_tag?}
use Rattle.model.proofs.Members.{T_and, and_T, in_only, only_in, in_concat_map, concat_map_in, map_same}
use Rattle.model.proofs.Tab.{tab_at, tab_same}
use Rattle.model.proofs.Below.{all_at, all_of}
use Rattle.model.proofs.Count.{place_of_lem}
use Rattle.model.proofs.WrittenTest.{memory_of, kids_memories, clear_leaves, left_one}

-- memories that are functions of the tag
agree_tab : (n : ℕ) (f g : ℕ → ℕ) → T (agree? (tab n f) (tab n g)) ↔ ((k : ℕ) → k < n → T (places_agree (f k) (g k)))
agree_tab zero f g = (λ h k l. let z : ⊥ = omega arith in absurd z, λ h. tt)
agree_tab (suc n) f g =
    let rest = agree_tab n (λ k. f (suc k)) (λ k. g (suc k)) in (
      λ h k. let (a, b) = T_and (places_agree (f 0) (g 0)) _ h in (elim k as (λ j. j < suc n → T (places_agree (f j) (g j))) [ zero ↦ λ l. a | suc k' ↦ λ l. rest.0 b k' (omega arith) ]),
      λ h. and_T (places_agree (f 0) (g 0)) _ (h 0 (omega arith)) (rest.1 (λ k l. h (suc k) (omega arith))),
    )

joined_tab : (n : ℕ) (f g : ℕ → ℕ) → joined (tab n f) (tab n g) ≡ tab n (λ k. joined_place (f k) (g k))
joined_tab zero f g = refl
joined_tab (suc n) f g = ap {B = List ℕ} (λ l. joined_place (f 0) (g 0) ∷ l) (joined_tab n (λ k. f (suc k)) (λ k. g (suc k)))

module _ (n : ℕ) (g : ℕ → ℕ → ℕ) where
  -- the memory of step c, its place k being g k c
  abbrev whole : ℕ → Memory
  whole c = tab n (λ k. g k c)

  all_from : (cs : List ℕ) (f : ℕ → ℕ) {y : Memory} → In y (joined_all (tab n f) (map whole cs)) → (y ≡ tab n (λ k. all_joined (f k) (map (g k) cs))) × ((k : ℕ) → k < n → T (all_agree? (f k) (map (g k) cs)))
  all_from [] f h = (eq_of_singleton h, λ k l. tt)
  all_from (c ∷ cs) f {y} h =
      let (t, h') = in_only (agree? (tab n f) (whole c)) _ h in
      let (e, a) = all_from cs (λ k. joined_place (f k) (g k c)) (subst (λ (m : Memory). In y (joined_all m (map whole cs))) (joined_tab n f (λ k. g k c)) h') in
      (e, λ k l. and_T (places_agree (f k) (g k c)) _ ((agree_tab n f (λ k. g k c)).0 t k l) (a k l))

  all_of_places : (cs : List ℕ) (f : ℕ → ℕ) → ((k : ℕ) → k < n → T (all_agree? (f k) (map (g k) cs))) → In (tab n (λ k. all_joined (f k) (map (g k) cs))) (joined_all (tab n f) (map whole cs))
  all_of_places [] f h = here refl
  all_of_places (c ∷ cs) f h =
      only_in (agree? (tab n f) (whole c)) ((agree_tab n f (λ k. g k c)).1 (λ k l. (T_and (places_agree (f k) (g k c)) _ (h k l)).0))
      (subst (λ (m : Memory). In (tab n (λ k. all_joined (f k) (map (g k) (c ∷ cs)))) (joined_all m (map whole cs))) (sym (joined_tab n f (λ k. g k c)))
      (all_of_places cs (λ k. joined_place (f k) (g k c)) (λ k l. (T_and (places_agree (f k) (g k c)) _ (h k l)).1)))

module _ (A : Automaton) (r : Rule) (i : ℕ) (g : ℕ → ℕ → ℕ) (cs : List ℕ) where
  abbrev left : ℕ → ℕ
  left k = kept_place r k (all_joined 0 (map (g k) cs))

  abbrev own : ℕ → ℕ
  own k = own_place A r.target i k

  kept_tab : kept A r (tab A.tags (λ k. all_joined 0 (map (g k) cs))) ≡ tab A.tags left
  kept_tab = tab_same A.tags _ left (λ k l. ap (λ x. cond (forgets? r k) 0 x) (tab_at 0 A.tags (λ k. all_joined 0 (map (g k) cs)) k l))

  left_from_lem : {y : Memory} → In y (left_by A r i (map (whole A.tags g) cs)) → (y ≡ tab A.tags (λ k. place_by A r i k (map (g k) cs))) × ((k : ℕ) → k < A.tags → T (place_clear? A r i k (map (g k) cs)))
  left_from_lem {y} h =
      let (m, im, iy) = in_concat_map (λ m. finish A r.target i (kept A r m)) (joined_all (empty_memory A) (map (whole A.tags g) cs)) h in
      let (em, a) = all_from A.tags g cs (λ k. 0) im in
      let iy' : In y (finish A r.target i (tab A.tags left)) = subst (λ (x : Memory). In y (finish A r.target i x)) (ap (kept A r) em ∙ kept_tab) iy in
      let (t, o) = in_only (agree? (tab A.tags left) (tab A.tags own)) _ iy' in
      (eq_of_singleton o ∙ joined_tab A.tags left own, λ k l. and_T (all_agree? 0 (map (g k) cs)) (places_agree (left k) (own k)) (a k l) ((agree_tab A.tags left own).0 t k l))

  left_of_lem : ((k : ℕ) → k < A.tags → T (place_clear? A r i k (map (g k) cs))) → In (tab A.tags (λ k. place_by A r i k (map (g k) cs))) (left_by A r i (map (whole A.tags g) cs))
  left_of_lem h =
      concat_map_in (λ m. finish A r.target i (kept A r m)) (all_of_places A.tags g cs (λ k. 0) (λ k l. (T_and (all_agree? 0 (map (g k) cs)) _ (h k l)).0))
      (subst (λ (x : Memory). In (tab A.tags (λ k. place_by A r i k (map (g k) cs))) (finish A r.target i x)) (sym kept_tab)
      (only_in (agree? (tab A.tags left) (tab A.tags own)) ((agree_tab A.tags left own).1 (λ k l. (T_and (all_agree? 0 (map (g k) cs)) _ (h k l)).1)) (here (sym (joined_tab A.tags left own)))))

module _ (A : Automaton) (run : List Step) where
  -- the place of tag k at step i
  abbrev pub place_of : ℕ → ℕ → ℕ
  place_of k i = place_by A (rule_of A run i) (step_at run i).row k (child_places run (places_below A run k i) i)

  length_places : (k n : ℕ) → length (places_below A run k n) ≡ n
  length_places k zero = refl
  length_places k (suc n) = let e = length_places k n in length-append (places_below A run k n) (place_of k n ∷ []) ∙ omega arith

  pub place_at : (k n c : ℕ) → c < n → get_or (places_below A run k n) c 0 ≡ place_of k c
  place_at k zero c l = let z : ⊥ = omega arith in absurd z
  place_at k (suc n) c l =
      let ps = places_below A run k n in
      ⊎_elim
      (λ e. ap (λ z. get_or (ps ++ place_of k n ∷ []) z 0) (e ∙ sym (length_places k n)) ∙ get_or-append_seam ps (place_of k n) [] 0 ∙ ap (place_of k) (sym e))
      (λ h. get_or-append ps (place_of k n ∷ []) 0 c (omega (arith, length_places k n)) ∙ place_at k n c h)
      (eq-or-lt_of_le (le_of_suc-le-suc l))

  module _ (rows : List Row) (each : (i : ℕ) → i < length run → StepFits A rows run i) where
    pub lower_step : (i : ℕ) → i < length run → (c : ℕ) → In c (step_at run i).steps → c < i
    lower_step i l c ic = let s = each i l in let (j, lj, e) = place_of_lem 0 ic in subst (◌< i) e (s.lower j (omega (arith, s.one_each)))

    child_places_lem : (k i : ℕ) → i < length run → child_places run (places_below A run k i) i ≡ map (place_of k) (step_at run i).steps
    child_places_lem k i l = map_same (λ c. get_or (places_below A run k i) c 0) (place_of k) (step_at run i).steps (λ c ic. place_at k i c (lower_step i l c ic))

    abbrev steps : ℕ → List ℕ
    steps i = (step_at run i).steps

    abbrev rule_for : ℕ → Rule
    rule_for i = rule_of A run i

    abbrev row_for : ℕ → ℕ
    row_for i = (step_at run i).row

    -- what stands at step i, by the child steps' places
    place_by_lem : (k i : ℕ) → i < length run → place_by A (rule_for i) (row_for i) k (map (place_of k) (steps i)) ≡ place_of k i
    place_by_lem k i l = ap (place_by A (rule_for i) (row_for i) k) (sym (child_places_lem k i l))

    whole_clear : T (one_row? A run) → (n i : ℕ) → i < n → i < length run → (memory_of A run i ≡ tab A.tags (λ k. place_of k i)) × ((k : ℕ) → k < A.tags → T (tag_clear? A run k i))
    whole_clear h zero i b l = let z : ⊥ = omega arith in absurd z
    whole_clear h (suc n) i b l =
        let kids : map (memory_of A run) (steps i) ≡ map (whole A.tags place_of) (steps i) =
        map_same (memory_of A run) (whole A.tags place_of) (steps i) (λ c ic. let lc = lower_step i l c ic in (whole_clear h n c (omega arith) (omega arith)).0) in
        let (e, a) = left_from_lem A (rule_for i) (row_for i) place_of (steps i) (subst (λ (xs : List Memory). In (memory_of A run i) (left_by A (rule_for i) (row_for i) xs)) kids (clear_leaves A rows run each h i l)) in
        (e ∙ tab_same A.tags _ _ (λ k lk. place_by_lem k i l), λ k lk. subst (λ (xs : List ℕ). T (place_clear? A (rule_for i) (row_for i) k xs)) (sym (child_places_lem k i l)) (a k lk))

    tags_clear : ((k : ℕ) → k < A.tags → (i : ℕ) → i < length run → T (tag_clear? A run k i)) → (n i : ℕ) → i < n → i < length run → left_at A run (memories_below A run i) i ≡ tab A.tags (λ k. place_of k i) ∷ []
    tags_clear h zero i b l = let z : ⊥ = omega arith in absurd z
    tags_clear h (suc n) i b l =
        let kids : map (memory_of A run) (steps i) ≡ map (whole A.tags place_of) (steps i) =
        map_same (memory_of A run) (whole A.tags place_of) (steps i) (λ c ic. let lc = lower_step i l c ic in ap first_or (tags_clear h n c (omega arith) (omega arith))) in
        let o = left_of_lem A (rule_for i) (row_for i) place_of (steps i) (λ k lk. subst (λ (xs : List ℕ). T (place_clear? A (rule_for i) (row_for i) k xs)) (child_places_lem k i l) (h k lk i l)) in
        ap (left_by A (rule_for i) (row_for i)) (kids_memories A run rows i (each i l) ∙ kids)
        ∙ left_one A (rule_for i) (row_for i) (map (whole A.tags place_of) (steps i)) o
        ∙ ap {B = List Memory} (λ m. m ∷ []) (tab_same A.tags _ _ (λ k lk. place_by_lem k i l))

    -- THE THEOREM: no step clashes exactly where no tag does, each tag on its own.
    pub by_tag : T (one_row? A run) ↔ T (one_row_by_tag? A run)
    by_tag = (
      λ h. all_of A.tags _ (λ k lk. all_of (length run) (tag_clear? A run k) (λ i l. (whole_clear h (suc i) i (omega arith) l).1 k lk)),
      λ h. all_of (length run) (clear? A run)
          (λ i l. subst (λ (ms : List Memory). T (some? ms)) (sym (tags_clear (λ k lk i l. all_at (length run) (tag_clear? A run k) (all_at A.tags (λ k. all_below (length run) (tag_clear? A run k)) h k lk) i l) (suc i) i (omega arith) l)) tt),
    )
