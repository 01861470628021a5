-- The entries' annotations are the model's annotations, in its order. Assumes nothing.
use mathlib.Core.Path.{◌≡◌, refl, sym, ap, ◌∙◌}
use mathlib.Core.List.{List, [], ◌∷◌, ◌++◌, map, append-nil}
use mathlib.Core.Bool.{Bool, true, false, ◌&&◌, cond}
use Prim.Native.Nat.{ℕ, zero, suc}
use lib.Dec.{eqb}
use lib.ListN.{length, get_or, set}
use Rattle.model.specs.Lists.{concat_map, only, any}
use Rattle.model.specs.Automaton.{Automaton}
use Rattle.model.specs.Table.{Row, row_at}
use Rattle.model.specs.Written.{no_rule, rule_at}
use Rattle.model.specs.Annotation.{Memory, Annotation, annotation, empty_memory, agree?, joined, eq_annotation, memories, choices, by_rule, add_new, annotations_below}
use Rattle.membership.specs.Entries.{Entry, annotations_of, add_entry, add_entries}
use Rattle.membership.specs.Search.{span, no_annotation}
use Rattle.membership.specs.Listing.{left_of, last_step, taken, made, no_children, rule_entries, row_entries, entries_below}
use Rattle.membership.specs.Listing as listing
use Rattle.membership.proofs.Spans.{concat_map_same, concat_map_append}

abbrev annotation_of : Entry → Annotation
annotation_of e = e.annotation

map_append : {A B : Type 0} (f : A → B) (xs ys : List A) → map f (xs ++ ys) ≡ map f xs ++ map f ys
map_append f [] ys = refl
map_append {B = B} f (x ∷ xs) ys = ap (λ (l : List B). f x ∷ l) (map_append f xs ys)

map_concat_map : {A B C : Type 0} (f : B → C) (g : A → List B) (xs : List A) → map f (concat_map g xs) ≡ concat_map (λ x. map f (g x)) xs
map_concat_map f g [] = refl
map_concat_map f g (x ∷ xs) = map_append f (g x) (concat_map g xs) ∙ ap (λ l. map f (g x) ++ l) (map_concat_map f g xs)

concat_map_concat_map : {A B C : Type 0} (f : B → List C) (g : A → List B) (xs : List A) → concat_map f (concat_map g xs) ≡ concat_map (λ x. concat_map f (g x)) xs
concat_map_concat_map f g [] = refl
concat_map_concat_map f g (x ∷ xs) = concat_map_append f (g x) (concat_map g xs) ∙ ap (λ l. concat_map f (g x) ++ l) (concat_map_concat_map f g xs)

-- over the numbers of a list's places instead of its members
span_shift : {B : Type 0} (f : ℕ → List B) (i n : ℕ) → concat_map f (span (suc i) n) ≡ concat_map (λ j. f (suc j)) (span i n)
span_shift f i zero = refl
span_shift f i (suc n) = ap (λ l. f (suc i) ++ l) (span_shift f (suc i) n)

span_list : {A B : Type 0} (d : A) (h : A → List B) (l : List A) → concat_map (λ j. h (get_or l j d)) (span 0 (length l)) ≡ concat_map h l
span_list d h [] = refl
span_list d h (x ∷ l) = ap (λ z. h x ++ z) (span_shift (λ j. h (get_or (x ∷ l) j d)) 0 (length l) ∙ span_list d h l)

-- the memories of a row in a state, over all that is known
over_memories : {B : Type 0} (h : Memory → List B) (known : List Annotation) (c q : ℕ) → concat_map h (memories known c q) ≡ concat_map (λ (a : Annotation). only (eqb a.row c && eqb a.state q) (h a.memory)) known
over_memories h [] c q = refl
over_memories {B} h (a ∷ known) c q =
    concat_map_append h (only (eqb a.row c && eqb a.state q) (a.memory ∷ [])) (memories known c q)
    ∙ ap (λ l. concat_map h (only (eqb a.row c && eqb a.state q) (a.memory ∷ [])) ++ l) (over_memories h known c q)
    ∙ ap (λ l. l ++ concat_map (λ (b : Annotation). only (eqb b.row c && eqb b.state q) (h b.memory)) known) (go (eqb a.row c && eqb a.state q))
  where
    go : (b : Bool) → concat_map h (only b (a.memory ∷ [])) ≡ only b (h a.memory)
    go true = append-nil (h a.memory)
    go false = refl

module _ (A : Automaton) (rows : List Row) (known : List Annotation) (i r : ℕ) where
  abbrev q : ℕ
  q = (rule_at A r).target

  abbrev left : Memory → List Memory
  left = left_of A i r

  -- what the choices make in the model
  abbrev model_made : Memory → List ℕ → List ℕ → List Annotation
  model_made m cs qs = map (annotation i q) (concat_map left (choices known m cs qs))

  last_made : (m : Memory) (children : List ℕ) → annotations_of (last_step A i r m children) ≡ model_made m [] []
  last_made m children = map_map (left m) ∙ ap (map (annotation i q)) (sym (append-nil (left m)))
    where
      map_map : (ys : List Memory) → annotations_of (map (λ y. record { annotation = annotation i q y; rule = r; children = children }) ys) ≡ map (annotation i q) ys
      map_map [] = refl
      map_map (y ∷ ys) = ap (λ (l : List Annotation). annotation i q y ∷ l) (map_map ys)

  made_is : (p : ℕ) (m : Memory) (children cs qs : List ℕ) → annotations_of (made known (last_step A i r) p m children cs qs) ≡ model_made m cs qs
  unfolding made
  made_is p m children [] [] = last_made m children
  made_is p m children [] (s ∷ qs) = refl
  made_is p m children (c ∷ cs) [] = refl
  made_is p m children (c ∷ cs) (s ∷ qs) =
      map_concat_map annotation_of (taken known p c s next m children) (span 0 (length known))
      ∙ concat_map_same (λ j. annotations_of (taken known p c s next m children j)) (λ j. over (get_or known j no_annotation)) 0 (length known)
      (λ j a b. one (get_or known j no_annotation) j (eqb (get_or known j no_annotation).row c) (eqb (get_or known j no_annotation).state s) (agree? m (get_or known j no_annotation).memory) (made_is (suc p) (joined m (get_or known j no_annotation).memory) (set children p j) cs qs))
      ∙ span_list no_annotation over known
      ∙ sym (over_memories (λ x. map (annotation i q) (concat_map left (only (agree? m x) (choices known (joined m x) cs qs)))) known c s)
      ∙ sym (map_concat_map (annotation i q) (λ x. concat_map left (only (agree? m x) (choices known (joined m x) cs qs))) (memories known c s))
      ∙ ap (map (annotation i q)) (sym (concat_map_concat_map left (λ x. only (agree? m x) (choices known (joined m x) cs qs)) (memories known c s)))
    where
      next : Memory → List ℕ → List Entry
      next x d = made known (last_step A i r) (suc p) x d cs qs

      over : Annotation → List Annotation
      over a = only (eqb a.row c && eqb a.state s) (map (annotation i q) (concat_map left (only (agree? m a.memory) (choices known (joined m a.memory) cs qs))))

      one : (a : Annotation) (j : ℕ) (b b' b'' : Bool) → annotations_of (next (joined m a.memory) (set children p j)) ≡ model_made (joined m a.memory) cs qs → annotations_of (only (b && (b' && b'')) (next (joined m a.memory) (set children p j))) ≡ only (b && b') (map (annotation i q) (concat_map left (only b'' (choices known (joined m a.memory) cs qs))))
      one a j true true true e = e
      one a j true true false e = refl
      one a j true false b'' e = refl
      one a j false b' b'' e = refl

row_is : (A : Automaton) (rows : List Row) (known : List Annotation) (i : ℕ) → annotations_of (row_entries A rows known i) ≡ concat_map (by_rule A rows known i) A.rules
row_is A rows known i =
    map_concat_map annotation_of (listing.by_rule A rows known i) (span 0 (length A.rules))
    ∙ concat_map_same (λ r. annotations_of (listing.by_rule A rows known i r)) (λ r. by_rule A rows known i (rule_at A r)) 0 (length A.rules)
    (λ r a b. only_map (eqb (rule_at A r).symbol (row_at rows i).symbol) (rule_entries A rows known i r) ∙ ap (only (eqb (rule_at A r).symbol (row_at rows i).symbol)) (made_is A rows known i r 0 (empty_memory A) no_children (row_at rows i).children (rule_at A r).children))
    ∙ span_list no_rule (by_rule A rows known i) A.rules
  where
    only_map : (b : Bool) (es : List Entry) → annotations_of (only b es) ≡ only b (annotations_of es)
    only_map true es = refl
    only_map false es = refl

pub add_is : (es known : List Entry) → annotations_of (add_entries known es) ≡ add_new (annotations_of known) (annotations_of es)
unfolding add_entries add_entry
add_is [] known = refl
add_is (e ∷ es) known =
    add_is es (cond (any (eq_annotation e.annotation) (annotations_of known)) known (known ++ e ∷ []))
    ∙ ap (λ l. add_new l (annotations_of es)) (go (any (eq_annotation e.annotation) (annotations_of known)))
  where
    go : (b : Bool) → annotations_of (cond b known (known ++ e ∷ [])) ≡ cond b (annotations_of known) (annotations_of known ++ e.annotation ∷ [])
    go true = refl
    go false = map_append annotation_of known (e ∷ [])

-- THE THEOREM: the entries below row n are the model's annotations with a source each.
pub entries_annotations : (A : Automaton) (rows : List Row) (n : ℕ) → annotations_of (entries_below A rows n) ≡ annotations_below A rows n
unfolding entries_below
entries_annotations A rows zero = refl
entries_annotations A rows (suc i) =
    add_is (row_entries A rows (annotations_of (entries_below A rows i)) i) (entries_below A rows i)
    ∙ ap (add_new (annotations_of (entries_below A rows i))) (row_is A rows (annotations_of (entries_below A rows i)) i)
    ∙ ap (λ known. add_new known (concat_map (by_rule A rows known i) A.rules)) (entries_annotations A rows i)
