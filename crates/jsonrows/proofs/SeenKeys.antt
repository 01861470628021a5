-- Keys seen before by their entries: which entry a key has, and the entries with one key more. Assumes nothing.
use mathlib.Core.Path.{◌≡◌, refl, sym, ap, subst, ◌∙◌}
use mathlib.Core.Bool.{Bool, true, false, ◌||◌, cond}
use mathlib.Core.Logic.{⊎_elim}
use mathlib.Core.List.Memᴰ.{cases_cons as in_cons}
use mathlib.Core.List.Memᴰ.{head as here}
use mathlib.Core.List.Memᴰ.{tail as there}
use mathlib.Core.List.{List, [], ◌∷◌, ◌++◌, Memᴰ as In}
use mathlib.Core.Option.{Option, none, some, map}
use Prim.Native.Nat.{ℕ, zero, suc, ◌+◌, ◌-◌, ◌<◌, ◌≤◌}
use native.Mathlib.Omega.{arith}
use borrow.Author.Tests.{eqb-true, eq-eqb, ne_eqb, lt-ltb, le-ltb}
use lib.Dec.{eqb, ltb}
use lib.ListN.{length, get_or, set, drop, take, length-set}
use lib.Seq.{get_or-set_same, drop-set-lt}
use Rattle.model.specs.Limits.{max_rows}
use Rattle.model.specs.Lists.{any, eq_list}
use Rattle.jsonrows.specs.Keys.{find_text}
use Rattle.jsonrows.specs.State.{text_at}
use Rattle.jsonrows.specs.Seen.{first_listed, entry_key, EntryOf, of_text, of_line, entries, Seen}
use Rattle.jsonrows.proofs.Finding.{eq_eq_list, eq_list_eq}
use Rattle.jsonrows.proofs.Entries.{entries_cons}

-- tests that agree on every entry
pub any_same : {A : Type 0} (p q : A → Bool) (xs : List A) → ((e : A) → In e xs → p e ≡ q e) → any p xs ≡ any q xs
any_same p q [] h = refl
any_same p q (x ∷ xs) h = λ i. (h x (here refl) i) || (any_same p q xs (λ e m. h e (there m)) i)

pub any_append : {A : Type 0} (p : A → Bool) (xs : List A) (y : A) → any p (xs ++ y ∷ []) ≡ (p y || any p xs)
any_append p [] y = refl
any_append p (x ∷ xs) y = ap (λ b. p x || b) (any_append p xs y) ∙ swap (p x) (p y) (any p xs)
  where
    swap : (a b c : Bool) → (a || (b || c)) ≡ (b || (a || c))
    swap true true c = refl
    swap true false c = refl
    swap false true c = refl
    swap false false c = refl

-- tests that are both false, or both true, by facts
pub both_false : (a b : Bool) → (a ≡ true → ⊥) → (b ≡ true → ⊥) → a ≡ b
both_false true b f g = absurd (f refl)
both_false false true f g = absurd (g refl)
both_false false false f g = refl

-- a key is on no line, or on one
module _ (key : List ℕ) where
  pub on_no_line : (keys : List (List ℕ)) → find_text key keys ≡ none → (k : ℕ) → k < length keys → key ≡ get_or keys k [] → ⊥
  unfolding find_text
  on_no_line [] e k l q = omega (arith, l)
  on_no_line (x ∷ keys) e k l q = go (eq_list key x) refl e k l q (λ f j m p. on_no_line keys f j m p)
    where
      behind : (o : Option ℕ) → map suc o ≡ none → o ≡ none
      behind none q = refl
      behind (some j) q = let z : ⊥ = cc in absurd z

      go : (b : Bool) → eq_list key x ≡ b → cond b (some 0) (map suc (find_text key keys)) ≡ none → (k : ℕ) → k < suc (length keys) → key ≡ get_or (x ∷ keys) k [] → (find_text key keys ≡ none → (j : ℕ) → j < length keys → key ≡ get_or keys j [] → ⊥) → ⊥
      go true f e k l q h = cc
      go false f e zero l q h = let r : true ≡ false = sym (eq_eq_list key x q) ∙ f in cc
      go false f e (suc k) l q h = h (behind (find_text key keys) e) k (omega (arith, l)) q

  pub on_line : (keys : List (List ℕ)) (k : ℕ) → find_text key keys ≡ some k → (k < length keys) × (key ≡ get_or keys k [])
  unfolding find_text
  on_line [] k e = let z : ⊥ = cc in absurd z
  on_line (x ∷ keys) k e = go (eq_list key x) refl e (λ j f. on_line keys j f)
    where
      behind : (o : Option ℕ) → map suc o ≡ some k → ((j : ℕ) → o ≡ some j → (j < length keys) × (key ≡ get_or keys j [])) → (k < suc (length keys)) × (key ≡ get_or (x ∷ keys) k [])
      behind none q h = let z : ⊥ = cc in absurd z
      behind (some j) q h = let r : suc j ≡ k = cc in let (l, f) = h j refl in (omega (arith, l, r), f ∙ ap (λ n. get_or (x ∷ keys) n []) r)

      go : (b : Bool) → eq_list key x ≡ b → cond b (some 0) (map suc (find_text key keys)) ≡ some k → ((j : ℕ) → find_text key keys ≡ some j → (j < length keys) × (key ≡ get_or keys j [])) → (k < suc (length keys)) × (key ≡ get_or (x ∷ keys) k [])
      go true f e h = let r : 0 ≡ k = cc in (omega (arith, r), eq_list_eq key x f ∙ ap (λ n. get_or (x ∷ keys) n []) r)
      go false f e h = behind (find_text key keys) e h

-- the key of an entry
module _ (keys : List (List ℕ)) (t starts : List ℕ) where
  pub text_entry : (e : ℕ) → e < first_listed → entry_key keys t starts e ≡ text_at t starts e
  text_entry e l = let f : ltb e first_listed ≡ true = lt-ltb e first_listed l in rw f

  pub line_entry : (e k : ℕ) → e ≡ first_listed + k → entry_key keys t starts e ≡ get_or keys k []
  line_entry e k q =
      let f : ltb e first_listed ≡ false = le-ltb e first_listed (omega (arith, q)) in
      let g : e - first_listed ≡ k = omega (arith, q) in
      (λ i. cond (f i) (text_at t starts e) (get_or keys (e - first_listed) [])) ∙ ap (λ n. get_or keys n []) g

-- The entry that a key would have: no other entry is that key's.
pub record EntryFor (keys : List (List ℕ)) (t starts : List ℕ) (texts : ℕ) (key : List ℕ) (number : ℕ) : Type 0 where
  pub texts_apart : (e : ℕ) → e < texts → find_text (text_at t starts e) keys ≡ none → eqb number e ≡ eq_list key (text_at t starts e)
  pub lines_apart : (k : ℕ) → k < length keys → eqb number (first_listed + k) ≡ eq_list key (get_or keys k [])

module _ {keys : List (List ℕ)} {t starts pending : List ℕ} {texts lo hi : ℕ} {seen : List (List ℕ)} (few : texts ≤ max_rows) (s : Seen keys t starts pending texts lo hi seen) where
  pub seen_by_entry : {key : List ℕ} {number : ℕ} → EntryFor keys t starts texts key number → any (eqb number) (entries pending lo hi) ≡ any (eq_list key) seen
  seen_by_entry {key} {number} f = any_same (eqb number) (λ e. eq_list key (entry_key keys t starts e)) (entries pending lo hi) (λ e m. one e (s.each e m)) ∙ sym (s.are key)
    where
      one : (e : ℕ) → EntryOf keys t starts texts e → eqb number e ≡ eq_list key (entry_key keys t starts e)
      one e (of_text l n) = f.texts_apart e l n ∙ ap (eq_list key) (sym (text_entry keys t starts e (omega (arith, few, l))))
      one e (of_line k q l) = ap (eqb number) q ∙ f.lines_apart k l ∙ ap (eq_list key) (sym (line_entry keys t starts e k q))

-- a listed key's entry is its line's
pub line_for_lem : (keys : List (List ℕ)) (t starts : List ℕ) (texts : ℕ) (key : List ℕ) (k : ℕ) → texts ≤ max_rows → ((i j : ℕ) → i < length keys → j < length keys → get_or keys i [] ≡ get_or keys j [] → i ≡ j) → find_text key keys ≡ some k → EntryFor keys t starts texts key (first_listed + k)
line_for_lem keys t starts texts key k few apart e =
    let (l, q) = on_line key keys k e in
    record {
      texts_apart = λ i m n. both_false _ _ (λ f. let g = eqb-true (first_listed + k) i f in omega (arith, few, m, g)) (λ f. on_no_line (text_at t starts i) keys n k l (sym (eq_list_eq key (text_at t starts i) f) ∙ q));
      lines_apart = λ j m. either_way j m l q;
    }
  where
    either_way : (j : ℕ) → j < length keys → k < length keys → key ≡ get_or keys k [] → eqb (first_listed + k) (first_listed + j) ≡ eq_list key (get_or keys j [])
    either_way j m l q = go (eq_list key (get_or keys j [])) refl
      where
        go : (b : Bool) → eq_list key (get_or keys j []) ≡ b → eqb (first_listed + k) (first_listed + j) ≡ b
        go true f = let a : k ≡ j = apart k j l m (sym q ∙ eq_list_eq key (get_or keys j []) f) in eq-eqb (first_listed + k) (first_listed + j) (omega (arith, a))
        go false f = ne_eqb (first_listed + k) (first_listed + j) (λ g. let a : k ≡ j = omega (arith, g) in let r : true ≡ false = sym (eq_eq_list key (get_or keys j []) (q ∙ ap (λ n. get_or keys n []) a)) ∙ f in cc)

-- entries stay what they are while texts are added behind those before
module _ (keys : List (List ℕ)) (t starts more : List ℕ) (texts : ℕ) where
  text_same : ((k : ℕ) → k < texts → get_or more k 0 ≡ get_or starts k 0) → (e : ℕ) → e < texts → text_at t more e ≡ text_at t starts e
  text_same same e l = ap (λ i. text_at t (i ∷ []) 0) (same e l)

  pub entry_kept : texts ≤ max_rows → ((k : ℕ) → k < texts → get_or more k 0 ≡ get_or starts k 0) → (e : ℕ) → EntryOf keys t starts texts e → entry_key keys t more e ≡ entry_key keys t starts e
  entry_kept few same e (of_text l n) = text_entry keys t more e (omega (arith, few, l)) ∙ text_same same e l ∙ sym (text_entry keys t starts e (omega (arith, few, l)))
  entry_kept few same e (of_line k q l) = line_entry keys t more e k q ∙ sym (line_entry keys t starts e k q)

  pub entry_stays : (count : ℕ) → texts ≤ count → ((k : ℕ) → k < texts → get_or more k 0 ≡ get_or starts k 0) → (e : ℕ) → EntryOf keys t starts texts e → EntryOf keys t more count e
  entry_stays count grown same e (of_text l n) = of_text (omega (arith, l, grown)) (ap (λ x. find_text x keys) (text_same same e l) ∙ n)
  entry_stays count grown same e (of_line k q l) = of_line k q l

-- The entries of an object with one key more, texts being added behind those before.
module _ {keys : List (List ℕ)} {t starts pending : List ℕ} {texts hi : ℕ} {seen : List (List ℕ)} (lo : ℕ) (few : texts ≤ max_rows) (s : Seen keys t starts pending texts (lo + 1) hi seen) where
  module _ (more : List ℕ) (count : ℕ) (grown : texts ≤ count) (same : (k : ℕ) → k < texts → get_or more k 0 ≡ get_or starts k 0) where
    pub seen_more : (after : List ℕ) (entry : ℕ) (key : List ℕ) → lo < hi → hi ≤ length pending → after ≡ set pending lo entry → EntryOf keys t more count entry → entry_key keys t more entry ≡ key → Seen keys t more after count lo hi (seen ++ key ∷ [])
    seen_more after entry key l m a new is =
        record {
          are = λ x.
              any_append (eq_list x) seen key
              ∙ (λ i. eq_list x (sym is i) || (s.are x ∙ any_same (λ e. eq_list x (entry_key keys t starts e)) (λ e. eq_list x (entry_key keys t more e)) (entries pending (lo + 1) hi) (λ e n. ap (eq_list x) (sym (entry_kept keys t starts more texts few same e (s.each e n))))) i)
              ∙ ap (any (λ e. eq_list x (entry_key keys t more e))) (sym with_it);
          each = λ e n. ⊎_elim (λ q. subst (EntryOf keys t more count) (sym q) new) (λ p. entry_stays keys t starts more texts count grown same e (s.each e p)) (in_cons (subst (In e) with_it n));
        }
      where
        behind : drop (lo + 1) (set pending lo entry) ≡ drop (lo + 1) pending
        behind = drop-set-lt (lo + 1) pending lo entry (omega arith)

        with_it : entries after lo hi ≡ entry ∷ entries pending (lo + 1) hi
        with_it =
            ap (λ p. entries p lo hi) a ∙ entries_cons (set pending lo entry) lo hi l (omega (arith, m, length-set pending lo entry))
            ∙ (λ i. get_or-set_same pending lo entry 0 (omega (arith, l, m)) i ∷ take (hi - (lo + 1)) (behind i))
