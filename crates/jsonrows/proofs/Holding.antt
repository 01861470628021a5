-- What is held after a row was finished. Assumes nothing.
use mathlib.Core.Path.{◌≡◌, refl, sym, ap, subst, ◌∙◌}
use mathlib.Core.Bool.{Bool, true, false, cond}
use mathlib.Core.List.Memᴰ.{not-nil}
use mathlib.Core.List.{List, [], ◌∷◌, ◌++◌, Memᴰ as In}
use mathlib.Core.Option.{Option, none, some, map}
use Rattle.std.specs.Prelude.{Result, Ok, Err}
use Prim.Native.Nat.{ℕ, suc, ◌+◌, ◌-◌, ◌<◌, ◌≤◌}
use native.Mathlib.Omega.{arith}
use borrow.Author.Tests.{ne_eqb, lt-ltb, le-ltb}
use lib.Dec.{eqb, ltb}
use lib.ListN.{length, get_or}
use Rattle.model.specs.Limits.{unused}
use Rattle.model.specs.Table.{Row, Lower}
use Rattle.model.specs.Build.{eq_row, find_row}
use Rattle.model.proofs.Members.{T_true}
use Rattle.model.proofs.Build.{eq_row_refl}
use Rattle.model.proofs.Tab.{length_tab}
use Rattle.document.specs.Rows.{row_in, rows_below, Kept}
use Rattle.document.specs.Fields.{as_row}
use Rattle.document.specs.Builder.{find_or_add, Did, Ready}
use Rattle.document.specs.declared.rows.Row as row_number
use Rattle.document.specs.declared.scalar.Scalar.TheVariants.{Name}
use Rattle.document.specs.declared.builder.Placed.{Placed}
use Rattle.model.proofs.Build.{more_lower}
use Rattle.document.proofs.Ready.{Put, was, is, no_room, puts}
use Rattle.jsonrows.specs.Signature.{text_leaf}
use Rattle.jsonrows.specs.Grammar.{Built, built, Outcome, good, refused, leaf_row, place_row, finish}
use Rattle.jsonrows.specs.State.{texts_in, built_in, Holds, Old, After, Says, says_read, says_refused, part_after}
use Rattle.base.specs.Refusals.{number}
use Rattle.base.specs.declared.refusal.TextRefusal.{TextRefusal}
use Rattle.jsonrows.specs.declared.rows.Part.{Part}

-- an outcome that is known
pub says_by : {t cells slots starts found old : List ℕ} {before limit : ℕ} {r : Result Part TextRefusal} {o v : Outcome} → o ≡ v → Says t cells slots starts found old before limit r v → Says t cells slots starts found old before limit r o
says_by {t} {cells} {slots} {starts} {found} {old} {before} {limit} {r} e h = subst (Says t cells slots starts found old before limit r) (sym e) h

-- an answer that is known
pub says_as : {t cells slots starts found old : List ℕ} {before limit : ℕ} {r x : Result Part TextRefusal} {o : Outcome} → r ≡ x → Says t cells slots starts found old before limit r o → Says t cells slots starts found old before limit x o
says_as {t} {cells} {slots} {starts} {found} {old} {before} {limit} {o = o} e h = subst (λ x. Says t cells slots starts found old before limit x o) e h

-- a row that is known
pub says_row : {t cells slots starts found old : List ℕ} {before limit : ℕ} {r : Result Part TextRefusal} (next : ℕ) (b : Built) {fields row : Row} → fields ≡ row → Says t cells slots starts found old before limit r (finish limit fields next b) → Says t cells slots starts found old before limit r (finish limit row next b)
says_row {t} {cells} {slots} {starts} {found} {old} {before} {limit} {r} next b e h = subst (λ x. Says t cells slots starts found old before limit r (finish limit x next b)) e h

-- an answer that says what was read
pub record Said (t cells slots starts found old : List ℕ) (before limit : ℕ) (o : Outcome) (j : row_number.Row) (next used texts : ℕ) : Type 0 where
  pub outcome : o ≡ good j.0 next (built_in t cells starts used texts)
  pub holds : Holds t cells slots starts found used texts limit
  pub inside : j.0 < used
  pub behind : 0 < next
  pub more : before ≤ texts
  pub same : (k : ℕ) → k < before → get_or starts k 0 ≡ get_or old k 0

module _ {t cells slots starts found old : List ℕ} {before limit : ℕ} {r : Result Part TextRefusal} where
  pub said : {o : Outcome} → Says t cells slots starts found old before limit r o → {p : Part} → r ≡ Ok p → Said t cells slots starts found old before limit o p.row p.next p.counts.used p.counts.texts
  said (says_read {j = k} {next = n} {b = b} h) {p} q =
      let e : ◌≡◌ {A = Result Part TextRefusal} (Ok p) (Ok (record { row = as_row k; next = n; counts = record { used = h.used; texts = h.texts } })) = sym q ∙ h.answer in
      let z : p ≡ record { row = as_row k; next = n; counts = record { used = h.used; texts = h.texts } } = cc in
      subst (λ (x : Part). Said t cells slots starts found old before limit (good k n b) x.row x.next x.counts.used x.counts.texts) (sym z)
      (record { outcome = ap (good k n) h.is; holds = h.holds; inside = h.inside; behind = h.behind; more = h.more; same = h.same })
  said (says_refused {e = x} h) {p} q = let e : ◌≡◌ {A = Result Part TextRefusal} (Ok p) (Err x) = sym q ∙ h in let z : ⊥ = cc in absurd z

  pub said_no : {o : Outcome} → Says t cells slots starts found old before limit r o → {e : TextRefusal} → r ≡ Err e → o ≡ refused (number e.refusal) e.place
  said_no (says_read {j = k} {next = n} h) {e} q = let f : ◌≡◌ {A = Result Part TextRefusal} (Err e) (Ok (record { row = as_row k; next = n; counts = record { used = h.used; texts = h.texts } })) = sym q ∙ h.answer in let z : ⊥ = cc in absurd z
  said_no (says_refused {e = x} h) {e} q =
      let f : ◌≡◌ {A = Result Part TextRefusal} (Err e) (Err x) = sym q ∙ h in
      let g : x ≡ e = cc in
      ap (λ (y : TextRefusal). refused (number y.refusal) y.place) g

  -- the same after fewer texts
  pub says_since : (first : List ℕ) (few : ℕ) → few ≤ before → ((k : ℕ) → k < few → get_or old k 0 ≡ get_or first k 0) → {o : Outcome} → Says t cells slots starts found old before limit r o → Says t cells slots starts found first few limit r o
  says_since first few l e (says_read h) =
      says_read
      (record {
        used = h.used;
        texts = h.texts;
        answer = h.answer;
        is = h.is;
        holds = h.holds;
        inside = h.inside;
        behind = h.behind;
        more = omega (arith, l, h.more);
        same = λ k m. h.same k (omega (arith, l, m)) ∙ e k m;
      })
  says_since first few l e (says_refused h) = says_refused h

none_behind : (o : Option ℕ) → map suc o ≡ none → o ≡ none
none_behind none q = refl
none_behind (some k) q = let z : ⊥ = cc in absurd z

-- a row that is not found is not found behind another that differs
pub find_more : (x r : Row) (rows : List Row) → eq_row x r ≡ false → find_row x rows ≡ none → find_row x (rows ++ r ∷ []) ≡ none
find_more x r [] e h = rw e
find_more x r (y ∷ rows) e h = go (eq_row x y) (λ q. find_more x r rows e q) h
  where
    go : (b : Bool) → (find_row x rows ≡ none → find_row x (rows ++ r ∷ []) ≡ none) → cond b (some 0) (map suc (find_row x rows)) ≡ none → cond b (some 0) (map suc (find_row x (rows ++ r ∷ []))) ≡ none
    go true f q = let z : ⊥ = cc in absurd z
    go false f q = ap (map suc) (f (none_behind (find_row x rows) q))

-- a row that is found is found with more behind
pub find_on : (x r : Row) (rows : List Row) (i : ℕ) → find_row x rows ≡ some i → find_row x (rows ++ r ∷ []) ≡ some i
find_on x r [] i e = let z : ⊥ = cc in absurd z
find_on x r (y ∷ rows) i e = go (eq_row x y) (λ k q. find_on x r rows k q) e
  where
    behind : (o : Option ℕ) → ((k : ℕ) → o ≡ some k → find_row x (rows ++ r ∷ []) ≡ some k) → map suc o ≡ some i → map suc (find_row x (rows ++ r ∷ [])) ≡ some i
    behind none f q = let z : ⊥ = cc in absurd z
    behind (some k) f q = ap (map suc) (f k refl) ∙ q

    go : (b : Bool) → ((k : ℕ) → find_row x rows ≡ some k → find_row x (rows ++ r ∷ []) ≡ some k) → cond b (some 0) (map suc (find_row x rows)) ≡ some i → cond b (some 0) (map suc (find_row x (rows ++ r ∷ []))) ≡ some i
    go true f q = q
    go false f q = behind (find_row x rows) f q

-- a row that is not found is found where it is added
pub find_last : (x : Row) (rows : List Row) → find_row x rows ≡ none → find_row x (rows ++ x ∷ []) ≡ some (length rows)
find_last x [] e = ap (λ c. cond c (some 0) none) ((T_true (eq_row x x)).0 (eq_row_refl x))
find_last x (y ∷ rows) e = go (eq_row x y) (λ q. find_last x rows q) e
  where
    go : (b : Bool) → (find_row x rows ≡ none → find_row x (rows ++ x ∷ []) ≡ some (length rows)) → cond b (some 0) (map suc (find_row x rows)) ≡ none → cond b (some 0) (map suc (find_row x (rows ++ x ∷ []))) ≡ some (suc (length rows))
    go true f q = let z : ⊥ = cc in absurd z
    go false f q = ap (map suc) (f (none_behind (find_row x rows) q))

-- a row that is found is one of them
pub found_inside : (r : Row) (rows : List Row) (i : ℕ) → find_row r rows ≡ some i → i < length rows
found_inside r [] i e = let z : ⊥ = cc in absurd z
found_inside r (x ∷ rows) i e = go (eq_row r x) (λ k q. found_inside r rows k q) e
  where
    behind : (o : Option ℕ) → ((k : ℕ) → o ≡ some k → k < length rows) → map suc o ≡ some i → i < suc (length rows)
    behind none f q = let z : ⊥ = cc in absurd z
    behind (some k) f q = let g : suc k ≡ i = cc in let l = f k refl in omega (arith, g, l)

    go : (b : Bool) → ((k : ℕ) → find_row r rows ≡ some k → k < length rows) → cond b (some 0) (map suc (find_row r rows)) ≡ some i → i < suc (length rows)
    go true f q = let g : 0 ≡ i = cc in omega (arith, g)
    go false f q = behind (find_row r rows) f q

-- a row that is no text's
pub no_text : (used texts : ℕ) {r q : Row} → r ≡ q → (q.symbol ≡ text_leaf → ⊥) → ((j : ℕ) → In j q.children → j < used) → Old used texts r
no_text used texts {r} {q} f plain below =
    let e : eqb text_leaf q.symbol ≡ false = ne_eqb _ _ (λ p. plain (sym p)) in
    record { differs = λ k l. ap (eq_row (leaf_row text_leaf (Name k))) f ∙ rw e; below = λ j m. below j (subst (λ (z : Row). In j z.children) f m) }

-- a leaf has no children
pub no_child : {used : ℕ} (j : ℕ) → In j [] → j < used
no_child j m = absurd (not-nil m)

-- the leaf of a text that has its number
pub numbered_text : (used texts n : ℕ) → n < texts → Old used texts (leaf_row text_leaf (Name n))
numbered_text used texts n h = record { differs = λ k l. let e : eqb k n ≡ false = ne_eqb k n (λ q. omega (arith, h, l, q)) in rw e; below = no_child }

-- a row that is that leaf
pub old_leaf : (used texts n : ℕ) {r : Row} → r ≡ leaf_row text_leaf (Name n) → n < texts → Old used texts r
old_leaf used texts n {r} e l = subst (Old used texts) (sym e) (numbered_text used texts n l)

module _ (t cells slots starts found : List ℕ) (used texts limit : ℕ) (h : Holds t cells slots starts found used texts limit) where
  rows_are : length (rows_below cells used) ≡ used
  rows_are = length_tab used (row_in cells)

  -- nothing was added
  pub after_same : (cs ss : List ℕ) → cs ≡ cells → ss ≡ slots → (i : row_number.Row) (next : ℕ) → 0 < next → i.0 < used → After t cs ss starts found starts texts limit (Ok (record { row = i; next = next; counts = record { used = used; texts = texts } })) i.0 next (built_in t cells starts used texts)
  after_same cs ss e f i next z l =
      record {
        used = used;
        texts = texts;
        answer = refl;
        is = ap (λ c. built_in t c starts used texts) (sym e);
        holds = subst (λ c. Holds t c ss starts found used texts limit) (sym e) (subst (λ s. Holds t cells s starts found used texts limit) (sym f) h);
        inside = l;
        behind = z;
        more = omega arith;
        same = λ k m. refl;
      }

  -- a row that is not the leaf of a text still to come
  module _ (r : Row) (old : Old used texts r) (next : ℕ) (behind : 0 < next) where
    finish_by : {o : Option ℕ} → find_row r (rows_below cells used) ≡ o → finish limit r next (built_in t cells starts used texts) ≡ place_row limit r next (built_in t cells starts used texts) o
    unfolding finish
    finish_by e = ap (place_row limit r next (built_in t cells starts used texts)) e

    added : (cs ss : List ℕ) → rows_below cs (used + 1) ≡ rows_below cells used ++ r ∷ [] → Ready cs ss (used + 1) limit → Holds t cs ss starts found (used + 1) texts limit
    added cs ss e d =
        record {
          ready = d;
          size = h.size;
          whole = h.whole;
          distinct = h.distinct;
          indexed = h.indexed;
          few = omega (arith, h.few);
          fresh = λ k l. ap (find_row (leaf_row text_leaf (Name k))) e ∙ find_more (leaf_row text_leaf (Name k)) r (rows_below cells used) (old.differs k l) (h.fresh k l);
          lower = subst Lower (sym e) (more_lower (rows_below cells used) h.lower r (λ j m. let b = old.below j m in omega (arith, b, rows_are)));
          leaves = λ k l. ap (find_row (leaf_row text_leaf (Name k))) e ∙ find_on (leaf_row text_leaf (Name k)) r (rows_below cells used) _ (h.leaves k l);
        }

    finish_says : (cs ss : List ℕ) {a : Placed} → Put cells slots cs ss used limit r a → Says t cs ss starts found starts texts limit (part_after next used texts a) (finish limit r next (built_in t cells starts used texts))
    finish_says cs ss (was i e f g) =
        says_by (finish_by e) (says_read (after_same cs ss f g i next behind (let l = found_inside r (rows_below cells used) i.0 e in omega (arith, l, rows_are))))
    finish_says cs ss (is i n e l m d) =
        let room : ltb (length (rows_below cells used)) limit ≡ true = lt-ltb (length (rows_below cells used)) limit (omega (arith, rows_are, l)) in
        says_by (finish_by e ∙ (λ k. cond (room k) (good (length (rows_below cells used)) next (built (rows_below cells used ++ r ∷ []) (texts_in t starts texts))) (refused 67 (next - 1))))
        (says_read
        (record {
          used = used + 1;
          texts = texts;
          answer = ap (λ (m : ℕ). Ok (record { row = as_row m; next = next; counts = record { used = used + 1; texts = texts } })) (n ∙ sym rows_are);
          is = ap (λ rows. built rows (texts_in t starts texts)) (sym m);
          holds = added cs ss m d;
          inside = omega (arith, rows_are);
          behind = behind;
          more = omega arith;
          same = λ k z. refl;
        }))
    finish_says cs ss (no_room e l) =
        let room : ltb (length (rows_below cells used)) limit ≡ false = le-ltb (length (rows_below cells used)) limit (omega (arith, rows_are, l)) in
        says_by (finish_by e ∙ (λ k. cond (room k) (good (length (rows_below cells used)) next (built (rows_below cells used ++ r ∷ []) (texts_in t starts texts))) (refused 67 (next - 1)))) (says_refused refl)

    -- the answer that the builder gave
    pub finish_answers : Kept r → (cs ss : List ℕ) (a : Placed) → Did (find_or_add cells slots used limit r) a cs ss → {x : Result Part TextRefusal} → x ≡ part_after next used texts a → Says t cs ss starts found starts texts limit x (finish limit r next (built_in t cells starts used texts))
    finish_answers k cs ss a did e = subst (λ x. Says t cs ss starts found starts texts limit x (finish limit r next (built_in t cells starts used texts))) (sym e) (finish_says cs ss (puts cells slots used limit h.ready r k cs ss a did))

-- there are fewer rows than places
pub few_rows : {t cells slots starts found : List ℕ} {used texts limit : ℕ} → Holds t cells slots starts found used texts limit → used < unused
few_rows h = omega (arith, h.ready.built.few)

-- a row's number is no unused place
pub small : {t cells slots starts found : List ℕ} {used texts limit : ℕ} → Holds t cells slots starts found used texts limit → {j : ℕ} → j < used → j < unused
small h l = omega (arith, h.ready.built.few, l)
