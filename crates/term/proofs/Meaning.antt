-- What is read is a tree that the text spells, in rows of that tree. Assumes nothing.
use mathlib.Core.Path.{◌≡◌, refl, sym, ap, subst, ◌∙◌}
use mathlib.Core.Bool.{Bool, true, false, cond}
use mathlib.Core.List.{List, [], ◌∷◌, ◌++◌}
use mathlib.Core.Option.{Option, none, some}
use Prim.Native.Nat.{ℕ, zero, suc, ◌+◌, ◌-◌, ◌<◌, ◌≤◌}
use native.Mathlib.Omega.{arith}
use borrow.Author.Tests.{eqb-true, eqb-false, ltb-true}
use lib.Dec.{eqb, ltb}
use lib.ListN.{length, length-append}
use Rattle.model.specs.Tree.{Tree, Forest, node, fnil, fcons, trees, levels, highest}
use Rattle.model.specs.Automaton.{Automaton, arity_of}
use Rattle.model.specs.Table.{Row}
use Rattle.model.specs.Build.{find_row, placed, add_row, add_tree, add_forest}
use Rattle.model.specs.Fit.{FitTree, FitForest}
use Rattle.model.proofs.Build.{Found, find_ok}
use Rattle.model.proofs.Levels.{larger_least}
use Rattle.model.specs.Lists.{eq_list}
use Rattle.automaton.specs.Stored.{decode}
use Rattle.names.specs.Names.{letter?, find_in}
use Rattle.names.specs.Table.{name_in}
use Rattle.names.proofs.First.{found_passes}
use Rattle.term.specs.Scan.{byte_at, Got, got, fault, name_at, Scalar, scalar, scalar_at}
use Rattle.term.specs.Grammar.{Setting, Outcome, good, refused, row_of, place_row, end_term, after_args, after_scalar, with_first, read_args, Named, named, unnamed, known_as, symbol_of, read_term}
use Rattle.term.specs.Spelling.{NameAt, TermAt, leaf, branch, ArgsAt, last, more as after_comma}
use Rattle.term.specs.State.{setting_of}
use Rattle.base.proofs.Bytes.{past}
use Rattle.base.proofs.Got.{Reads, read_is}
use Rattle.term.proofs.Bytes.{letter_inside}
use Rattle.term.proofs.Listing.{Ahead, Ends}
use Rattle.term.proofs.Reading.{no_letter}
use Rattle.term.proofs.Scalars.{ScalarFrom, scalar_reads}
use Rattle.term.proofs.Symbols.{named_after}

-- what was read passes a test; a refusal has a number of document 01
pub data Gives {A : Type 0} (P : A → ℕ → List Row → Type 0) : Outcome A → Type 0 where
  gives : {v : A} {n : ℕ} {rows : List Row} → P v n rows → Gives P (good v n rows)
  gives_none : {w p : ℕ} → w ≤ 67 → Gives P (refused w p)

pub given_is : {A : Type 0} (P : A → ℕ → List Row → Type 0) (v : A) (n : ℕ) (rows : List Row) {o : Outcome A} → o ≡ good v n rows → Gives P o → P v n rows
given_is P v n rows q (gives {v = u} {n = m} {rows = rs} h) =
    let a : u ≡ v = cc in
    let b : m ≡ n = cc in
    let c : rs ≡ rows = cc in
    subst (λ z. z) (λ i. P (a i) (b i) (c i)) h
given_is P v n rows q (gives_none l) = let z : ◌≡◌ {A = ℕ} 0 1 = cc in absurd (omega arith)

pub gives_as : {A : Type 0} (P : A → ℕ → List Row → Type 0) (Q : A → ℕ → List Row → Type 0) {o : Outcome A} → ((v : A) (n : ℕ) (rows : List Row) → P v n rows → Q v n rows) → Gives P o → Gives Q o
gives_as P Q f (gives h) = gives (f _ _ _ h)
gives_as P Q f (gives_none l) = gives_none l

either_most : (b : Bool) → cond b 64 63 ≤ 67
either_most true = omega arith
either_most false = omega arith

unnamed_most : (symbol : List ℕ → Option ℕ) (at : ℕ) (g : Got (List ℕ)) (w p : ℕ) → symbol_of symbol at g ≡ unnamed w p → w ≤ 67
unnamed_most symbol at (got name next) w p = go (symbol name)
  where
    go : (o : Option ℕ) → known_as at next o ≡ unnamed w p → w ≤ 67
    go (some s) e = let z : ◌≡◌ {A = ℕ} 0 1 = cc in absurd (omega arith)
    go none e = let q : 65 ≡ w = cc in omega arith
unnamed_most symbol at (fault q) w p = λ e. let r : 63 ≡ w = cc in omega arith

-- a term's end: the row was found or added, with as many children as its symbol has
pub record Ended (arity : ℕ → ℕ) (limit : ℕ) (r : Row) (next : ℕ) (rows : List Row) (j n : ℕ) (rs : List Row) : Type 0 where
  pub place : n ≡ next
  pub as_many : length r.children ≡ arity r.symbol
  pub row : add_row rows r ≡ (rs, j)
  pub inside : j < length rs
  pub few : length rows ≤ limit → length rs ≤ limit

module _ (arity : ℕ → ℕ) (limit at : ℕ) (r : Row) (next : ℕ) (rows : List Row) where
  place_gives : length r.children ≡ arity r.symbol → (o : Option ℕ) → find_row r rows ≡ o → Found r rows o → Gives (Ended arity limit r next rows) (place_row limit at r next rows o)
  place_gives e (some i) q h = gives (record { place = refl; as_many = e; row = ap (placed rows r) q; inside = h.0; few = λ l. l })
  place_gives e none q h = go (ltb (length rows) limit) refl
    where
      go : (b : Bool) → ltb (length rows) limit ≡ b → Gives (Ended arity limit r next rows) (cond b (good (length rows) next (rows ++ r ∷ [])) (refused 67 at))
      go true f =
          let k = length-append rows (r ∷ []) in
          let m = ltb-true (length rows) limit f in
          gives (record { place = refl; as_many = e; row = ap (placed rows r) q; inside = omega arith; few = λ l. omega arith })
      go false f = gives_none {w = 67} (omega arith)

  pub end_gives : Gives (Ended arity limit r next rows) (end_term arity limit at r next rows)
  unfolding end_term
  end_gives = go (eqb (length r.children) (arity r.symbol)) refl
    where
      go : (b : Bool) → eqb (length r.children) (arity r.symbol) ≡ b → Gives (Ended arity limit r next rows) (cond b (place_row limit at r next rows (find_row r rows)) (refused 66 at))
      go true e = place_gives (eqb-true _ _ e) (find_row r rows) refl (find_ok r rows)
      go false e = gives_none {w = 66} (omega arith)

-- the automaton A has the setting's symbols, with their numbers of children
module _ (A : Automaton) (S : Setting) (t : List ℕ) (known : (name : List ℕ) (s : ℕ) → S.symbol name ≡ some s → s < length A.arities) (arities : (s : ℕ) → S.arity s ≡ arity_of A s) where
  -- the term at `at` was read: a tree of at most l levels, whose rows were added
  pub record IsTerm (l at : ℕ) (rows : List Row) (j n : ℕ) (rs : List Row) : Type 0 where
    pub tree : Tree
    pub spelled : TermAt S.symbol t at tree n
    pub added : add_tree tree rows ≡ (rs, j)
    pub low : levels tree ≤ l
    pub fits : FitTree A tree
    pub begins : at < length t
    pub ahead : at < n
    pub inside : j < length rs
    pub few : length rows ≤ S.limit → length rs ≤ S.limit

  pub record IsArgs (l at : ℕ) (rows : List Row) (js : List ℕ) (n : ℕ) (rs : List Row) : Type 0 where
    pub forest : Forest
    pub spelled : ArgsAt S.symbol t at forest n
    pub added : add_forest forest rows ≡ (rs, js)
    pub low : highest forest ≤ l
    pub fits : FitForest A forest
    pub as_many : length js ≡ length (trees forest)
    pub ahead : at < n
    pub few : length rows ≤ S.limit → length rs ≤ S.limit

  module _ (l : ℕ) (term : ℕ → List Row → Outcome ℕ) (is-term : (at : ℕ) (rows : List Row) → Gives (IsTerm l at rows) (term at rows)) where
    module _ (at : ℕ) (rows : List Row) (j next : ℕ) (more : List Row) (h : IsTerm l at rows j next more) where
      last_args : byte_at t next ≡ 41 → IsArgs l at rows (j ∷ []) (next + 1) more
      unfolding add_tree levels FitTree
      last_args b =
          record {
            forest = fcons h.tree fnil;
            spelled = last h.spelled b refl;
            added = ap (λ p. (p.0, p.1 ∷ [])) h.added;
            low = larger_least (levels h.tree) 0 l h.low (omega arith);
            fits = (h.fits, tt);
            as_many = refl;
            ahead = omega (arith, h.ahead);
            few = h.few;
          }

      more_args : byte_at t next ≡ 44 → (js : List ℕ) (n : ℕ) (rs : List Row) → IsArgs l (next + 1) more js n rs → IsArgs l at rows (j ∷ js) n rs
      unfolding add_tree levels FitTree
      more_args b js n rs a =
          record {
            forest = fcons h.tree a.forest;
            spelled = after_comma h.spelled b a.spelled;
            added = ap (λ p. ((add_forest a.forest p.0).0, p.1 ∷ (add_forest a.forest p.0).1)) h.added ∙ ap (λ p. (p.0, j ∷ p.1)) a.added;
            low = larger_least (levels h.tree) (highest a.forest) l h.low a.low;
            fits = (h.fits, a.fits);
            as_many = ap suc a.as_many;
            ahead = omega (arith, h.ahead, a.ahead);
            few = λ k. a.few (h.few k);
          }

      first_gives : byte_at t next ≡ 44 → {o : Outcome (List ℕ)} → Gives (IsArgs l (next + 1) more) o → Gives (IsArgs l at rows) (with_first j o)
      first_gives b (gives a) = gives (more_args b _ _ _ a)
      first_gives b (gives_none l) = gives_none l

    args_gives : (f at : ℕ) (rows : List Row) → Gives (IsArgs l at rows) (read_args term t f at rows)
    unfolding read_args
    args_gives zero at rows = gives_none {w = 63} (omega arith)
    args_gives (suc f) at rows = go (is-term at rows) (λ n rs. args_gives f n rs)
      where
        close : (j next : ℕ) (rs : List Row) → IsTerm l at rows j next rs → (b : Bool) → eqb (byte_at t next) 41 ≡ b → Gives (IsArgs l at rows) (cond b (good (j ∷ []) (next + 1) rs) (refused 63 next))
        close j next rs h true e = gives (last_args at rows j next rs h (eqb-true _ _ e))
        close j next rs h false e = gives_none {w = 63} (omega arith)

        comma : (j next : ℕ) (rs : List Row) → IsTerm l at rows j next rs → Gives (IsArgs l (next + 1) rs) (read_args term t f (next + 1) rs) → (b : Bool) → eqb (byte_at t next) 44 ≡ b
            → Gives (IsArgs l at rows) (elim b [ true ↦ with_first j (read_args term t f (next + 1) rs) | false ↦ cond (eqb (byte_at t next) 41) (good (j ∷ []) (next + 1) rs) (refused 63 next) ])
        comma j next rs h a true e = first_gives at rows j next rs h (eqb-true _ _ e) a
        comma j next rs h a false e = close j next rs h (eqb (byte_at t next) 41) refl

        go : {o : Outcome ℕ} → Gives (IsTerm l at rows) o → ((n : ℕ) (rs : List Row) → Gives (IsArgs l n rs) (read_args term t f n rs))
            → Gives (IsArgs l at rows) (elim o [ refused w p ↦ refused w p | good j next more ↦ elim (eqb (byte_at t next) 44) [ true ↦ with_first j (read_args term t f (next + 1) more) | false ↦ cond (eqb (byte_at t next) 41) (good (j ∷ []) (next + 1) more) (refused 63 next) ] ])
        go (gives {v = j} {n = next} {rows = rs} h) k = comma j next rs h (k (next + 1) rs) (eqb (byte_at t next) 44) refl
        go (gives_none l) k = gives_none l

  -- the name of symbol s stands at `at`
  module _ (l at : ℕ) (rows : List Row) (s next : ℕ) (name : NameAt S.symbol t at s next) where
    goes_on : (at < next) × (next ≤ length t) × (w : List ℕ) × (S.symbol w ≡ some s)
    goes_on = named_after t at name.letter S.symbol s next name.known

    leaf_is : (byte_at t next ≡ 40 → ⊥) → (k : Scalar) (e : ℕ) → scalar_at t next ≡ got k e → ScalarFrom next k e
        → (j n : ℕ) (rs : List Row) → Ended S.arity S.limit (row_of s k []) e rows j n rs → IsTerm (suc l) at rows j n rs
    unfolding add_tree levels FitTree
    leaf_is b k e q c j n rs d =
        record {
          tree = node s k.kind k.payload fnil;
          spelled = subst (TermAt S.symbol t at (node s k.kind k.payload fnil)) (sym d.place) (leaf name b q);
          added = d.row;
          low = omega arith;
          fits = (
            record {
              known = known goes_on.2 s goes_on.3;
              as_many = d.as_many ∙ arities s;
              scalar = c.0;
              bare = λ p. let z : ⊥ = omega (arith, d.as_many ∙ arities s) in absurd z;
            },
            tt,
          );
          begins = letter_inside t at name.letter;
          ahead = omega (arith, goes_on.0, c.1, d.place);
          inside = d.inside;
          few = d.few;
        }

    branch_is : byte_at t next ≡ 40 → (js : List ℕ) (m : ℕ) (more : List Row) → IsArgs l (next + 1) rows js m more
        → (j n : ℕ) (rs : List Row) → Ended S.arity S.limit (row_of s (scalar 0 0) js) m more j n rs → IsTerm (suc l) at rows j n rs
    unfolding add_tree levels FitTree
    branch_is b js m more a j n rs d =
        record {
          tree = node s 0 0 a.forest;
          spelled = subst (TermAt S.symbol t at (node s 0 0 a.forest)) (sym d.place) (branch name b a.spelled);
          added = ap (λ p. add_row p.0 (row_of s (scalar 0 0) p.1)) a.added ∙ d.row;
          low = omega (arith, a.low);
          fits = (
            record {
              known = known goes_on.2 s goes_on.3;
              as_many = sym a.as_many ∙ d.as_many ∙ arities s;
              scalar = tt;
              bare = λ p. (refl, refl);
            },
            a.fits,
          );
          begins = letter_inside t at name.letter;
          ahead = omega (arith, goes_on.0, a.ahead, d.place);
          inside = d.inside;
          few = λ k. d.few (a.few k);
        }

    leaf_gives : (byte_at t next ≡ 40 → ⊥) → (g : Got Scalar) → scalar_at t next ≡ g → Reads (ScalarFrom next) g → Gives (IsTerm (suc l) at rows) (after_scalar S at s rows g)
    leaf_gives b (got k e) q h = gives_as _ _ (leaf_is b k e q (read_is (ScalarFrom next) k e refl h)) (end_gives S.arity S.limit at (row_of s k []) e rows)
    leaf_gives b (fault p) q h = gives_none {w = 63} (omega arith)

    branch_gives : byte_at t next ≡ 40 → {o : Outcome (List ℕ)} → Gives (IsArgs l (next + 1) rows) o → Gives (IsTerm (suc l) at rows) (after_args S at s o)
    branch_gives b (gives {v = js} {n = m} {rows = more} a) = gives_as _ _ (branch_is b js m more a) (end_gives S.arity S.limit at (row_of s (scalar 0 0) js) m more)
    branch_gives b (gives_none l) = gives_none l

  pub term_gives : (l at : ℕ) (rows : List Row) → Gives (IsTerm l at rows) (read_term S t l at rows)
  unfolding read_term
  term_gives zero at rows = gives_none (either_most (letter? (byte_at t at)))
  term_gives (suc l) at rows = letter (letter? (byte_at t at)) refl (λ i rs. term_gives l i rs)
    where
      bracket : (s next : ℕ) → NameAt S.symbol t at s next → ((i : ℕ) (rs : List Row) → Gives (IsTerm l i rs) (read_term S t l i rs)) → (b : Bool) → eqb (byte_at t next) 40 ≡ b
          → Gives (IsTerm (suc l) at rows) (elim b [ true ↦ after_args S at s (read_args (read_term S t l) t (length t - (next + 1)) (next + 1) rows) | false ↦ after_scalar S at s rows (scalar_at t next) ])
      bracket s next name ih true e = branch_gives l at rows s next name (eqb-true _ _ e) (args_gives l (read_term S t l) ih (length t - (next + 1)) (next + 1) rows)
      bracket s next name ih false e = leaf_gives l at rows s next name (eqb-false _ _ e) (scalar_at t next) refl (scalar_reads t next)

      name : letter? (byte_at t at) ≡ true → ((i : ℕ) (rs : List Row) → Gives (IsTerm l i rs) (read_term S t l i rs)) → (o : Named) → symbol_of S.symbol at (name_at t at) ≡ o
          → Gives (IsTerm (suc l) at rows) (elim o [ unnamed w p ↦ refused w p | named s next ↦ elim (eqb (byte_at t next) 40) [ true ↦ after_args S at s (read_args (read_term S t l) t (length t - (next + 1)) (next + 1) rows) | false ↦ after_scalar S at s rows (scalar_at t next) ] ])
      name e ih (named s next) q = bracket s next (record { letter = e; known = q }) ih (eqb (byte_at t next) 40) refl
      name e ih (unnamed w p) q = gives_none (unnamed_most S.symbol at (name_at t at) w p q)

      letter : (b : Bool) → letter? (byte_at t at) ≡ b → ((i : ℕ) (rs : List Row) → Gives (IsTerm l i rs) (read_term S t l i rs))
          → Gives (IsTerm (suc l) at rows) (elim b [ false ↦ refused 63 at | true ↦ elim (symbol_of S.symbol at (name_at t at)) [ unnamed w p ↦ refused w p | named s next ↦ elim (eqb (byte_at t next) 40) [ true ↦ after_args S at s (read_args (read_term S t l) t (length t - (next + 1)) (next + 1) rows) | false ↦ after_scalar S at s rows (scalar_at t next) ] ] ])
      letter true e ih = name e ih (symbol_of S.symbol at (name_at t at)) refl
      letter false e ih = gives_none {w = 63} (omega arith)

-- the reader's own setting
module _ (set names : List ℕ) (symbols limit : ℕ) (counted : symbols ≡ length (decode set).arities) where
  found_known : (name : List ℕ) (s : ℕ) → find_in symbols (name_in names) name ≡ some s → s < length (decode set).arities
  unfolding find_in
  found_known name s e = let r = found_passes (λ i. eq_list (name_in names i) name) symbols s e in omega (arith, r.0)

  pub term_ahead : (t : List ℕ) (l : ℕ) → Ahead t (read_term (setting_of set names symbols limit) t l)
  term_ahead t l at rows j next more e =
      let h = given_is (IsTerm (decode set) (setting_of set names symbols limit) t found_known (λ s. refl) l at rows) j next more e (term_gives (decode set) (setting_of set names symbols limit) t found_known (λ s. refl) l at rows) in
      (h.begins, h.ahead, h.inside)

  -- no more rows than the limit
  pub term_few : (t : List ℕ) (l at : ℕ) (rows : List Row) (j next : ℕ) (more : List Row) → read_term (setting_of set names symbols limit) t l at rows ≡ good j next more → length rows ≤ limit → length more ≤ limit
  term_few t l at rows j next more e =
      (given_is (IsTerm (decode set) (setting_of set names symbols limit) t found_known (λ s. refl) l at rows) j next more e (term_gives (decode set) (setting_of set names symbols limit) t found_known (λ s. refl) l at rows)).few

-- past the end no term begins
no_zero : letter? 0 ≡ false
unfolding letter?
no_zero = refl

pub term_ends : (S : Setting) (t : List ℕ) (l : ℕ) → Ends t (read_term S t l)
term_ends S t l at rows h = no_letter S t at rows l (ap letter? (sym (past t at h)) ∙ no_zero)
