-- What is read is a value by the productions of RFC 8259, and its tree was added. Assumes nothing.
use mathlib.Core.Path.{◌≡◌, refl, sym, ap, subst, ◌∙◌}
use mathlib.Core.Bool.{Bool, true, false, not, ◌&&◌, ◌||◌, cond}
use mathlib.Core.List.{List, [], ◌∷◌, ◌++◌}
use mathlib.Core.Option.{Option, none, some}
use Prim.Native.Nat.{ℕ, zero, suc, ◌+◌, ◌<◌, ◌≤◌}
use native.Mathlib.Omega.{arith}
use borrow.Author.Tests.{eqb-true, eqb-false}
use lib.Dec.{eqb}
use lib.ListN.{length}
use Rattle.base.specs.Text.{byte_at, Got, got, fault, word_at}
use Rattle.base.proofs.Got.{Reads, reads, none_read}
use Rattle.classes.specs.Classes.{digit?}
use Rattle.model.specs.Lists.{any, eq_list}
use Rattle.model.specs.Tree.{Tree}
use Rattle.document.specs.declared.scalar.Scalar.{Scalar}
use Rattle.document.specs.declared.scalar.Scalar.TheVariants.{Bare, Flag, Name}
use Rattle.jsontext.specs.Spaces.{space_end}
use Rattle.jsontext.specs.Strings.{string_at}
use Rattle.jsontext.specs.Number.{Number, number_at, as_scalar, number_scalar}
use Rattle.jsontext.specs.Productions.{Spaces, NumberAt, StringAt}
use Rattle.jsontext.proofs.SpaceProductions.{spaces_read}
use Rattle.jsontext.proofs.NumberProductions.{number_read}
use Rattle.jsontext.proofs.StringProductions.{string_read}
use Rattle.jsonrows.specs.Signature.{end, stop, other, item, null_leaf, flag_leaf, number_leaf, text_leaf, key_symbol}
use Rattle.jsonrows.specs.Keys.{find_text}
use Rattle.jsonrows.specs.Value.{Value, Elements, Members, null, boolean, number, string, array, object, no_element, element, no_member, member, some?, scalar_or, number_text, leaf_tree, node_tree, text_tree, key_texts, member_tree, value_tree, elements_tree, members_tree, formed?, elements_formed?, members_formed?}
use Rattle.jsonrows.specs.Productions.{WordAt, MarkAt, ValueAt, is_null, is_true, is_false, is_number, is_string, is_array, is_object, ElementsAt, no_elements, some_elements, SomeElements, last_element, more_elements, MembersAt, no_members, some_members, SomeMembers, last_member, more_members, MemberAt, pair}
use Rattle.jsonrows.specs.Grammar.{Setting, Built, built, Outcome, good, refused, leaf_row, node_row, finish, finish_text, after_word, after_text, after_number, opens?, no_value, Reader, MemberReader, close_at, rest_at, joined, after_value, element_by, member_by, after_key, key_by, members_by, body_at, value_by, members, elements, value}
use Rattle.jsonrows.proofs.Planted.{Gives, gives, gives_none, given_is, gives_as, Ended, finish_gives, Grown, Planted, grown_none, grown_more, node_planted, leaf_planted, some_level}
use Rattle.jsonrows.proofs.WordProductions.{word_read}
use Rattle.jsonrows.proofs.ValuePlaces.{value_ahead, some_elements_ahead, some_members_ahead}

-- something was read from `at` up to n: what it is by the productions, with numbers that have a form and keys that stand once, and its tree of at most l levels was added
pub record IsRead {X : Type 0} (limit : ℕ) (Is : ℕ → X → ℕ → Type 0) (ok : X → Bool) (tree : X → List (List ℕ) → Tree × List (List ℕ)) (l at : ℕ) (b : Built) (j n : ℕ) (after : Built) : Type 0 where
  pub what : X
  pub spelled : Is at what n
  pub formed : ok what ≡ true
  pub planted : Planted limit (tree what b.texts) l b j after

-- one way or the other
choose : {P : ℕ → ℕ → Built → Type 0} (c : Bool) (x y : Outcome) → (c ≡ true → Gives P x) → (c ≡ false → Gives P y) → Gives P (elim c [ true ↦ x | false ↦ y ])
choose true x y f g = f refl
choose false x y f g = g refl

module _ (S : Setting) (t : List ℕ) where
  abbrev pub IsValue : ℕ → ℕ → Built → ℕ → ℕ → Built → Type 0
  IsValue = IsRead S.limit (ValueAt t) formed? (value_tree S.keys)

  -- an element or a member and what follows it, up to the closing mark
  abbrev pub IsElements : ℕ → ℕ → Built → ℕ → ℕ → Built → Type 0
  IsElements = IsRead S.limit (SomeElements t) elements_formed? (elements_tree S.keys)

  abbrev pub IsMembers : List (List ℕ) → ℕ → ℕ → Built → ℕ → ℕ → Built → Type 0
  IsMembers seen = IsRead S.limit (SomeMembers t) (members_formed? seen) (members_tree S.keys)

  -- what follows a value
  module _ {X : Type 0} (Is Behind : ℕ → X → ℕ → Type 0) (ok : X → Bool) (tree : X → List (List ℕ) → Tree × List (List ℕ)) (nothing : X) (mark leaf : ℕ)
      (no_more : ok nothing ≡ true) (leaf_is : (texts : List (List ℕ)) → (leaf_tree leaf Bare, texts) ≡ tree nothing texts)
      (close : (j k n : ℕ) → Spaces t j k → byte_at t k ≡ mark → n ≡ k + 1 → Behind j nothing n)
      (comma : (j k l n : ℕ) (x : X) → Spaces t j k → MarkAt t 44 k l → Is l x n → Behind j x n)
      (l : ℕ) (rest : Reader) (is-rest : (at : ℕ) (b : Built) → Gives (IsRead S.limit Is ok tree l at b) (rest at b)) where
    close_gives : 0 < l → (j : ℕ) (b : Built) → Gives (IsRead S.limit Behind ok tree l j b) (close_at S.limit t mark leaf (space_end t j) b)
    unfolding close_at
    close_gives z j b =
        choose (eqb (byte_at t (space_end t j)) mark) _ _
        (λ e.
        gives_as _ _
        (λ i n after h. record { what = nothing; spelled = close _ _ _ (spaces_read t j) (eqb-true _ _ e) h.place; formed = no_more; planted = subst (λ p. Planted S.limit p l b i after) (leaf_is b.texts) (leaf_planted S.limit l leaf Bare z h) })
        (finish_gives S.limit (leaf_row leaf Bare) (space_end t j + 1) b))
        (λ e. gives_none {w = 71} (omega arith))

    rest_gives : 0 < l → (j : ℕ) (b : Built) → Gives (IsRead S.limit Behind ok tree l j b) (rest_at S.limit t mark leaf rest (space_end t j) b)
    unfolding rest_at
    rest_gives z j b =
        choose (eqb (byte_at t (space_end t j)) 44) _ _
        (λ e.
        gives_as _ _
        (λ i n after h. record { what = h.what; spelled = comma _ _ _ _ _ (spaces_read t j) (record { mark = eqb-true _ _ e; spaces = spaces_read t (space_end t j + 1) }) h.spelled; formed = h.formed; planted = h.planted })
        (is-rest (space_end t (space_end t j + 1)) b))
        (λ e. close_gives z j b)

    -- a value, what follows it and the row of both, behind trees that were added before
    record IsBoth (s : ℕ) (ts : List Tree) (b more : Built) (at j n : ℕ) (after : Built) : Type 0 where
      first : Value
      middle : ℕ
      spelled : ValueAt t at first middle
      formed : formed? first ≡ true
      behind : X
      follows : Behind middle behind n
      well : ok behind ≡ true
      planted : let (x, texts) = value_tree S.keys first more.texts in let (y, texts') = tree behind texts in Planted S.limit (node_tree s ((ts ++ x ∷ []) ++ y ∷ []), texts') (suc l) b j after

    module _ (s : ℕ) (ts : List Tree) (js : List ℕ) (b more : Built) (before : Grown S.limit ts l b.rows js more.rows) (at : ℕ) where
      join_gives : {v m : ℕ} {b₁ : Built} → IsValue l at more v m b₁ → {o : Outcome} → Gives (IsRead S.limit Behind ok tree l m b₁) o → Gives (IsBoth s ts b more at) (joined S.limit s (js ++ v ∷ []) o)
      join_gives h (gives_none m) = gives_none m
      join_gives {v = v} {m = m} {b₁ = b₁} h (gives {j = r} {n = n} {b = b₂} k) =
          gives_as _ _
          (λ i n' after e.
          record {
            first = h.what;
            middle = m;
            spelled = h.spelled;
            formed = h.formed;
            behind = k.what;
            follows = subst (Behind m k.what) (sym e.place) k.spelled;
            well = k.formed;
            planted =
                let q : Planted S.limit (tree k.what (value_tree S.keys h.what more.texts).1) l b₁ r b₂ = subst (λ texts. Planted S.limit (tree k.what texts) l b₁ r b₂) (sym h.planted.texts) k.planted in
                subst (λ texts. Planted S.limit (node_tree s ((ts ++ (value_tree S.keys h.what more.texts).0 ∷ []) ++ (tree k.what (value_tree S.keys h.what more.texts).1).0 ∷ []), texts) (suc l) b i after) (sym q.texts)
                (node_planted S.limit l (grown_more S.limit l {b = b₁} (grown_more S.limit l {b = more} before h.planted) q) e);
          })
          (finish_gives S.limit (node_row s ((js ++ v ∷ []) ++ r ∷ [])) n b₂)

      both_gives : {o : Outcome} → Gives (IsValue l at more) o → Gives (IsBoth s ts b more at) (after_value S.limit t mark leaf rest s js o)
      both_gives (gives_none m) = gives_none m
      both_gives (gives {j = v} {n = m} {b = b₁} h) = join_gives h (rest_gives (omega (arith, h.planted.low, some_level (value_tree S.keys h.what more.texts).0)) m b₁)

  both_formed : (a b : Bool) → a ≡ true → b ≡ true → (a && b) ≡ true
  both_formed a b e f = rw (e, f)

  -- ---- elements

  abbrev ElementsBehind : ℕ → Elements → ℕ → Type 0
  ElementsBehind j vs n = (i : ℕ) (v : Value) → ValueAt t i v j → SomeElements t i (element v vs) n

  module _ (l : ℕ) (read : Reader) (is-value : (at : ℕ) (b : Built) → Gives (IsValue l at b) (read at b)) where
    pub elements_by : (rest : Reader) → ((at : ℕ) (b : Built) → Gives (IsElements l at b) (rest at b)) → (at : ℕ) (b : Built) → Gives (IsElements (suc l) at b) (element_by S.limit t read rest at b)
    unfolding element_by value_tree formed?
    elements_by rest is-rest at b =
        gives_as _ _
        (λ j n after h. record { what = element h.first h.behind; spelled = h.follows at h.first h.spelled; formed = both_formed _ _ h.formed h.well; planted = h.planted })
        (both_gives (SomeElements t) ElementsBehind elements_formed? (elements_tree S.keys) no_element 93 stop refl (λ texts. refl)
        (λ j k n s e q i v h. last_element h s e q)
        (λ j k m n x s e h i v g. more_elements g s e h)
        l rest is-rest item [] [] b b (grown_none S.limit l b.rows) at (is-value at b))

    -- ---- members

    abbrev MembersBehind : ℕ → Members → ℕ → Type 0
    MembersBehind j ms n = (i : ℕ) (key : List ℕ) (v : Value) → MemberAt t i key v j → SomeMembers t i (member key v ms) n

    module _ (rest : MemberReader) (is-rest : (seen : List (List ℕ)) (at : ℕ) (b : Built) → Gives (IsMembers seen l at b) (rest seen at b)) (seen : List (List ℕ)) (at : ℕ) (b : Built) where
      -- a key that did not stand before
      module _ (key : List ℕ) (next : ℕ) (string : StringAt t at key next) where
        -- the tree by its own definition
        key_planted : (s : ℕ) (ts : List Tree) (more : Built) (v : Value) (ms : Members) → key_texts key b.texts (find_text key S.keys) ≡ more.texts
            → ((x y : Tree) → node_tree s ((ts ++ x ∷ []) ++ y ∷ []) ≡ member_tree key b.texts (find_text key S.keys) x y) → (j : ℕ) (after : Built)
            → (let (x, texts) = value_tree S.keys v more.texts in let (y, texts') = members_tree S.keys ms texts in Planted S.limit (node_tree s ((ts ++ x ∷ []) ++ y ∷ []), texts') (suc l) b j after)
            → Planted S.limit (members_tree S.keys (member key v ms) b.texts) (suc l) b j after
        unfolding value_tree
        key_planted s ts more v ms texts tree j after h =
            subst (λ p. Planted S.limit p (suc l) b j after)
            (ap (λ now. let (x, texts) = value_tree S.keys v now in let (y, texts') = members_tree S.keys ms texts in (node_tree s ((ts ++ x ∷ []) ++ y ∷ []), texts')) (sym texts)
            ∙ (let (x, texts) = value_tree S.keys v (key_texts key b.texts (find_text key S.keys)) in let (y, texts') = members_tree S.keys ms texts in λ i. (tree x y i, texts')))
            h

        -- behind it, its value and what follows, behind trees that were added before
        member_gives : any (eq_list key) seen ≡ false → (s : ℕ) (ts : List Tree) (js : List ℕ) (more : Built) → Grown S.limit ts l b.rows js more.rows → key_texts key b.texts (find_text key S.keys) ≡ more.texts
            → ((x y : Tree) → node_tree s ((ts ++ x ∷ []) ++ y ∷ []) ≡ member_tree key b.texts (find_text key S.keys) x y)
            → Gives (IsMembers seen (suc l) at b) (member_by S.limit t read (rest (seen ++ key ∷ [])) s js (space_end t next) more)
        unfolding member_by value_tree formed?
        member_gives new s ts js more before texts tree =
            choose (eqb (byte_at t (space_end t next)) 58) _ _
            (λ e.
            gives_as _ _
            (λ j n after h.
            record {
              what = member key h.first h.behind;
              spelled = h.follows at key h.first (pair string (spaces_read t next) (record { mark = eqb-true _ _ e; spaces = spaces_read t (space_end t next + 1) }) h.spelled);
              formed = both_formed _ _ (ap not new) (both_formed _ _ h.formed h.well);
              planted = key_planted s ts more h.first h.behind texts tree j after h.planted;
            })
            (both_gives (SomeMembers t) MembersBehind (members_formed? (seen ++ key ∷ [])) (members_tree S.keys) no_member 125 end refl (λ texts. refl)
            (λ j k n s e q i key v h. last_member h s e q)
            (λ j k m n x s e h i key v g. more_members g s e h)
            l (rest (seen ++ key ∷ [])) (is-rest (seen ++ key ∷ [])) s ts js b more before (space_end t (space_end t next + 1)) (is-value (space_end t (space_end t next + 1)) more)))
            (λ e. gives_none {w = 71} (omega arith))

        -- the text of one that is not listed
        text_gives : any (eq_list key) seen ≡ false → 0 < l → find_text key S.keys ≡ none → {o : Outcome} → Gives (Ended S.limit (leaf_row text_leaf (Name (number_text key b.texts).0)) next (built b.rows (number_text key b.texts).1)) o → Gives (IsMembers seen (suc l) at b) (after_key S.limit t read (rest (seen ++ key ∷ [])) o)
        text_gives new z e (gives_none m) = gives_none m
        text_gives new z e (gives {j = k} {n = n} {b = more} h) =
            let p = leaf_planted S.limit l text_leaf (Name (number_text key b.texts).0) z h in
            rw h.place (member_gives new other (text_tree (number_text key b.texts).0 ∷ []) (k ∷ []) more (grown_more S.limit l (grown_none S.limit l b.rows) p) (ap (key_texts key b.texts) e ∙ p.texts) (λ x y. ap (λ f. member_tree key b.texts f x y) (sym e)))

        key_gives : Gives (IsMembers seen (suc l) at b) (key_by S t l read rest seen at key next b)
        unfolding key_by finish_text
        key_gives = go (find_text key S.keys) refl
          where
            go : (o : Option ℕ) → find_text key S.keys ≡ o
                → Gives (IsMembers seen (suc l) at b) (elim o [ none ↦ elim (eqb l 0) [ true ↦ refused 64 at | false ↦ elim (any (eq_list key) seen) [ true ↦ refused 72 at | false ↦ after_key S.limit t read (rest (seen ++ key ∷ [])) (finish_text S.limit key next b) ] ] | some k ↦ elim (any (eq_list key) seen) [ true ↦ refused 72 at | false ↦ member_by S.limit t read (rest (seen ++ key ∷ [])) (key_symbol k) [] (space_end t next) b ] ])
            go none e =
                choose (eqb l 0) _ _ (λ z. gives_none {w = 64} (omega arith))
                (λ z. choose (any (eq_list key) seen) _ _ (λ w. gives_none {w = 72} (omega arith)) (λ w. text_gives w (let y = eqb-false l 0 z in omega arith) e (finish_gives S.limit (leaf_row text_leaf (Name (number_text key b.texts).0)) next (built b.rows (number_text key b.texts).1))))
            go (some k) e = choose (any (eq_list key) seen) _ _ (λ w. gives_none {w = 72} (omega arith)) (λ w. member_gives w (key_symbol k) [] [] b (grown_none S.limit l b.rows) (ap (key_texts key b.texts) e) (λ x y. ap (λ f. member_tree key b.texts f x y) (sym e)))

      -- one member or more, by readers of values and of what follows
      pub members_by_lem : Gives (IsMembers seen (suc l) at b) (members_by S t l read rest seen at b)
      unfolding members_by
      members_by_lem = go (string_at t at) refl
        where
          go : (g : Got (List ℕ)) → string_at t at ≡ g → Gives (IsMembers seen (suc l) at b) (elim g [ fault p ↦ refused 71 p | got key next ↦ key_by S t l read rest seen at key next b ])
          go (got key next) e = key_gives key next (string_read t e)
          go (fault p) e = gives_none {w = 71} (omega arith)

  -- ---- what stands behind an opening mark: the closing one, or what is read

  body_gives : {X : Type 0} (Is Some : ℕ → X → ℕ → Type 0) (ok : X → Bool) (tree : X → List (List ℕ) → Tree × List (List ℕ)) (nothing : X) (mark leaf : ℕ) → ok nothing ≡ true → ((texts : List (List ℕ)) → (leaf_tree leaf Bare, texts) ≡ tree nothing texts)
      → ((i n : ℕ) → byte_at t i ≡ mark → n ≡ i + 1 → Is i nothing n) → ((i n : ℕ) (x : X) → Some i x n → Is i x n)
      → (l : ℕ) → 0 < l → (read : Reader) → ((at : ℕ) (b : Built) → Gives (IsRead S.limit Some ok tree l at b) (read at b)) → (at : ℕ) (b : Built) → Gives (IsRead S.limit Is ok tree l at b) (body_at S.limit t mark leaf read at b)
  unfolding body_at
  body_gives Is Some ok tree nothing mark leaf no_more leaf_is closed opened l z read is_read at b =
      choose (eqb (byte_at t at) mark) _ _
      (λ e.
      gives_as _ _
      (λ i n after h. record { what = nothing; spelled = closed at n (eqb-true _ _ e) h.place; formed = no_more; planted = subst (λ p. Planted S.limit p l b i after) (leaf_is b.texts) (leaf_planted S.limit l leaf Bare z h) })
      (finish_gives S.limit (leaf_row leaf Bare) (at + 1) b))
      (λ e. gives_as _ _ (λ i n after h. record { what = h.what; spelled = opened at n h.what h.spelled; formed = h.formed; planted = h.planted }) (is_read at b))

  -- ---- values

  module _ (l : ℕ) (level : 0 < l) (at : ℕ) (b : Built) where
    -- a leaf that is finished before `next`
    leaf_gives : (v : Value) (s : ℕ) (k : Scalar) (next : ℕ) → ValueAt t at v next → formed? v ≡ true → (leaf_tree s k, b.texts) ≡ value_tree S.keys v b.texts → Gives (IsValue l at b) (finish S.limit (leaf_row s k) next b)
    leaf_gives v s k next h ok e =
        gives_as _ _
        (λ j n after g. record { what = v; spelled = subst (ValueAt t at v) (sym g.place) h; formed = ok; planted = subst (λ p. Planted S.limit p l b j after) e (leaf_planted S.limit l s k level g) })
        (finish_gives S.limit (leaf_row s k) next b)

    word_gives : (v : Value) (s : ℕ) (k : Scalar) (w : List ℕ) → ((n : ℕ) → WordAt t at w n → ValueAt t at v n) → formed? v ≡ true → (leaf_tree s k, b.texts) ≡ value_tree S.keys v b.texts → Gives (IsValue l at b) (after_word S.limit s b (word_at k w t at))
    word_gives v s k w f ok e = go (word_read t k w at)
      where
        go : {g : Got Scalar} → Reads (λ u n. (u ≡ k) × WordAt t at w n) g → Gives (IsValue l at b) (after_word S.limit s b g)
        go (reads {v = u} {e = n} h) = rw h.0 (leaf_gives v s k n (f n h.1) ok e)
        go none_read = gives_none {w = 71} (omega arith)

    number_gives : Gives (IsValue l at b) (after_number S.limit at b (as_scalar (number_at t at)))
    unfolding value_tree formed?
    number_gives = go (number_at t at) refl
      where
        scalar : (m : Number) (n : ℕ) → NumberAt t at m n → (o : Option Scalar) → number_scalar m ≡ o → Gives (IsValue l at b) (after_number S.limit at b (got o n))
        scalar m n h (some k) e = leaf_gives (number m) number_leaf k n (is_number h) (ap some? e) (ap (λ o. (leaf_tree number_leaf (scalar_or o), b.texts)) (sym e))
        scalar m n h none e = gives_none {w = 73} (omega arith)

        go : (g : Got Number) → number_at t at ≡ g → Gives (IsValue l at b) (after_number S.limit at b (as_scalar g))
        go (got m n) e = scalar m n (number_read t e) (number_scalar m) refl
        go (fault p) e = gives_none {w = 71} (omega arith)

    text_planted : (bs : List ℕ) {next j n : ℕ} {after : Built} → Ended S.limit (leaf_row text_leaf (Name (number_text bs b.texts).0)) next (built b.rows (number_text bs b.texts).1) j n after → Planted S.limit (text_tree (number_text bs b.texts).0, (number_text bs b.texts).1) l b j after
    text_planted bs h = let p = leaf_planted S.limit l text_leaf (Name (number_text bs b.texts).0) level h in record { added = p.added; texts = p.texts; low = p.low; inside = p.inside; few = p.few }

    text_value : Gives (IsValue l at b) (after_text S.limit b (string_at t at))
    unfolding finish_text value_tree formed?
    text_value = go (string_at t at) refl
      where
        go : (g : Got (List ℕ)) → string_at t at ≡ g → Gives (IsValue l at b) (after_text S.limit b g)
        go (got bs n) e =
            gives_as _ _
            (λ j m after h. record { what = string bs; spelled = subst (ValueAt t at (string bs)) (sym h.place) (is_string (string_read t e)); formed = refl; planted = text_planted bs h })
            (finish_gives S.limit (leaf_row text_leaf (Name (number_text bs b.texts).0)) n (built b.rows (number_text bs b.texts).1))
        go (fault p) e = gives_none {w = 71} (omega arith)

    -- A VALUE THAT IS READ IS ONE BY THE PRODUCTIONS, by readers of members and elements that read such.
    pub value_by_lem : (ms : MemberReader) → ((seen : List (List ℕ)) (at : ℕ) (b : Built) → Gives (IsMembers seen l at b) (ms seen at b)) → (es : Reader) → ((at : ℕ) (b : Built) → Gives (IsElements l at b) (es at b)) → Gives (IsValue l at b) (value_by S t ms es at b)
    unfolding value_by value_tree formed?
    value_by_lem ms is-ms es is-es =
        choose (eqb (byte_at t at) 123) _ _
        (λ e.
        gives_as _ _
        (λ j n after h. record { what = object h.what; spelled = is_object (record { mark = eqb-true _ _ e; spaces = spaces_read t (at + 1) }) h.spelled; formed = h.formed; planted = h.planted })
        (body_gives (MembersAt t) (SomeMembers t) (members_formed? []) (members_tree S.keys) no_member 125 end refl (λ texts. refl) (λ i n. no_members) (λ i n x. some_members)
        l level (ms []) (is-ms []) (space_end t (at + 1)) b))
        (λ _.
        choose (eqb (byte_at t at) 91) _ _
        (λ e.
        gives_as _ _
        (λ j n after h. record { what = array h.what; spelled = is_array (record { mark = eqb-true _ _ e; spaces = spaces_read t (at + 1) }) h.spelled; formed = h.formed; planted = h.planted })
        (body_gives (ElementsAt t) (SomeElements t) elements_formed? (elements_tree S.keys) no_element 93 stop refl (λ texts. refl) (λ i n. no_elements) (λ i n x. some_elements)
        l level es is-es (space_end t (at + 1)) b))
        (λ _.
        choose (eqb (byte_at t at) 34) _ _ (λ _. text_value)
        (λ _.
        choose (eqb (byte_at t at) 116) _ _ (λ _. word_gives (boolean true) flag_leaf (Flag true) _ (λ n. is_true) refl refl)
        (λ _.
        choose (eqb (byte_at t at) 102) _ _ (λ _. word_gives (boolean false) flag_leaf (Flag false) _ (λ n. is_false) refl refl)
        (λ _.
        choose (eqb (byte_at t at) 110) _ _ (λ _. word_gives null null_leaf Bare _ (λ n. is_null) refl refl)
        (λ _. choose (eqb (byte_at t at) 45 || digit? (byte_at t at)) _ _ (λ _. number_gives) (λ _. gives_none {w = 71} (omega arith))))))))

  -- ---- levels

  no_value_lem : (at : ℕ) (b : Built) → Gives (IsValue 0 at b) (no_value t at b)
  unfolding no_value
  no_value_lem at b = go (opens? (byte_at t at))
    where
      go : (c : Bool) → Gives (IsValue 0 at b) (refused (cond c 64 71) at)
      go true = gives_none {w = 64} (omega arith)
      go false = gives_none {w = 71} (omega arith)

  -- members and elements of at most l levels
  record Both (l : ℕ) : Type 0 where
    of_members : (seen : List (List ℕ)) (at : ℕ) (b : Built) → Gives (IsMembers seen (suc l) at b) (members l S t seen at b)
    of_elements : (at : ℕ) (b : Built) → Gives (IsElements (suc l) at b) (elements l S t at b)

  both : (l : ℕ) → Both l
  unfolding members
  both zero =
      record {
        of_members = members_by_lem 0 (no_value t) no_value_lem (λ seen at b. refused 64 at) (λ seen at b. gives_none {w = 64} (omega arith));
        of_elements = elements_by 0 (no_value t) no_value_lem (λ at b. refused 64 at) (λ at b. gives_none {w = 64} (omega arith));
      }
  both (suc l) =
      let h = both l in
      let v : (at : ℕ) (b : Built) → Gives (IsValue (suc l) at b) (value_by S t (members l S t) (elements l S t) at b) = λ at b. value_by_lem (suc l) (omega arith) at b (members l S t) h.of_members (elements l S t) h.of_elements in
      record {
        of_members = members_by_lem (suc l) (value_by S t (members l S t) (elements l S t)) v (members l S t) h.of_members;
        of_elements = elements_by (suc l) (value_by S t (members l S t) (elements l S t)) v (elements l S t) h.of_elements;
      }

  -- what each reader gives, level by level
  pub members_give : (l : ℕ) (seen : List (List ℕ)) (at : ℕ) (b : Built) → Gives (IsMembers seen (suc l) at b) (members l S t seen at b)
  members_give l = (both l).of_members

  pub elements_give : (l at : ℕ) (b : Built) → Gives (IsElements (suc l) at b) (elements l S t at b)
  elements_give l = (both l).of_elements

  pub value_gives : (l at : ℕ) (b : Built) → Gives (IsValue l at b) (value l S t at b)
  unfolding value
  value_gives zero at b = no_value_lem at b
  value_gives (suc l) at b = value_by_lem (suc l) (omega arith) at b (members l S t) (members_give l) (elements l S t) (elements_give l)

  -- what is read ends behind its place and inside the text, and its row is one of the rows
  abbrev pub Inside : ℕ → ℕ → ℕ → Built → Type 0
  Inside at j n after = (at < n) × (n ≤ length t) × (j < length after.rows)

  module _ (l at : ℕ) (b : Built) {j n : ℕ} {after : Built} where
    -- A VALUE THAT IS READ IS ONE BY THE PRODUCTIONS OF RFC 8259, and its tree of at most l levels was added.
    pub value_read : value l S t at b ≡ good j n after → IsValue l at b j n after
    value_read e = given_is (IsValue l at b) j n after e (value_gives l at b)

    pub value_inside : value l S t at b ≡ good j n after → Inside at j n after
    value_inside e = let h = value_read e in let r = value_ahead t h.spelled in (r.0, r.1, h.planted.inside)

    -- and so are elements and members
    pub elements_read : elements l S t at b ≡ good j n after → IsElements (suc l) at b j n after
    elements_read e = given_is (IsElements (suc l) at b) j n after e (elements_give l at b)

    pub elements_inside : elements l S t at b ≡ good j n after → Inside at j n after
    elements_inside e = let h = elements_read e in let r = some_elements_ahead t h.spelled in (r.0, r.1, h.planted.inside)

    pub members_read : (seen : List (List ℕ)) → members l S t seen at b ≡ good j n after → IsMembers seen (suc l) at b j n after
    members_read seen e = given_is (IsMembers seen (suc l) at b) j n after e (members_give l seen at b)

    pub members_inside : (seen : List (List ℕ)) → members l S t seen at b ≡ good j n after → Inside at j n after
    members_inside seen e = let h = members_read seen e in let r = some_members_ahead t h.spelled in (r.0, r.1, h.planted.inside)
