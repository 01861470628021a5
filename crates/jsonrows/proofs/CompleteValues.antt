-- A value by the productions of RFC 8259, whose tree has few enough levels and rows, is read. Assumes nothing.
use mathlib.Core.Path.{◌≡◌, refl, sym, ap, subst, ◌∙◌}
use mathlib.Core.Logic.{⊎_elim}
use mathlib.Core.Bool.{Bool, true, false, not, ◌&&◌}
use mathlib.Core.List.{List, [], ◌∷◌, ◌++◌}
use mathlib.Core.Option.{Option, none, some}
use Prim.Native.Nat.{ℕ, zero, suc, ◌+◌, ◌<◌, ◌≤◌}
use native.Mathlib.Omega.{arith}
use borrow.Author.Tests.{eq-eqb, ne_eqb}
use lib.Dec.{eqb}
use lib.ListN.{length}
use Rattle.base.specs.Text.{byte_at, got, word_at}
use Rattle.classes.specs.Classes.{digit?}
use Rattle.model.specs.Lists.{any, eq_list}
use Rattle.model.specs.Tree.{Tree, forest, levels, highest}
use Rattle.model.specs.Build.{add_row, add_tree}
use Rattle.model.proofs.Levels.{larger_bounds}
use Rattle.document.specs.declared.scalar.Scalar.{Scalar}
use Rattle.document.specs.declared.scalar.Scalar.TheVariants.{Bare, Flag, Name}
use Rattle.jsontext.specs.Spaces.{space_end}
use Rattle.jsontext.specs.Number.{Number, number_at, as_scalar, number_scalar}
use Rattle.jsontext.specs.Productions.{Spaces, NumberAt, StringAt, e?, continues?}
use Rattle.jsontext.proofs.Places.{never, both, range_in}
use Rattle.jsontext.proofs.SpaceProductions.{read_spaces}
use Rattle.jsontext.proofs.NumberProductions.{read_number}
use Rattle.jsontext.proofs.StringProductions.{read_string}
use Rattle.jsonrows.specs.Signature.{end, stop, other, item, null_leaf, flag_leaf, number_leaf, text_leaf, key_symbol}
use Rattle.jsonrows.specs.Keys.{find_text}
use Rattle.jsonrows.specs.Value.{Value, Elements, Members, null, boolean, string, no_element, element, no_member, member, some?, scalar_or, number_text, leaf_tree, node_tree, text_tree, key_texts, member_tree, value_tree, elements_tree, members_tree, formed?, elements_formed?, members_formed?}
use Rattle.jsonrows.specs.Productions.{WordAt, MarkAt, ValueAt, is_null, is_true, is_false, is_number, is_string, is_array, is_object, ElementsAt, no_elements, some_elements, SomeElements, last_element, more_elements, MembersAt, no_members, some_members, SomeMembers, last_member, more_members, pair}
use Rattle.jsonrows.specs.Grammar.{Setting, Built, built, Outcome, good, refused, leaf_row, node_row, finish, finish_text, after_word, after_text, after_number, no_value, Reader, MemberReader, close_at, rest_at, joined, after_value, element_by, member_by, after_key, key_by, members_by, body_at, value_by, members, elements, value}
use Rattle.jsonrows.proofs.Planted.{finish_room, some_level}
use Rattle.jsonrows.proofs.AddedRows.{tree_onward, row_onward, onward_longer}
use Rattle.jsonrows.proofs.WordProductions.{read_word}
use Rattle.jsonrows.proofs.ValueStarts.{no_space_above, ends_before, number_starts, string_starts, word_starts, value_starts, elements_start, members_start}

-- what reading a tree gives: its rows are added, and it ends before n
abbrev pub result : Tree × List (List ℕ) → ℕ → Built → Outcome
result p n b = let (rows, j) = add_tree p.0 b.rows in good j n (built rows p.1)

-- a tree of at most l levels, for which there is room
pub record Room (limit l : ℕ) (p : Tree × List (List ℕ)) (b : Built) : Type 0 where
  pub low : levels p.0 ≤ l
  pub few : length (add_tree p.0 b.rows).0 ≤ limit

-- a leaf for which there is room
leaf_taken : (limit s : ℕ) (k : Scalar) (n : ℕ) (b : Built) → length (add_tree (leaf_tree s k) b.rows).0 ≤ limit → finish limit (leaf_row s k) n b ≡ result (leaf_tree s k, b.texts) n b
unfolding add_tree
leaf_taken limit s k n b few = finish_room limit (leaf_row s k) n b few

module _ (S : Setting) (t : List ℕ) where
  -- white space before a byte that is none
  spaces_end : {j k : ℕ} → Spaces t j k → 32 < byte_at t k → space_end t j ≡ k
  spaces_end s l = sym (read_spaces t s (no_space_above _ l))

  -- readers that read all that there is
  abbrev Takes : {X : Type 0} → (ℕ → X → ℕ → Type 0) → (X → Bool) → (X → List (List ℕ) → Tree × List (List ℕ)) → ℕ → Reader → Type 0
  Takes {X} Is ok tree l read = (i n : ℕ) (x : X) → Is i x n → ok x ≡ true → (b : Built) → Room S.limit l (tree x b.texts) b → read i b ≡ result (tree x b.texts) n b

  -- values, before a byte that ends one
  abbrev EndedValue : ℕ → Value → ℕ → Type 0
  EndedValue i v n = ValueAt t i v n × (continues? (byte_at t n) ≡ false)

  abbrev TakesValues : ℕ → Reader → Type 0
  TakesValues = Takes EndedValue formed? (value_tree S.keys)

  -- elements, and members after keys that stood before
  abbrev TakesElements : ℕ → Reader → Type 0
  TakesElements = Takes (SomeElements t) elements_formed? (elements_tree S.keys)

  abbrev TakesMembers : ℕ → MemberReader → Type 0
  TakesMembers l read = (seen : List (List ℕ)) → Takes (SomeMembers t) (members_formed? seen) (members_tree S.keys) l (read seen)

  -- what follows a value that ends at j: the closing mark, or a comma and more
  data Follows {X : Type 0} (Is : ℕ → X → ℕ → Type 0) (nothing : X) (mark j : ℕ) : X → ℕ → Type 0 where
    closes : {k n : ℕ} → Spaces t j k → byte_at t k ≡ mark → n ≡ k + 1 → Follows Is nothing mark j nothing n
    goes_on : {k m n : ℕ} {x : X} → Spaces t j k → MarkAt t 44 k m → Is m x n → Follows Is nothing mark j x n

  module _ {X : Type 0} (Is : ℕ → X → ℕ → Type 0) (ok : X → Bool) (tree : X → List (List ℕ) → Tree × List (List ℕ)) (nothing : X) (mark leaf : ℕ)
      (leaf_is : (texts : List (List ℕ)) → (leaf_tree leaf Bare, texts) ≡ tree nothing texts) (no-comma : (mark ≡ 44 → ⊥) × (32 < mark)) (no_number : continues? mark ≡ false)
      (starts : (i n : ℕ) (x : X) → Is i x n → 32 < byte_at t i) where
    -- the value ends there
    follows_ends : {j n : ℕ} {x : X} → Follows Is nothing mark j x n → continues? (byte_at t j) ≡ false
    unfolding continues? digit? e?
    follows_ends (closes s e q) = ends_before t s (ap continues? e ∙ no_number)
    follows_ends (goes_on s m h) = ends_before t s (ap continues? m.mark)

    module _ (l : ℕ) (rest : Reader) (takes : Takes Is ok tree l rest) where
      close_at_lem : (k : ℕ) (b : Built) → byte_at t k ≡ mark → rest_at S.limit t mark leaf rest k b ≡ finish S.limit (leaf_row leaf Bare) (k + 1) b
      unfolding rest_at close_at
      close_at_lem k b e = let z : eqb (byte_at t k) 44 ≡ false = ne_eqb (byte_at t k) 44 (λ q. no-comma.0 (sym e ∙ q)) in rw (rest_at, z, close_at, eq-eqb (byte_at t k) mark e)

      more_at : (k : ℕ) (b : Built) → byte_at t k ≡ 44 → rest_at S.limit t mark leaf rest k b ≡ rest (space_end t (k + 1)) b
      unfolding rest_at
      more_at k b e = rw (rest_at, eq-eqb (byte_at t k) 44 e)

      rest_taken : {j n : ℕ} {x : X} → Follows Is nothing mark j x n → ok x ≡ true → (b : Built) → Room S.limit l (tree x b.texts) b → rest_at S.limit t mark leaf rest (space_end t j) b ≡ result (tree x b.texts) n b
      rest_taken (closes {k = k} s e q) h b room =
          ap (λ i. rest_at S.limit t mark leaf rest i b) (spaces_end s (omega (arith, no-comma.1)))
          ∙ close_at_lem k b e
          ∙ leaf_taken S.limit leaf Bare (k + 1) b (subst (λ p. length (add_tree p.0 b.rows).0 ≤ S.limit) (sym (leaf_is b.texts)) room.few)
          ∙ (λ i. result (leaf_is b.texts i) (sym q i) b)
      rest_taken {n = n} (goes_on {k = k} {m = m} {x = x} s c g) h b room =
          ap (λ i. rest_at S.limit t mark leaf rest i b) (spaces_end s (omega (arith, c.mark)))
          ∙ more_at k b c.mark
          ∙ ap (λ i. rest i b) (spaces_end c.spaces (starts m n x g))
          ∙ takes m n x g h b room

      -- a value, what follows it and the row of both, behind rows js that were added before
      both_taken : (s : ℕ) (js : List ℕ) (more : Built) (at j n : ℕ) (v : Value) (x : X) (read : Reader) → TakesValues l read → ValueAt t at v j → formed? v ≡ true → Follows Is nothing mark j x n → ok x ≡ true
          → (let (y, texts) = value_tree S.keys v more.texts in let (z, texts') = tree x texts in let (rows₁, i) = add_tree y more.rows in let (rows₂, k) = add_tree z rows₁ in let r = node_row s ((js ++ i ∷ []) ++ k ∷ []) in
          levels y ≤ l → levels z ≤ l → length (add_row rows₂ r).0 ≤ S.limit → after_value S.limit t mark leaf rest s js (read at more) ≡ good (add_row rows₂ r).1 n (built (add_row rows₂ r).0 texts'))
      both_taken s js more at j n v x read reads h ok-v f ok-x low low' room =
          let (y, texts) = value_tree S.keys v more.texts in
          let (z, texts') = tree x texts in
          let (rows₁, i) = add_tree y more.rows in
          let (rows₂, k) = add_tree z rows₁ in
          let r = node_row s ((js ++ i ∷ []) ++ k ∷ []) in
          let more₁ = onward_longer (tree_onward z rows₁) in
          let more₂ = onward_longer (row_onward rows₂ r) in
          ap (after_value S.limit t mark leaf rest s js) (reads at j v (h, follows_ends f) ok-v more (record { low = low; few = omega arith }))
          ∙ ap (joined S.limit s (js ++ i ∷ [])) (rest_taken f ok-x (built rows₁ texts) (record { low = low'; few = omega arith }))
          ∙ finish_room S.limit r n (built rows₂ texts') room

  -- ---- elements

  low_pair : (s : ℕ) (x y : Tree) (l : ℕ) → levels (node_tree s (x ∷ y ∷ [])) ≤ suc l → (levels x ≤ l) × (levels y ≤ l)
  unfolding levels
  low_pair s x y l h = let a = larger_bounds (levels x) (highest (forest (y ∷ []))) in let b = larger_bounds (levels y) 0 in (omega arith, omega arith)

  low_three : (s : ℕ) (w x y : Tree) (l : ℕ) → levels (node_tree s (w ∷ x ∷ y ∷ [])) ≤ suc l → (levels w ≤ l) × (levels x ≤ l) × (levels y ≤ l)
  unfolding levels
  low_three s w x y l h =
      let a = larger_bounds (levels w) (highest (forest (x ∷ y ∷ []))) in
      let b = larger_bounds (levels x) (highest (forest (y ∷ []))) in
      let c = larger_bounds (levels y) 0 in
      (omega arith, omega arith, omega arith)

  not_true : (b : Bool) → not b ≡ true → b ≡ false
  not_true true e = never (sym e)
  not_true false e = refl

  module _ (l : ℕ) (read : Reader) (reads : TakesValues l read) where
    module _ (rest : Reader) (takes : TakesElements l rest) where
      element_taken : (i j n : ℕ) (v : Value) (vs : Elements) → ValueAt t i v j → Follows (SomeElements t) no_element 93 j vs n → elements_formed? (element v vs) ≡ true
          → (b : Built) → Room S.limit (suc l) (elements_tree S.keys (element v vs) b.texts) b → element_by S.limit t read rest i b ≡ result (elements_tree S.keys (element v vs) b.texts) n b
      unfolding element_by value_tree formed? add_tree continues? digit? e?
      element_taken i j n v vs h f ok b room =
          let (ok-v, ok-vs) = both (formed? v) (elements_formed? vs) ok in
          let (x, texts) = value_tree S.keys v b.texts in
          let (low, low') = low_pair item x (elements_tree S.keys vs texts).0 l room.low in
          both_taken (SomeElements t) elements_formed? (elements_tree S.keys) no_element 93 stop (λ texts. refl) ((λ e. omega arith), omega arith) refl (λ i n x h. (elements_start t h).0) l rest takes
          item [] b i j n v vs read reads h ok-v f ok-vs low low' room.few

      -- elements are read, by readers of values and of what follows
      pub elements_taken : TakesElements (suc l) (element_by S.limit t read rest)
      elements_taken i n vs (last_element {j = j} {v = v} h s e q) ok b room = element_taken i j n v no_element h (closes s e q) ok b room
      elements_taken i n vs (more_elements {j = j} {v = v} {vs = ws} h s m g) ok b room = element_taken i j n v ws h (goes_on s m g) ok b room

    -- ---- members

    module _ (rest : MemberReader) (takes : TakesMembers l rest) (seen : List (List ℕ)) where
      -- behind a key: the colon, the value and what follows
      module _ (key : List ℕ) (v : Value) (ms : Members) {j k m e n : ℕ} (s : Spaces t j k) (colon : MarkAt t 58 k m) (h : ValueAt t m v e) (f : Follows (SomeMembers t) no_member 125 e ms n) (ok-v : formed? v ≡ true) (ok-ms : members_formed? (seen ++ key ∷ []) ms ≡ true) where
        colon_at : (s : ℕ) (js : List ℕ) (b : Built) → member_by S.limit t read (rest (seen ++ key ∷ [])) s js (space_end t j) b ≡ after_value S.limit t 125 end (rest (seen ++ key ∷ [])) s js (read m b)
        unfolding member_by
        colon_at s' js b =
            ap (λ i. member_by S.limit t read (rest (seen ++ key ∷ [])) s' js i b) (spaces_end s (omega (arith, colon.mark)))
            ∙ rw (member_by, eq-eqb (byte_at t k) 58 colon.mark) (ap (λ i. after_value S.limit t 125 end (rest (seen ++ key ∷ [])) s' js (read i b)) (spaces_end colon.spaces (value_starts t h).0))

        member_taken : (s' : ℕ) (js : List ℕ) (more : Built)
            → (let (y, texts) = value_tree S.keys v more.texts in let (z, texts') = members_tree S.keys ms texts in let (rows₁, i) = add_tree y more.rows in let (rows₂, k) = add_tree z rows₁ in let r = node_row s' ((js ++ i ∷ []) ++ k ∷ []) in
            levels y ≤ l → levels z ≤ l → length (add_row rows₂ r).0 ≤ S.limit → member_by S.limit t read (rest (seen ++ key ∷ [])) s' js (space_end t j) more ≡ good (add_row rows₂ r).1 n (built (add_row rows₂ r).0 texts'))
        unfolding continues? digit? e? value_tree
        member_taken s' js more low low' room =
            colon_at s' js more
            ∙ both_taken (SomeMembers t) (members_formed? (seen ++ key ∷ [])) (members_tree S.keys) no_member 125 end (λ texts. refl) ((λ e. omega arith), omega arith) refl (λ i n x h. let q = members_start t h in omega arith) l (rest (seen ++ key ∷ [])) (takes (seen ++ key ∷ []))
            s' js more m e n v ms read reads h ok-v f ok-ms low low' room

        -- a whole key, listed or not, that did not stand before
        module _ (i : ℕ) (new : any (eq_list key) seen ≡ false) (b : Built) where
          -- what the members from this one on become, by what the list says of its key
          abbrev Became : Option ℕ → Tree × List (List ℕ)
          Became o = let (x, texts) = value_tree S.keys v (key_texts key b.texts o) in let (y, texts') = members_tree S.keys ms texts in (member_tree key b.texts o x y, texts')

          listed_taken : (c : ℕ) → Room S.limit (suc l) (Became (some c)) b → member_by S.limit t read (rest (seen ++ key ∷ [])) (key_symbol c) [] (space_end t j) b ≡ result (Became (some c)) n b
          unfolding add_tree
          listed_taken c room =
              let (x, texts) = value_tree S.keys v b.texts in
              let (low, low') = low_pair (key_symbol c) x (members_tree S.keys ms texts).0 l room.low in
              member_taken (key_symbol c) [] b low low' room.few

          other_taken : Room S.limit (suc l) (Became none) b → after_key S.limit t read (rest (seen ++ key ∷ [])) (finish_text S.limit key j b) ≡ result (Became none) n b
          unfolding add_tree finish_text
          other_taken room =
              let (c, texts₀) = number_text key b.texts in
              let (x, texts) = value_tree S.keys v texts₀ in
              let y = (members_tree S.keys ms texts).0 in
              let (rows₁, i₁) = add_tree (text_tree c) b.rows in
              let (rows₂, i₂) = add_tree x rows₁ in
              let (rows₃, i₃) = add_tree y rows₂ in
              let (low₀, low, low') = low_three other (text_tree c) x y l room.low in
              let more₁ = onward_longer (tree_onward x rows₁) in
              let more₂ = onward_longer (tree_onward y rows₂) in
              let more₃ = onward_longer (row_onward rows₃ (node_row other (i₁ ∷ i₂ ∷ i₃ ∷ []))) in
              let all = room.few in
              ap (after_key S.limit t read (rest (seen ++ key ∷ []))) (leaf_taken S.limit text_leaf (Name c) j (built b.rows texts₀) (omega arith))
              ∙ member_taken other (i₁ ∷ []) (built rows₁ texts₀) low low' room.few

          text_level : Room S.limit (suc l) (Became none) b → 0 < l
          text_level room =
              let (c, texts₀) = number_text key b.texts in
              let (x, texts) = value_tree S.keys v texts₀ in
              omega (arith, low_three other (text_tree c) x (members_tree S.keys ms texts).0 l room.low, some_level (text_tree c))

          key_taken : Room S.limit (suc l) (Became (find_text key S.keys)) b → key_by S t l read rest seen i key j b ≡ result (Became (find_text key S.keys)) n b
          unfolding key_by
          key_taken = go (find_text key S.keys)
            where
              go : (o : Option ℕ) → Room S.limit (suc l) (Became o) b
                  → (elim o [ none ↦ elim (eqb l 0) [ true ↦ refused 64 i | false ↦ elim (any (eq_list key) seen) [ true ↦ refused 72 i | false ↦ after_key S.limit t read (rest (seen ++ key ∷ [])) (finish_text S.limit key j b) ] ] | some k ↦ elim (any (eq_list key) seen) [ true ↦ refused 72 i | false ↦ member_by S.limit t read (rest (seen ++ key ∷ [])) (key_symbol k) [] (space_end t j) b ] ])
                  ≡ result (Became o) n b
              go (some c) room = rw new (listed_taken c room)
              go none room = let z : eqb l 0 ≡ false = ne_eqb l 0 (λ q. omega (arith, text_level room)) in rw (z, new) (other_taken room)

      whole_member : (i j k m e n : ℕ) (key : List ℕ) (v : Value) (ms : Members) → StringAt t i key j → Spaces t j k → MarkAt t 58 k m → ValueAt t m v e → Follows (SomeMembers t) no_member 125 e ms n → members_formed? seen (member key v ms) ≡ true
          → (b : Built) → Room S.limit (suc l) (members_tree S.keys (member key v ms) b.texts) b → members_by S t l read rest seen i b ≡ result (members_tree S.keys (member key v ms) b.texts) n b
      unfolding members_by value_tree formed?
      whole_member i j k m e n key v ms h s colon g f ok b room =
          let (new, r) = both (not (any (eq_list key) seen)) (formed? v && members_formed? (seen ++ key ∷ []) ms) ok in
          let (ok-v, ok-ms) = both (formed? v) (members_formed? (seen ++ key ∷ []) ms) r in
          rw (members_by, read_string t h) (key_taken key v ms s colon g f ok-v ok-ms i (not_true (any (eq_list key) seen) new) b room)

      -- members are read, by readers of values and of what follows
      pub members_taken : Takes (SomeMembers t) (members_formed? seen) (members_tree S.keys) (suc l) (members_by S t l read rest seen)
      members_taken i n ms (last_member (pair {j = j} {k = k} {l = m} {n = e} {key = key} {v = v} h s colon g) s' c q) ok b room = whole_member i j k m e n key v no_member h s colon g (closes s' c q) ok b room
      members_taken i n ms (more_members {ms = more} (pair {j = j} {k = k} {l = m} {n = e} {key = key} {v = v} h s colon g) s' c r) ok b room = whole_member i j k m e n key v more h s colon g (goes_on s' c r) ok b room

  -- ---- what stands behind an opening mark: the closing one, or more

  data Body {X : Type 0} (Is : ℕ → X → ℕ → Type 0) (nothing : X) (mark i : ℕ) : X → ℕ → Type 0 where
    empty : {n : ℕ} → byte_at t i ≡ mark → n ≡ i + 1 → Body Is nothing mark i nothing n
    full : {n : ℕ} {x : X} → Is i x n → 32 < byte_at t i → (byte_at t i ≡ mark → ⊥) → Body Is nothing mark i x n

  body_starts : {X : Type 0} {Is : ℕ → X → ℕ → Type 0} {nothing : X} {mark i n : ℕ} {x : X} → 32 < mark → Body Is nothing mark i x n → 32 < byte_at t i
  body_starts l (empty e q) = omega arith
  body_starts l (full h l' e) = l'

  module _ {X : Type 0} (Is : ℕ → X → ℕ → Type 0) (ok : X → Bool) (tree : X → List (List ℕ) → Tree × List (List ℕ)) (nothing : X) (mark leaf : ℕ) (leaf_is : (texts : List (List ℕ)) → (leaf_tree leaf Bare, texts) ≡ tree nothing texts) (l : ℕ) (read : Reader) (takes : Takes Is ok tree l read) where
    body_taken : {i n : ℕ} {x : X} → Body Is nothing mark i x n → ok x ≡ true → (b : Built) → Room S.limit l (tree x b.texts) b → body_at S.limit t mark leaf read i b ≡ result (tree x b.texts) n b
    unfolding body_at
    body_taken {i = i} (empty e q) h b room =
        rw (body_at, eq-eqb (byte_at t i) mark e)
        (leaf_taken S.limit leaf Bare (i + 1) b (subst (λ p. length (add_tree p.0 b.rows).0 ≤ S.limit) (sym (leaf_is b.texts)) room.few)
        ∙ (λ i. result (leaf_is b.texts i) (sym q i) b))
    body_taken {i = i} {n = n} (full {x = x} g m e) h b room = rw (body_at, ne_eqb (byte_at t i) mark e) (takes i n x g h b room)

  members_body : {i n : ℕ} {ms : Members} → MembersAt t i ms n → Body (SomeMembers t) no_member 125 i ms n
  members_body (no_members e q) = empty e q
  members_body (some_members h) = let e = members_start t h in full h (omega arith) (λ q. omega arith)

  elements_body : {i n : ℕ} {vs : Elements} → ElementsAt t i vs n → Body (SomeElements t) no_element 93 i vs n
  elements_body (no_elements e q) = empty e q
  elements_body (some_elements h) = let e = elements_start t h in full h e.0 e.1

  -- ---- values

  module _ (l : ℕ) (ms : MemberReader) (takes : TakesMembers l ms) (es : Reader) (takes-es : TakesElements l es) (i : ℕ) (b : Built) where
    -- the way to a number
    digit_way : 48 ≤ byte_at t i → byte_at t i ≤ 57 → value_by S t ms es i b ≡ after_number S.limit i b (as_scalar (number_at t i))
    unfolding value_by digit?
    digit_way lo hi =
        rw (value_by, ne_eqb (byte_at t i) 123 (λ e. omega arith), ne_eqb (byte_at t i) 91 (λ e. omega arith), ne_eqb (byte_at t i) 34 (λ e. omega arith), ne_eqb (byte_at t i) 116 (λ e. omega arith), ne_eqb (byte_at t i) 102 (λ e. omega arith), ne_eqb (byte_at t i) 110 (λ e. omega arith), ne_eqb (byte_at t i) 45 (λ e. omega arith), range_in 48 57 (byte_at t i) lo hi)

    minus_way : byte_at t i ≡ 45 → value_by S t ms es i b ≡ after_number S.limit i b (as_scalar (number_at t i))
    unfolding value_by
    minus_way e = rw (value_by, e, e, e, e, e, e, e)

    number_way : {n : ℕ} {m : Number} → NumberAt t i m n → value_by S t ms es i b ≡ after_number S.limit i b (as_scalar (number_at t i))
    number_way h = ⊎_elim minus_way (λ r. digit_way r.0 r.1) (number_starts t h)

    -- a leaf that is a word
    word_taken : (v : Value) (s : ℕ) (k : Scalar) (n : ℕ) (w : List ℕ) → WordAt t i w n → (leaf_tree s k, b.texts) ≡ value_tree S.keys v b.texts → Room S.limit l (value_tree S.keys v b.texts) b → after_word S.limit s b (word_at k w t i) ≡ result (value_tree S.keys v b.texts) n b
    word_taken v s k n w h e room =
        ap (after_word S.limit s b) (read_word t k w i h)
        ∙ leaf_taken S.limit s k n b (subst (λ p. length (add_tree p.0 b.rows).0 ≤ S.limit) (sym e) room.few)
        ∙ ap (λ p. result p n b) e

    number_taken : (n : ℕ) (m : Number) (o : Option Scalar) → some? o ≡ true → length (add_tree (leaf_tree number_leaf (scalar_or o)) b.rows).0 ≤ S.limit → after_number S.limit i b (got o n) ≡ result (leaf_tree number_leaf (scalar_or o), b.texts) n b
    number_taken n m (some k) e few = leaf_taken S.limit number_leaf k n b few
    number_taken n m none e few = never (sym e)

    text_taken : (n : ℕ) (bs : List ℕ) → Room S.limit l (value_tree S.keys (string bs) b.texts) b → finish_text S.limit bs n b ≡ result (value_tree S.keys (string bs) b.texts) n b
    unfolding finish_text value_tree
    text_taken n bs room = let (k, texts) = number_text bs b.texts in leaf_taken S.limit text_leaf (Name k) n (built b.rows texts) room.few

    by_start : (n : ℕ) (v : Value) → ValueAt t i v n → continues? (byte_at t n) ≡ false → formed? v ≡ true → Room S.limit l (value_tree S.keys v b.texts) b → value_by S t ms es i b ≡ result (value_tree S.keys v b.texts) n b
    unfolding value_by value_tree formed?
    by_start n v (is_null h) ends ok room = let e = word_starts t h in rw (value_by, e, e, e, e, e, e) (word_taken null null_leaf Bare n _ h refl room)
    by_start n v (is_true h) ends ok room = let e = word_starts t h in rw (value_by, e, e, e, e) (word_taken (boolean true) flag_leaf (Flag true) n _ h refl room)
    by_start n v (is_false h) ends ok room = let e = word_starts t h in rw (value_by, e, e, e, e, e) (word_taken (boolean false) flag_leaf (Flag false) n _ h refl room)
    by_start n v (is_number {m = m} h) ends ok room = number_way h ∙ ap (λ g. after_number S.limit i b (as_scalar g)) (read_number t h ends) ∙ number_taken n m (number_scalar m) ok room.few
    by_start n v (is_string {bs = bs} h) ends ok room = let e = string_starts t h in rw (value_by, e, e, e) (ap (after_text S.limit b) (read_string t h) ∙ text_taken n bs room)
    by_start n v (is_array {j = j} {vs = vs} m h) ends ok room =
        let e = m.mark in
        let body = elements_body h in
        rw (value_by, e, e)
        (ap (λ k. body_at S.limit t 93 stop es k b) (spaces_end m.spaces (body_starts (omega arith) body)) ∙ body_taken (SomeElements t) elements_formed? (elements_tree S.keys) no_element 93 stop (λ texts. refl) l es takes-es body ok b room)
    by_start n v (is_object {j = j} {ms = members} m h) ends ok room =
        let e = m.mark in
        let body = members_body h in
        rw (value_by, e)
        (ap (λ k. body_at S.limit t 125 end (ms []) k b) (spaces_end m.spaces (body_starts (omega arith) body)) ∙ body_taken (SomeMembers t) (members_formed? []) (members_tree S.keys) no_member 125 end (λ texts. refl) l (ms []) (takes []) body ok b room)

  -- a value is read, by readers of members and elements
  pub value_taken : (l : ℕ) (ms : MemberReader) → TakesMembers l ms → (es : Reader) → TakesElements l es → TakesValues l (value_by S t ms es)
  value_taken l ms takes es takes-es i n v h ok b room = by_start l ms takes es takes-es i b n v h.0 h.1 ok room

  -- ---- levels

  no_level : {A : Type 0} (p : Tree × List (List ℕ)) (b : Built) → Room S.limit 0 p b → A
  no_level p b room = absurd (omega (arith, room.low, some_level p.0))

  -- the readers of one level
  record Both (l : ℕ) : Type 0 where
    of_members : TakesMembers (suc l) (members l S t)
    of_elements : TakesElements (suc l) (elements l S t)

  none_taken : TakesValues 0 (no_value t)
  none_taken i n v h ok b room = no_level (value_tree S.keys v b.texts) b room

  all_taken : (l : ℕ) → Both l
  unfolding members
  all_taken zero =
      record {
        of_members = members_taken 0 (no_value t) none_taken (λ seen at b. refused 64 at) (λ seen i n ms h ok b room. no_level (members_tree S.keys ms b.texts) b room);
        of_elements = elements_taken 0 (no_value t) none_taken (λ at b. refused 64 at) (λ i n vs h ok b room. no_level (elements_tree S.keys vs b.texts) b room);
      }
  all_taken (suc l) =
      let h = all_taken l in
      let v = value_taken (suc l) (members l S t) h.of_members (elements l S t) h.of_elements in
      record {
        of_members = members_taken (suc l) (value_by S t (members l S t) (elements l S t)) v (members l S t) h.of_members;
        of_elements = elements_taken (suc l) (value_by S t (members l S t) (elements l S t)) v (elements l S t) h.of_elements;
      }

  -- A VALUE BY THE PRODUCTIONS OF RFC 8259 IS READ, where its tree has at most l levels, its rows have room, and no byte behind it continues a number.
  pub read_value : (l : ℕ) {i n : ℕ} {v : Value} → ValueAt t i v n → continues? (byte_at t n) ≡ false → formed? v ≡ true → (b : Built) → Room S.limit l (value_tree S.keys v b.texts) b → value l S t i b ≡ result (value_tree S.keys v b.texts) n b
  unfolding value
  read_value zero h ends ok b room = no_level _ b room
  read_value (suc l) {i} {n} {v} h ends ok b room = let k = all_taken l in value_taken (suc l) (members l S t) k.of_members (elements l S t) k.of_elements i n v (h, ends) ok b room
