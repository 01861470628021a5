-- Each way through the definitions of values, members and elements. Assumes nothing.
use mathlib.Core.Path.{◌≡◌, refl, sym, ap, ◌∙◌}
use mathlib.Core.Bool.{Bool, true, false, cond}
use mathlib.Core.List.{List, [], ◌∷◌, ◌++◌}
use Prim.Native.Nat.{ℕ, zero, suc, ◌+◌, ◌-◌}
use native.Mathlib.Omega.{arith}
use borrow.Author.Tests.{eq-eqb, ne_eqb}
use lib.Dec.{eqb}
use mathlib.Core.Option.{Option, none, some}
use Rattle.base.specs.Text.{byte_at, Got, got, fault}
use Rattle.model.specs.Lists.{any, eq_list}
use Rattle.jsontext.specs.Spaces.{space_end}
use Rattle.jsontext.specs.Strings.{string_at}
use Rattle.jsonrows.specs.Signature.{end, stop, item, key_symbol}
use Rattle.jsonrows.specs.Keys.{find_text}
use Rattle.jsonrows.specs.Grammar.{Setting, Built, Outcome, good, refused, Reader, MemberReader, finish_text, opens?, no_value, close_at, rest_at, after_value, element_by, member_by, after_key, key_by, members_by, body_at, value_by, members, elements, value}
use Rattle.jsonrows.specs.State.{key_rows}
use Rattle.jsonrows.specs.Seen.{key_good, key_refused, other_key, key_of, key_at, behind_key}
use Rattle.jsonrows.specs.Items.{members_below, item_at, plain_at}

-- ---- a value by its first byte

module _ (S : Setting) (t : List ℕ) (at : ℕ) (b : Built) where
  pub value_deep : (l : ℕ) → l ≡ 0 → value l S t at b ≡ refused (cond (opens? (byte_at t at)) 64 71) at
  unfolding value no_value
  value_deep zero e = refl
  value_deep (suc l) e = absurd (omega arith)

  value_step : (l : ℕ) → (l ≡ 0 → ⊥) → value l S t at b ≡ value_by S t (members (l - 1) S t) (elements (l - 1) S t) at b
  unfolding value
  value_step zero n = absurd (n refl)
  value_step (suc l) n = let e : suc l - 1 ≡ l = omega arith in ap (λ m. value_by S t (members m S t) (elements m S t) at b) (sym e)

  module _ (ms : MemberReader) (es : Reader) where
    brace : byte_at t at ≡ 123 → value_by S t ms es at b ≡ body_at S.limit t 125 end (ms []) (space_end t (at + 1)) b
    unfolding value_by
    brace e = let f : eqb (byte_at t at) 123 ≡ true = eq-eqb (byte_at t at) 123 e in rw (value_by, f)

    bracket : (byte_at t at ≡ 123 → ⊥) → byte_at t at ≡ 91 → value_by S t ms es at b ≡ body_at S.limit t 93 stop es (space_end t (at + 1)) b
    unfolding value_by
    bracket n e =
        let f : eqb (byte_at t at) 123 ≡ false = ne_eqb (byte_at t at) 123 n in
        let g : eqb (byte_at t at) 91 ≡ true = eq-eqb (byte_at t at) 91 e in
        rw (value_by, f, g)

    neither : (byte_at t at ≡ 123 → ⊥) → (byte_at t at ≡ 91 → ⊥) → value_by S t ms es at b ≡ plain_at S.limit t at b
    unfolding value_by plain_at
    neither n m =
        let f : eqb (byte_at t at) 123 ≡ false = ne_eqb (byte_at t at) 123 n in
        let g : eqb (byte_at t at) 91 ≡ false = ne_eqb (byte_at t at) 91 m in
        rw (value_by, f, g)

  body_closed : (mark leaf : ℕ) (read : Reader) (i : ℕ) → byte_at t i ≡ mark → body_at S.limit t mark leaf read i b ≡ close_at S.limit t mark leaf i b
  unfolding body_at close_at
  body_closed mark leaf read i e = let f : eqb (byte_at t i) mark ≡ true = eq-eqb (byte_at t i) mark e in rw (body_at, close_at, f)

  body_more : (mark leaf : ℕ) (read : Reader) (i : ℕ) → (byte_at t i ≡ mark → ⊥) → body_at S.limit t mark leaf read i b ≡ read i b
  unfolding body_at
  body_more mark leaf read i n = let f : eqb (byte_at t i) mark ≡ false = ne_eqb (byte_at t i) mark n in rw (body_at, f)

  -- of so many levels, which are some
  module _ (l : ℕ) (deep : l ≡ 0 → ⊥) where
    pub empty_object : byte_at t at ≡ 123 → (i : ℕ) → i ≡ space_end t (at + 1) → byte_at t i ≡ 125 → value l S t at b ≡ close_at S.limit t 125 end i b
    empty_object e i q f =
        value_step l deep ∙ brace (members (l - 1) S t) (elements (l - 1) S t) e
        ∙ ap (λ k. body_at S.limit t 125 end (members (l - 1) S t []) k b) (sym q) ∙ body_closed 125 end (members (l - 1) S t []) i f

    pub some_members : byte_at t at ≡ 123 → (i : ℕ) → i ≡ space_end t (at + 1) → (byte_at t i ≡ 125 → ⊥) → value l S t at b ≡ members (l - 1) S t [] i b
    some_members e i q n =
        value_step l deep ∙ brace (members (l - 1) S t) (elements (l - 1) S t) e
        ∙ ap (λ k. body_at S.limit t 125 end (members (l - 1) S t []) k b) (sym q) ∙ body_more 125 end (members (l - 1) S t []) i n

    pub empty_array : (byte_at t at ≡ 123 → ⊥) → byte_at t at ≡ 91 → (i : ℕ) → i ≡ space_end t (at + 1) → byte_at t i ≡ 93 → value l S t at b ≡ close_at S.limit t 93 stop i b
    empty_array m e i q f =
        value_step l deep ∙ bracket (members (l - 1) S t) (elements (l - 1) S t) m e
        ∙ ap (λ k. body_at S.limit t 93 stop (elements (l - 1) S t) k b) (sym q) ∙ body_closed 93 stop (elements (l - 1) S t) i f

    pub some_elements : (byte_at t at ≡ 123 → ⊥) → byte_at t at ≡ 91 → (i : ℕ) → i ≡ space_end t (at + 1) → (byte_at t i ≡ 93 → ⊥) → value l S t at b ≡ elements (l - 1) S t i b
    some_elements m e i q n =
        value_step l deep ∙ bracket (members (l - 1) S t) (elements (l - 1) S t) m e
        ∙ ap (λ k. body_at S.limit t 93 stop (elements (l - 1) S t) k b) (sym q) ∙ body_more 93 stop (elements (l - 1) S t) i n

    pub plain_one : (byte_at t at ≡ 123 → ⊥) → (byte_at t at ≡ 91 → ⊥) → value l S t at b ≡ plain_at S.limit t at b
    plain_one n m = value_step l deep ∙ neither (members (l - 1) S t) (elements (l - 1) S t) n m

-- ---- members and elements

module _ (S : Setting) (t : List ℕ) where
  value_suc : (l : ℕ) → value (suc l) S t ≡ value_by S t (members l S t) (elements l S t)
  unfolding value
  value_suc l = refl

  pub elements_item : (l at : ℕ) (b : Built) → elements l S t at b ≡ item_at false l S t [] item 0 at b
  unfolding elements element_by value
  elements_item zero at b = refl
  elements_item (suc l) at b = refl

  -- a member by its key
  module _ (l : ℕ) (v : Reader) (rest : MemberReader) (seen : List (List ℕ)) (at : ℕ) (b : Built) where
    other_key_lem : (key : List ℕ) (o : Outcome) → after_key S.limit t v (rest (seen ++ key ∷ [])) o ≡ behind_key S t v rest seen (other_key key o)
    other_key_lem key (good k next c) = refl
    other_key_lem key (refused w p) = refl

    whole_key : (key : List ℕ) (next : ℕ) → key_by S t l v rest seen at key next b ≡ behind_key S t v rest seen (key_of S l seen at key next b)
    unfolding key_by key_of
    whole_key key next = go (find_text key S.keys) (eqb l 0) (any (eq_list key) seen)
      where
        go : (o : Option ℕ) (c a : Bool)
            → elim o [ none ↦ elim c [ true ↦ refused 64 at | false ↦ elim a [ true ↦ refused 72 at | false ↦ after_key S.limit t v (rest (seen ++ key ∷ [])) (finish_text S.limit key next b) ] ] | some k ↦ elim a [ true ↦ refused 72 at | false ↦ member_by S.limit t v (rest (seen ++ key ∷ [])) (key_symbol k) [] (space_end t next) b ] ]
            ≡ behind_key S t v rest seen (elim o [ none ↦ elim c [ true ↦ key_refused 64 at | false ↦ elim a [ true ↦ key_refused 72 at | false ↦ other_key key (finish_text S.limit key next b) ] ] | some k ↦ elim a [ true ↦ key_refused 72 at | false ↦ key_good key (key_symbol k) [] next b ] ])
        go none true a = refl
        go none false true = refl
        go none false false = other_key_lem key (finish_text S.limit key next b)
        go (some k) c true = refl
        go (some k) c false = refl

    key_by_lem : members_by S t l v rest seen at b ≡ behind_key S t v rest seen (key_at S t l seen at b)
    unfolding members_by key_at
    key_by_lem = go (string_at t at)
      where
        go : (g : Got (List ℕ)) → elim g [ fault p ↦ refused 71 p | got key next ↦ key_by S t l v rest seen at key next b ] ≡ behind_key S t v rest seen (elim g [ fault p ↦ key_refused 71 p | got key next ↦ key_of S l seen at key next b ])
        go (fault p) = refl
        go (got key next) = whole_key key next

  members_by_lem : (l : ℕ) (seen : List (List ℕ)) (at : ℕ) (b : Built) → members l S t seen at b ≡ members_by S t l (value l S t) (members_below l S t) seen at b
  unfolding members value
  members_by_lem zero seen at b = refl
  members_by_lem (suc l) seen at b = refl

  -- the key is refused
  pub member_refused : (l : ℕ) (seen : List (List ℕ)) (at : ℕ) (b : Built) {w p : ℕ} → key_at S t l seen at b ≡ key_refused w p → members l S t seen at b ≡ refused w p
  member_refused l seen at b e = members_by_lem l seen at b ∙ key_by_lem l (value l S t) (members_below l S t) seen at b ∙ ap (behind_key S t (value l S t) (members_below l S t) seen) e

  -- the key was read
  module _ (l : ℕ) (seen : List (List ℕ)) (at : ℕ) (b : Built) {key : List ℕ} {symbol : ℕ} {js : List ℕ} {next : ℕ} {c : Built} (e : key_at S t l seen at b ≡ key_good key symbol js next c) where
    behind : members l S t seen at b ≡ member_by S.limit t (value l S t) (members_below l S t (seen ++ key ∷ [])) symbol js (space_end t next) c
    behind = members_by_lem l seen at b ∙ key_by_lem l (value l S t) (members_below l S t) seen at b ∙ ap (behind_key S t (value l S t) (members_below l S t) seen) e

    pub no_colon : (i : ℕ) → i ≡ space_end t next → (byte_at t i ≡ 58 → ⊥) → members l S t seen at b ≡ refused 71 i
    unfolding member_by
    no_colon i q n =
        let f : eqb (byte_at t i) 58 ≡ false = ne_eqb (byte_at t i) 58 n in
        behind ∙ ap (λ k. member_by S.limit t (value l S t) (members_below l S t (seen ++ key ∷ [])) symbol js k c) (sym q) ∙ rw (member_by, f)

    pub colon : (row : ℕ) → js ≡ key_rows symbol row → (i first : ℕ) → i ≡ space_end t next → byte_at t i ≡ 58 → first ≡ space_end t (i + 1) → members l S t seen at b ≡ item_at true l S t (seen ++ key ∷ []) symbol row first c
    unfolding member_by
    colon row j i first q k f =
        let g : eqb (byte_at t i) 58 ≡ true = eq-eqb (byte_at t i) 58 k in
        behind ∙ ap (λ n. member_by S.limit t (value l S t) (members_below l S t (seen ++ key ∷ [])) symbol js n c) (sym q)
        ∙ rw (member_by, g)
        (λ n. after_value S.limit t 125 end (members_below l S t (seen ++ key ∷ [])) symbol (j n) (value l S t (sym f n) c))

-- ---- behind a value

module _ (limit : ℕ) (t : List ℕ) (mark leaf : ℕ) (rest : Reader) (at : ℕ) (b : Built) where
  pub rest_comma : byte_at t at ≡ 44 → rest_at limit t mark leaf rest at b ≡ rest (space_end t (at + 1)) b
  unfolding rest_at
  rest_comma e = let f : eqb (byte_at t at) 44 ≡ true = eq-eqb (byte_at t at) 44 e in rw (rest_at, f)

  pub rest_none : (byte_at t at ≡ 44 → ⊥) → rest_at limit t mark leaf rest at b ≡ close_at limit t mark leaf at b
  unfolding rest_at
  rest_none n = let f : eqb (byte_at t at) 44 ≡ false = ne_eqb (byte_at t at) 44 n in rw (rest_at, f)
