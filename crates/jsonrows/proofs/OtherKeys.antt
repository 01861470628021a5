-- A key that is not listed: its entry, and each way through its definition. Assumes nothing.
use mathlib.Core.Path.{◌≡◌, refl, sym, ap, subst, ◌∙◌}
use mathlib.Core.Bool.{Bool, true, false, cond}
use mathlib.Core.List.{List, [], ◌∷◌, ◌++◌}
use mathlib.Core.Option.{Option, none, some}
use Rattle.std.specs.Prelude.{Ok, Err}
use Prim.Native.Nat.{ℕ, ◌+◌, ◌-◌, ◌<◌, ◌≤◌}
use native.Mathlib.Omega.{arith}
use borrow.Author.Tests.{eqb-true, eq-eqb, ne_eqb}
use lib.Dec.{eqb, ltb}
use lib.ListN.{length, get_or, set, length-append}
use lib.Seq.{get_or-append_seam}
use Rattle.base.specs.Text.{got}
use Rattle.model.specs.Limits.{max_rows}
use Rattle.model.specs.Lists.{any, eq_list}
use Rattle.model.specs.Table.{Row}
use Rattle.model.specs.Build.{find_row}
use Rattle.model.proofs.Tab.{tab_at, length_tab}
use Rattle.document.specs.Rows.{rows_below}
use Rattle.document.specs.declared.rows.Row as row_number
use Rattle.document.specs.declared.scalar.Scalar.TheVariants.{Name}
use Rattle.document.specs.Index.{probe}
use Rattle.jsontext.specs.Strings.{string_at}
use Rattle.jsontext.specs.Decoded.{same_text, text_slot}
use Rattle.jsonrows.specs.Signature.{text_leaf, other}
use Rattle.jsonrows.specs.Keys.{find_text}
use Rattle.jsonrows.specs.Value.{numbered, number_text}
use Rattle.jsonrows.specs.Grammar.{Setting, Built, built, Outcome, good, refused, leaf_row, place_row, finish, finish_text, after_text}
use Rattle.jsonrows.specs.State.{text_at, texts_in, built_in, Holds}
use Rattle.jsonrows.specs.Texts.{ProbedAt}
use Rattle.jsonrows.specs.Seen.{first_listed, of_text, entries, Seen, Flagged, KeyOutcome, key_refused, other_key, key_of, KeySays, key_says, key_says_no, number_of}
use Rattle.document.specs.declared.index.Probed.{Probed}
use Rattle.document.specs.declared.index.Probed.TheVariants.{Found, Free, Crowded}
use Rattle.base.specs.Refusals.{number}
use Rattle.base.specs.declared.refusal.TextRefusal.{TextRefusal}
use Rattle.jsonrows.proofs.Finding.{eq_eq_list, eq_list_eq}
use Rattle.jsonrows.proofs.Holding.{Said, small}
use Rattle.jsonrows.proofs.Texting.{ProbedText, probe_text, probed_known, probed_free, probed_some}
use Rattle.jsonrows.proofs.Flags.{flagged_other}
use Rattle.jsonrows.proofs.SeenKeys.{both_false, on_no_line, text_entry, EntryFor, seen_by_entry, seen_more}

-- the number of a key's text, by what the probe for it found
module _ {t cells slots starts found : List ℕ} {used texts limit : ℕ} (h : Holds t cells slots starts found used texts limit) (at : ℕ) (key : List ℕ) (next : ℕ) (string : string_at t at ≡ got key next) where
  few : texts ≤ max_rows
  few = omega (arith, h.few, h.ready.built.few)

  -- what the number says: it is that of the text, or the next one, and the text is new
  pub data NumberFor (number : ℕ) : Type 0 where
    its_own : number < texts → text_at t starts number ≡ key → find_text key (texts_in t starts texts) ≡ some number → NumberFor number
    the_next : number ≡ texts → ((k : ℕ) → k < texts → text_at t starts k ≡ key → ⊥) → find_text key (texts_in t starts texts) ≡ none → NumberFor number

  pub number_for : (p : Probed) → ProbedAt t starts found at next p → NumberFor (number_of p texts)
  number_for p a = go p a.answer
    where
      bytes : a.bytes ≡ key
      bytes = let e : got a.bytes next ≡ got key next = sym a.string ∙ string in cc

      probed : ProbedText t starts found a.bytes texts (probe found (λ k. same_text (string_at t at) (string_at t (get_or starts k 0))) (text_slot a.bytes))
      probed = probe_text t cells slots starts found used texts limit h at a.bytes next a.string (text_slot a.bytes) refl

      go : (p : Probed) → p ≡ probe found (λ k. same_text (string_at t at) (string_at t (get_or starts k 0))) (text_slot a.bytes) → NumberFor (number_of p texts)
      go (Found r) e = let (l, q, f) = probed_known probed r.0 e in its_own l (q ∙ bytes) (subst (λ b. find_text b (texts_in t starts texts) ≡ some r.0) bytes f)
      go (Free s) e = let f = probed_free probed s e in the_next refl (λ k l q. f.new k l (q ∙ sym bytes)) (subst (λ b. find_text b (texts_in t starts texts) ≡ none) bytes f.nowhere)
      go Crowded e = absurd (probed_some probed e)

  number_few : {number : ℕ} → NumberFor number → number ≤ texts
  number_few (its_own l q f) = omega (arith, l)
  number_few (the_next e n f) = omega (arith, e)

  pub entry_for : (keys : List (List ℕ)) → find_text key keys ≡ none → {number : ℕ} → NumberFor number → EntryFor keys t starts texts key number
  entry_for keys none-listed {number} n =
      record {
        texts_apart = λ e l u. apart n e l;
        lines_apart = λ k l. both_false _ _ (λ f. let g = eqb-true number (first_listed + k) f in let m = number_few n in omega (arith, few, g, m)) (λ f. on_no_line key keys none-listed k l (eq_list_eq key (get_or keys k []) f));
      }
    where
      apart : NumberFor number → (e : ℕ) → e < texts → eqb number e ≡ eq_list key (text_at t starts e)
      apart (its_own l q f) e m = go (eq_list key (text_at t starts e)) refl
        where
          go : (b : Bool) → eq_list key (text_at t starts e) ≡ b → eqb number e ≡ b
          go true p = eq-eqb number e (h.distinct number e l m (q ∙ eq_list_eq key (text_at t starts e) p))
          go false p = ne_eqb number e (λ g. let r : true ≡ false = sym (eq_eq_list key (text_at t starts e) (sym q ∙ ap (text_at t starts) g)) ∙ p in cc)
      apart (the_next q new f) e m = both_false _ _ (λ p. let g = eqb-true number e p in omega (arith, g, q, m)) (λ p. new e m (sym (eq_list_eq key (text_at t starts e) p)))

-- ---- the definition

module _ (S : Setting) (seen : List (List ℕ)) (at : ℕ) (key : List ℕ) (next : ℕ) (b : Built) (unlisted : find_text key S.keys ≡ none) where
  pub key_too_deep : (l : ℕ) → l ≡ 0 → key_of S l seen at key next b ≡ key_refused 64 at
  unfolding key_of
  key_too_deep l e = let f : eqb l 0 ≡ true = eq-eqb l 0 e in rw (key_of, unlisted, f)

  pub key_again : (l : ℕ) → (l ≡ 0 → ⊥) → any (eq_list key) seen ≡ true → key_of S l seen at key next b ≡ key_refused 72 at
  unfolding key_of
  key_again l n e = let f : eqb l 0 ≡ false = ne_eqb l 0 n in rw (key_of, unlisted, f, e)

  pub key_text_lem : (l : ℕ) → (l ≡ 0 → ⊥) → any (eq_list key) seen ≡ false → key_of S l seen at key next b ≡ other_key key (finish_text S.limit key next b)
  unfolding key_of
  key_text_lem l n e = let f : eqb l 0 ≡ false = ne_eqb l 0 n in rw (key_of, unlisted, f, e)

-- ---- the leaf of the key's text

-- finishing a row leaves the texts as they are
finish_texts : (limit : ℕ) (r : Row) (next : ℕ) (b : Built) {j n : ℕ} {c : Built} → finish limit r next b ≡ good j n c → b.texts ≡ c.texts
unfolding finish
finish_texts limit r next b {j} {n} {c} e = go (find_row r b.rows) e
  where
    added : (a : Bool) → cond a (good (length b.rows) next (built (b.rows ++ r ∷ []) b.texts)) (refused 67 (next - 1)) ≡ good j n c → b.texts ≡ c.texts
    added true f = let q : built (b.rows ++ r ∷ []) b.texts ≡ c = cc in ap (λ x. x.texts) q
    added false f = let z : ⊥ = cc in absurd z

    go : (o : Option ℕ) → place_row limit r next b o ≡ good j n c → b.texts ≡ c.texts
    go (some i) f = let q : b ≡ c = cc in ap (λ x. x.texts) q
    go none f = added (ltb (length b.rows) limit) f

module _ {t cells slots starts found : List ℕ} {used texts limit : ℕ} (h : Holds t cells slots starts found used texts limit) (at : ℕ) (key : List ℕ) (next : ℕ) (string : string_at t at ≡ got key next) where
  abbrev b : Built
  b = built_in t cells starts used texts

  -- its number is held, and is that of the key
  module _ {cs ss more found' : List ℕ} {row : row_number.Row} {after n m : ℕ} (s : Said t cs ss more found' starts texts limit (after_text limit b (string_at t at)) row after n m) where
    finished : finish_text limit key next b ≡ good row.0 after (built_in t cs more n m)
    finished = sym (ap (after_text limit b) string) ∙ s.outcome

    texts_now : {o : Option ℕ} → find_text key (texts_in t starts texts) ≡ o → (numbered key (texts_in t starts texts) o).1 ≡ texts_in t more m
    unfolding finish_text
    texts_now e = sym (ap (λ o. (numbered key (texts_in t starts texts) o).1) e) ∙ finish_texts limit (leaf_row text_leaf (Name (number_text key (texts_in t starts texts)).0)) next (built (rows_below cells used) (number_text key (texts_in t starts texts)).1) finished

    pub number_held : {number : ℕ} → NumberFor h at key next string number → (number < m) × (text_at t more number ≡ key)
    number_held {number} (its_own l q f) = (omega (arith, l, s.more), ap (λ i. text_at t (i ∷ []) 0) (s.same number l) ∙ q)
    number_held {number} (the_next e new f) =
        let long : length (texts_in t starts texts ++ key ∷ []) ≡ length (texts_in t more m) = ap length (texts_now f) in
        let a : m ≡ texts + 1 = omega (arith, long, length-append (texts_in t starts texts) (key ∷ []), length_tab texts (text_at t starts), length_tab m (text_at t more)) in
        let here : number ≡ length (texts_in t starts texts) = e ∙ sym (length_tab texts (text_at t starts)) in
        (omega (arith, a, e), sym (tab_at [] m (text_at t more) number (omega (arith, a, e))) ∙ ap (λ l. get_or l number []) (sym (texts_now f)) ∙ ap (λ i. get_or (texts_in t starts texts ++ key ∷ []) i []) here ∙ get_or-append_seam (texts_in t starts texts) key [] [])

  module _ (keys : List (List ℕ)) (seen : List (List ℕ)) (unlisted : find_text key keys ≡ none) (level : ℕ) (deep : level ≡ 0 → ⊥) (first : any (eq_list key) seen ≡ false) where
    abbrev S : Setting
    S = record { keys = keys; limit = limit }

    key_is : {o : Outcome} → after_text limit b (string_at t at) ≡ o → key_of S level seen at key next b ≡ other_key key o
    key_is e = key_text_lem S seen at key next b unlisted level deep first ∙ ap (other_key key) (sym (ap (after_text limit b) string) ∙ e)

    pub key_leaf_refused : {cs ss more found' pending : List ℕ} {flags : List Bool} {old : List ℕ} {before top : ℕ} {w : TextRefusal} → after_text limit b (string_at t at) ≡ refused (number w.refusal) w.place → KeySays keys t cs ss more found' pending flags old before limit level top seen (Err w) (key_of S level seen at key next b)
    key_leaf_refused {cs} {ss} {more} {found'} {pending} {flags} {old} {before} {top} {w} e = subst (KeySays keys t cs ss more found' pending flags old before limit level top seen (Err w)) (sym (key_is e)) (key_says_no refl)

    pub key_leaf : {pending : List ℕ} {flags : List Bool} {top : ℕ} → Flagged keys flags seen → Seen keys t starts pending texts (level + 1) top seen → level < top → top ≤ length pending
        → {cs ss more found' : List ℕ} {row : row_number.Row} {after n m : ℕ} → Said t cs ss more found' starts texts limit (after_text limit b (string_at t at)) row after n m → {number : ℕ} → NumberFor h at key next string number
        → KeySays keys t cs ss more found' (set pending level number) flags starts texts limit level top seen (Ok (record { symbol = other; row = row; next = after; counts = record { used = n; texts = m } })) (key_of S level seen at key next b)
    key_leaf {pending} {flags} {top} marks v l inside {cs} {ss} {more} {found'} {row} {after} {n} {m} s {number} f =
        let (few, is) = number_held s f in
        let own : number < first_listed = omega (arith, few, s.holds.few, s.holds.ready.built.few) in
        subst (KeySays keys t cs ss more found' (set pending level number) flags starts texts limit level top seen (Ok (record { symbol = other; row = row; next = after; counts = record { used = n; texts = m } }))) (sym (key_is s.outcome))
        (key_says
        (record {
          row = row.0;
          used = n;
          texts = m;
          answer = refl;
          before_value = refl;
          is = refl;
          holds = s.holds;
          inside = small s.holds s.inside;
          own = λ e. s.inside;
          plain = λ e. omega (arith, e);
          more = s.more;
          same = s.same;
          seen_now =
              seen_more level (omega (arith, h.few, h.ready.built.few)) v more m s.more s.same (set pending level number) number key l inside refl
              (of_text few (ap (λ x. find_text x keys) is ∙ unlisted))
              (text_entry keys t more number own ∙ is);
          flagged = flagged_other key unlisted marks;
        }))

-- a refused key
pub key_refused_says : {keys : List (List ℕ)} {t cells slots starts found pending : List ℕ} {flags : List Bool} {old : List ℕ} {before limit lo hi : ℕ} {seen : List (List ℕ)} {o : KeyOutcome} {w : TextRefusal} → o ≡ key_refused (number w.refusal) w.place → KeySays keys t cells slots starts found pending flags old before limit lo hi seen (Err w) o
key_refused_says {keys} {t} {cells} {slots} {starts} {found} {pending} {flags} {old} {before} {limit} {lo} {hi} {seen} {o} {w} e =
    subst (KeySays keys t cells slots starts found pending flags old before limit lo hi seen (Err w)) (sym e) (key_says_no refl)

-- the number that was worked out
pub number_by : {t cells slots starts found : List ℕ} {used texts limit : ℕ} (h : Holds t cells slots starts found used texts limit) (at : ℕ) (key : List ℕ) (next : ℕ) (string : string_at t at ≡ got key next) (p : Probed) → ProbedAt t starts found at next p → (number : ℕ) → number ≡ number_of p texts → NumberFor h at key next string number
number_by h at key next string p a number e = subst (NumberFor h at key next string) (sym e) (number_for h at key next string p a)

-- whether the key stood before, by its entry
pub seen_by_number : {keys : List (List ℕ)} {t cells slots starts found pending : List ℕ} {used texts limit lo hi : ℕ} {seen : List (List ℕ)} (h : Holds t cells slots starts found used texts limit) (at : ℕ) (key : List ℕ) (next : ℕ) (string : string_at t at ≡ got key next) → find_text key keys ≡ none → Seen keys t starts pending texts lo hi seen
    → {number : ℕ} → NumberFor h at key next string number → {b : Bool} → b ≡ any (eqb number) (entries pending lo hi) → any (eq_list key) seen ≡ b
seen_by_number {keys = keys} h at key next string u v f e = sym (seen_by_entry (omega (arith, h.few, h.ready.built.few)) v (entry_for h at key next string keys u f)) ∙ sym e
