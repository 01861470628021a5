-- The key at a place, and a listed one: each way through the definition. Assumes nothing.
use mathlib.Core.Path.{◌≡◌, refl, sym, ap, subst, ◌∙◌}
use mathlib.Core.Bool.{Bool, true, false, cond}
use mathlib.Core.List.{List, [], ◌∷◌, ◌++◌}
use mathlib.Core.Option.{some}
use Rattle.std.specs.Prelude.{Result, Err}
use Prim.Native.Nat.{ℕ, ◌+◌, ◌<◌, ◌≤◌}
use native.Mathlib.Omega.{arith}
use borrow.Author.Tests.{ne_eqb}
use lib.Dec.{eqb}
use lib.ListN.{length, get_or, set, drop}
use lib.Seq.{drop-set-lt}
use Rattle.base.specs.Text.{got, fault}
use Rattle.model.specs.Limits.{max_rows}
use Rattle.model.specs.Lists.{any, eq_list}
use Rattle.jsontext.specs.Strings.{string_at}
use Rattle.jsonrows.specs.Signature.{other, key_symbol}
use Rattle.jsonrows.specs.Keys.{find_text}
use Rattle.jsonrows.specs.Grammar.{Setting, Built}
use Rattle.jsonrows.specs.State.{built_in, Holds}
use Rattle.jsonrows.specs.Seen.{first_listed, of_line, Seen, Flagged, KeyOutcome, key_good, key_refused, key_of, key_at, KeySays, key_says, key_says_no, listed_part, listed_entry, listed_flags}
use Rattle.base.specs.declared.refusal.Refusal.TheVariants.{KeyRepeated}
use Rattle.base.specs.declared.refusal.TextRefusal.{TextRefusal}
use Rattle.jsonrows.specs.declared.members.KeyPart.{KeyPart}
use Rattle.jsonrows.proofs.SeenKeys.{on_line, line_entry, seen_more}
use Rattle.jsonrows.proofs.Flags.{flagged_listed}

module _ (S : Setting) (t : List ℕ) (l : ℕ) (seen : List (List ℕ)) (at : ℕ) (b : Built) where
  pub key_of_string : (key : List ℕ) (next : ℕ) → string_at t at ≡ got key next → key_at S t l seen at b ≡ key_of S l seen at key next b
  unfolding key_at
  key_of_string key next e = rw (key_at, e)

  pub key_no_string : (p : ℕ) → string_at t at ≡ fault p → key_at S t l seen at b ≡ key_refused 71 p
  unfolding key_at
  key_no_string p e = rw (key_at, e)

  listed_by : (key : List ℕ) (next k : ℕ) → find_text key S.keys ≡ some k → (a : Bool) → any (eq_list key) seen ≡ a → key_of S l seen at key next b ≡ cond a (key_refused 72 at) (key_good key (key_symbol k) [] next b)
  unfolding key_of
  listed_by key next k e true f = rw (key_of, e, f)
  listed_by key next k e false f = rw (key_of, e, f)

-- a listed key, by its entry
module _ {t cells slots starts found : List ℕ} {used texts limit : ℕ} (h : Holds t cells slots starts found used texts limit) (keys : List (List ℕ)) (apart : (i j : ℕ) → i < length keys → j < length keys → get_or keys i [] ≡ get_or keys j [] → i ≡ j)
    (level top at : ℕ) (key : List ℕ) (next k : ℕ) (listed : find_text key keys ≡ some k) (pending : List ℕ) (flags : List Bool) (l : level < top) (inside : top ≤ length pending) where
  few : texts ≤ max_rows
  few = omega (arith, h.few, h.ready.built.few)

  listed_says : {seen : List (List ℕ)} → Flagged keys flags seen → Seen keys t starts pending texts (level + 1) top seen → (a : Bool) → any (eq_list key) seen ≡ a
      → KeySays keys t cells slots starts found (listed_entry a pending level k) (listed_flags a flags k) starts texts limit level top seen (listed_part a k at next used texts) (key_of (record { keys = keys; limit = limit }) level seen at key next (built_in t cells starts used texts))
  listed_says {seen} marks v true e =
      subst (KeySays keys t cells slots starts found pending flags starts texts limit level top seen (Err (record { refusal = KeyRepeated; place = at }))) (sym (listed_by (record { keys = keys; limit = limit }) t level seen at (built_in t cells starts used texts) key next k listed true e)) (key_says_no refl)
  listed_says {seen} marks v false e =
      let (m, q) = on_line key keys k listed in
      let no_key : eqb (key_symbol k) other ≡ false = ne_eqb (key_symbol k) other (λ p. omega (arith, p)) in
      subst (KeySays keys t cells slots starts found (set pending level (first_listed + k)) (set flags k true) starts texts limit level top seen (listed_part false k at next used texts)) (sym (listed_by (record { keys = keys; limit = limit }) t level seen at (built_in t cells starts used texts) key next k listed false e))
      (key_says
      (record {
        row = 0;
        used = used;
        texts = texts;
        answer = refl;
        before_value = sym (ap (λ c. cond c (0 ∷ []) []) no_key);
        is = refl;
        holds = h;
        inside = omega arith;
        own = λ p. absurd (omega (arith, p));
        plain = λ p. omega (arith, p);
        more = omega arith;
        same = λ i n. refl;
        seen_now = seen_more level few v starts texts (omega arith) (λ i n. refl) (set pending level (first_listed + k)) (first_listed + k) key l inside refl (of_line k refl m) (line_entry keys t starts (first_listed + k) k refl ∙ sym q);
        flagged = subst (λ x. Flagged keys (set flags k true) (seen ++ x ∷ [])) (sym q) (flagged_listed apart marks k m);
      }))

  -- the flag of the line says whether the key stood before
  pub listed_key_says : {seen : List (List ℕ)} → Flagged keys flags seen → Seen keys t starts pending texts (level + 1) top seen → {r : Result KeyPart TextRefusal} {after : List ℕ} {more : List Bool} → r ≡ listed_part (get_or flags k false) k at next used texts → after ≡ listed_entry (get_or flags k false) pending level k → more ≡ listed_flags (get_or flags k false) flags k
      → KeySays keys t cells slots starts found after more starts texts limit level top seen r (key_of (record { keys = keys; limit = limit }) level seen at key next (built_in t cells starts used texts))
  listed_key_says {seen} marks v {r} {after} {more} e f g =
      let (m, p) = on_line key keys k listed in
      let q : any (eq_list key) seen ≡ get_or flags k false = ap (λ x. any (eq_list x) seen) p ∙ sym (marks.each k m) in
      subst (λ p. KeySays keys t cells slots starts found p more starts texts limit level top seen r (key_of (record { keys = keys; limit = limit }) level seen at key next (built_in t cells starts used texts))) (sym f)
      (subst (λ p. KeySays keys t cells slots starts found (listed_entry (get_or flags k false) pending level k) p starts texts limit level top seen r (key_of (record { keys = keys; limit = limit }) level seen at key next (built_in t cells starts used texts))) (sym g)
      (subst (λ x. KeySays keys t cells slots starts found (listed_entry (get_or flags k false) pending level k) (listed_flags (get_or flags k false) flags k) starts texts limit level top seen x (key_of (record { keys = keys; limit = limit }) level seen at key next (built_in t cells starts used texts))) (sym e)
      (listed_says marks v (get_or flags k false) q)))

  pub listed_kept : {after : List ℕ} → after ≡ listed_entry (get_or flags k false) pending level k → drop (level + 1) after ≡ drop (level + 1) pending
  listed_kept e = ap (drop (level + 1)) e ∙ go (get_or flags k false)
    where
      go : (a : Bool) → drop (level + 1) (listed_entry a pending level k) ≡ drop (level + 1) pending
      go true = refl
      go false = drop-set-lt (level + 1) pending level (first_listed + k) (omega arith)

-- what was said of a key is said of the string at its place
pub says_of_string : {keys : List (List ℕ)} {t cells slots starts found pending : List ℕ} {flags : List Bool} {old : List ℕ} {before limit lo hi : ℕ} {seen : List (List ℕ)} {r : Result KeyPart TextRefusal} {o v : KeyOutcome} → o ≡ v → KeySays keys t cells slots starts found pending flags old before limit lo hi seen r v → KeySays keys t cells slots starts found pending flags old before limit lo hi seen r o
says_of_string {keys} {t} {cells} {slots} {starts} {found} {pending} {flags} {old} {before} {limit} {lo} {hi} {seen} {r} e h = subst (KeySays keys t cells slots starts found pending flags old before limit lo hi seen r) (sym e) h
