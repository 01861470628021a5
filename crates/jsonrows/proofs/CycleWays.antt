-- What the readers of values, members and elements hand to each other. Assumes nothing.
use mathlib.Core.Path.{◌≡◌, refl, sym, ap, subst, ◌∙◌}
use mathlib.Core.Bool.{Bool, true, false}
use mathlib.Core.List.Memᴰ.{not-nil}
use mathlib.Core.List.{List, [], ◌∷◌, ◌++◌, Memᴰ as In}
use Rattle.std.specs.Prelude.{Result, Ok, Err}
use Prim.Native.Nat.{ℕ, zero, suc, ◌+◌, ◌-◌, ◌<◌, ◌≤◌}
use native.Mathlib.Omega.{arith}
use lib.ListN.{get_or, take, drop}
use Rattle.model.specs.Limits.{unused}
use Rattle.model.specs.Lists.{any, eq_list}
use Rattle.document.specs.Fields.{as_row}
use Rattle.document.specs.declared.rows.Row as row_number
use Rattle.jsonrows.specs.Signature.{other, text_leaf}
use Rattle.jsonrows.specs.State.{key_rows, built_in, Holds}
use Rattle.jsonrows.specs.Seen.{entry_key, entries, Seen, Flagged, KeyOutcome, key_good, key_refused, KeySays, key_says, key_says_no}
use Rattle.base.specs.Refusals.{number}
use Rattle.base.specs.declared.refusal.TextRefusal.{TextRefusal}
use Rattle.jsonrows.specs.declared.members.KeyPart.{KeyPart}

-- an answer that says what key was read
pub record KeySaid (keys : List (List ℕ)) (t cells slots starts found pending : List ℕ) (flags : List Bool) (old : List ℕ) (before limit lo hi : ℕ) (seen : List (List ℕ)) (o : KeyOutcome) (symbol : ℕ) (row : row_number.Row) (next used texts : ℕ) : Type 0 where
  pub key : List ℕ
  pub js : List ℕ
  pub outcome : o ≡ key_good key symbol js next (built_in t cells starts used texts)
  pub before_value : js ≡ key_rows symbol row.0
  pub holds : Holds t cells slots starts found used texts limit
  pub inside : row.0 < unused
  pub own : symbol ≡ other → row.0 < used
  pub plain : symbol ≡ text_leaf → ⊥
  pub more : before ≤ texts
  pub same : (k : ℕ) → k < before → get_or starts k 0 ≡ get_or old k 0
  pub seen_now : Seen keys t starts pending texts lo hi (seen ++ key ∷ [])
  pub flagged : Flagged keys flags (seen ++ key ∷ [])

module _ {keys : List (List ℕ)} {t cells slots starts found pending : List ℕ} {flags : List Bool} {old : List ℕ} {before limit lo hi : ℕ} {seen : List (List ℕ)} {r : Result KeyPart TextRefusal} where
  pub key_said : {o : KeyOutcome} → KeySays keys t cells slots starts found pending flags old before limit lo hi seen r o → {k : KeyPart} → r ≡ Ok k → KeySaid keys t cells slots starts found pending flags old before limit lo hi seen o k.symbol k.row k.next k.counts.used k.counts.texts
  key_said (key_says {key = key} {symbol = s} {js = js} {next = n} {b = b} h) {k} q =
      let e : ◌≡◌ {A = Result KeyPart TextRefusal} (Ok k) (Ok (record { symbol = s; row = as_row h.row; next = n; counts = record { used = h.used; texts = h.texts } })) = sym q ∙ h.answer in
      let z : k ≡ record { symbol = s; row = as_row h.row; next = n; counts = record { used = h.used; texts = h.texts } } = cc in
      subst (λ (x : KeyPart). KeySaid keys t cells slots starts found pending flags old before limit lo hi seen (key_good key s js n b) x.symbol x.row x.next x.counts.used x.counts.texts) (sym z)
      (record {
        key = key;
        js = js;
        outcome = ap (key_good key s js n) h.is;
        before_value = h.before_value;
        holds = h.holds;
        inside = h.inside;
        own = h.own;
        plain = h.plain;
        more = h.more;
        same = h.same;
        seen_now = h.seen_now;
        flagged = h.flagged;
      })
  key_said (key_says_no {e = x} h) {k} q = let e : ◌≡◌ {A = Result KeyPart TextRefusal} (Ok k) (Err x) = sym q ∙ h in let z : ⊥ = cc in absurd z

  pub key_said_no : {o : KeyOutcome} → KeySays keys t cells slots starts found pending flags old before limit lo hi seen r o → {e : TextRefusal} → r ≡ Err e → o ≡ key_refused (number e.refusal) e.place
  key_said_no (key_says {symbol = s} {next = n} h) {e} q = let f : ◌≡◌ {A = Result KeyPart TextRefusal} (Err e) (Ok (record { symbol = s; row = as_row h.row; next = n; counts = record { used = h.used; texts = h.texts } })) = sym q ∙ h.answer in let z : ⊥ = cc in absurd z
  key_said_no (key_says_no {e = x} h) {e} q =
      let f : ◌≡◌ {A = Result KeyPart TextRefusal} (Err e) (Err x) = sym q ∙ h in
      let g : x ≡ e = cc in
      ap (λ (y : TextRefusal). key_refused (number y.refusal) y.place) g

-- no keys are seen before the first
pub seen_none : (keys : List (List ℕ)) (t starts pending : List ℕ) (texts lo hi : ℕ) → hi ≤ lo → Seen keys t starts pending texts lo hi []
seen_none keys t starts pending texts lo hi l =
    record {
      are = λ x. ap (any (λ e. eq_list x (entry_key keys t starts e))) (sym empty);
      each = λ e m. absurd (not-nil (subst (In e) empty m));
    }
  where
    empty : entries pending lo hi ≡ []
    empty = let e : hi - lo ≡ 0 = omega (arith, l) in ap (λ n. take n (drop lo pending)) e

-- one level less and one more
pub back : (l : ℕ) → (l ≡ 0 → ⊥) → l - 1 + 1 ≡ l
back zero n = absurd (n refl)
back (suc l) n = omega arith

pub kept_back : (l : ℕ) → (l ≡ 0 → ⊥) → (a b : List ℕ) → drop (l - 1 + 1) a ≡ drop (l - 1 + 1) b → drop l a ≡ drop l b
kept_back l n a b e = subst (λ m. drop m a ≡ drop m b) (back l n) e

-- no test is both
pub no_object : {A : Type 0} → false ≡ true → A
no_object e = let z : ⊥ = cc in absurd z
