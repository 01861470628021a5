-- The keys of an object so far, as the reader keeps them: an entry for each. Assumes nothing.
use Rattle.std.specs.Prelude.{◌≡◌, Bool, true, false, cond, ℕ, ◌+◌, ◌-◌, ◌<◌, ◌≤◌, eqb, ltb, length, get_or, take, drop, set, Result, Ok, Err}
use mathlib.Core.List.{List, [], ◌∷◌, ◌++◌, Memᴰ as In}
use Rattle.std.proofs.Math.Option.{none, some}
use Rattle.base.specs.Text.{got, fault}
use Rattle.model.specs.Limits.{unused}
use Rattle.model.specs.Lists.{any, eq_list}
use Rattle.document.specs.Fields.{as_row}
use Rattle.jsontext.specs.Spaces.{space_end}
use Rattle.jsontext.specs.Strings.{string_at}
use Rattle.jsonrows.specs.Signature.{other, text_leaf, key_symbol}
use Rattle.jsonrows.specs.Keys.{find_text}
use Rattle.jsonrows.specs.Grammar.{Setting, Built, Outcome, good, refused, Reader, MemberReader, finish_text, member_by}
use Rattle.jsonrows.specs.State.{text_at, key_rows, built_in, Holds}
use Rattle.document.specs.declared.index.Probed.{Probed}
use Rattle.document.specs.declared.index.Probed.TheVariants.{Found, Free, Crowded}
use Rattle.base.specs.Refusals.{number}
use Rattle.base.specs.declared.refusal.Refusal.TheVariants.{KeyRepeated}
use Rattle.base.specs.declared.refusal.TextRefusal.{TextRefusal}
use Rattle.jsonrows.specs.declared.members.KeyPart.{KeyPart}

-- where the entries of listed keys begin, behind those of texts
abbrev pub first_listed : ℕ
first_listed = 2048

-- the key of an entry: that of a text's number, or of a line
abbrev pub entry_key : List (List ℕ) → List ℕ → List ℕ → ℕ → List ℕ
entry_key keys t starts e = cond (ltb e first_listed) (text_at t starts e) (get_or keys (e - first_listed) [])

-- An entry is the number of a text that is no listed key, or a line's number behind those.
pub data EntryOf (keys : List (List ℕ)) (t starts : List ℕ) (texts e : ℕ) : Type 0 where
  of_text : e < texts → find_text (text_at t starts e) keys ≡ none → EntryOf keys t starts texts e
  of_line : (k : ℕ) → e ≡ first_listed + k → k < length keys → EntryOf keys t starts texts e

-- the entries from place lo up to place hi
abbrev pub entries : List ℕ → ℕ → ℕ → List ℕ
entries pending lo hi = take (hi - lo) (drop lo pending)

-- The entries from lo up to hi are those of the keys before.
pub record Seen (keys : List (List ℕ)) (t starts pending : List ℕ) (texts lo hi : ℕ) (seen : List (List ℕ)) : Type 0 where
  pub are : (key : List ℕ) → any (eq_list key) seen ≡ any (λ e. eq_list key (entry_key keys t starts e)) (entries pending lo hi)
  pub each : (e : ℕ) → In e (entries pending lo hi) → EntryOf keys t starts texts e

-- Of each line of the list the flag says whether it is among the keys before.
pub record Flagged (keys : List (List ℕ)) (flags : List Bool) (seen : List (List ℕ)) : Type 0 where
  pub size : length flags ≡ 64
  pub few : length keys ≤ 56
  pub each : (k : ℕ) → k < length keys → get_or flags k false ≡ any (eq_list (get_or keys k [])) seen

-- a key with its symbol, what stands before its value, the place after it and what is built; or a refusal's number and place
pub data KeyOutcome : Type 0 where
  key_good : List ℕ → ℕ → List ℕ → ℕ → Built → KeyOutcome
  key_refused : ℕ → ℕ → KeyOutcome

abbrev pub other_key : List ℕ → Outcome → KeyOutcome
other_key key (good k next b) = key_good key other (k ∷ []) next b
other_key key (refused w p) = key_refused w p

-- a whole key, as `key_by` of the reader's definition has it
unfoldable pub key_of : Setting → ℕ → List (List ℕ) → ℕ → List ℕ → ℕ → Built → KeyOutcome
key_of S l seen at key next b =
    elim (find_text key S.keys) [
      | none ↦ elim (eqb l 0) [
        | true ↦ key_refused 64 at
        | false ↦ elim (any (eq_list key) seen) [ true ↦ key_refused 72 at | false ↦ other_key key (finish_text S.limit key next b) ]
      ]
      | some k ↦ elim (any (eq_list key) seen) [ true ↦ key_refused 72 at | false ↦ key_good key (key_symbol k) [] next b ]
    ]

-- the key at a place
unfoldable pub key_at : Setting → List ℕ → ℕ → List (List ℕ) → ℕ → Built → KeyOutcome
unfolding key_of
key_at S t l seen at b = elim (string_at t at) [ fault p ↦ key_refused 71 p | got key next ↦ key_of S l seen at key next b ]

-- a member behind its key, as the definition goes on
abbrev pub behind_key : Setting → List ℕ → Reader → MemberReader → List (List ℕ) → KeyOutcome → Outcome
behind_key S t value rest seen (key_good key symbol js next b) = member_by S.limit t value (rest (seen ++ key ∷ [])) symbol js (space_end t next) b
behind_key S t value rest seen (key_refused w p) = refused w p

-- A key was read, and is among those that were seen.
pub record AfterKey (keys : List (List ℕ)) (t cells slots starts found pending : List ℕ) (flags : List Bool) (old : List ℕ) (before limit lo hi : ℕ) (seen : List (List ℕ)) (r : Result KeyPart TextRefusal) (key : List ℕ) (symbol : ℕ) (js : List ℕ) (next : ℕ) (b : Built) : Type 0 where
  pub row : ℕ
  pub used : ℕ
  pub texts : ℕ
  pub answer : r ≡ Ok (record { symbol = symbol; row = as_row row; next = next; counts = record { used = used; texts = texts } })
  pub before_value : js ≡ key_rows symbol row
  pub is : b ≡ built_in t cells starts used texts
  pub holds : Holds t cells slots starts found used texts limit
  pub inside : row < unused
  pub own : symbol ≡ other → row < used
  pub plain : symbol ≡ text_leaf → ⊥
  pub more : before ≤ texts
  pub same : (k : ℕ) → k < before → get_or starts k 0 ≡ get_or old k 0
  pub seen_now : Seen keys t starts pending texts lo hi (seen ++ key ∷ [])
  pub flagged : Flagged keys flags (seen ++ key ∷ [])

-- What an answer says of the key that was to be read.
pub data KeySays (keys : List (List ℕ)) (t cells slots starts found pending : List ℕ) (flags : List Bool) (old : List ℕ) (before limit lo hi : ℕ) (seen : List (List ℕ)) (r : Result KeyPart TextRefusal) : KeyOutcome → Type 0 where
  key_says : {key : List ℕ} {symbol : ℕ} {js : List ℕ} {next : ℕ} {b : Built} → AfterKey keys t cells slots starts found pending flags old before limit lo hi seen r key symbol js next b → KeySays keys t cells slots starts found pending flags old before limit lo hi seen r (key_good key symbol js next b)
  key_says_no : {e : TextRefusal} → r ≡ Err e → KeySays keys t cells slots starts found pending flags old before limit lo hi seen r (key_refused (number e.refusal) e.place)

-- the answer for listed key k, and its entry, by whether it stood before
abbrev pub listed_part : Bool → ℕ → ℕ → ℕ → ℕ → ℕ → Result KeyPart TextRefusal
listed_part true k at next used texts = Err (record { refusal = KeyRepeated; place = at })
listed_part false k at next used texts = Ok (record { symbol = key_symbol k; row = as_row 0; next = next; counts = record { used = used; texts = texts } })

abbrev pub listed_entry : Bool → List ℕ → ℕ → ℕ → List ℕ
listed_entry true pending level k = pending
listed_entry false pending level k = set pending level (first_listed + k)

abbrev pub listed_flags : Bool → List Bool → ℕ → List Bool
listed_flags true flags k = flags
listed_flags false flags k = set flags k true

-- the number of a text that the probe found, or the next one
abbrev pub number_of : Probed → ℕ → ℕ
number_of (Found k) texts = k.0
number_of (Free s) texts = texts
number_of Crowded texts = texts
