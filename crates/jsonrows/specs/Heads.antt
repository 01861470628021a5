-- What stands before an item's value: the key and the colon of a member, nothing of an element or of a value alone. Assumes nothing.
use Rattle.std.specs.Prelude.{◌≡◌, Bool, true, false, List, ℕ, ◌<◌, ◌≤◌, length, get_or, Result, Ok, Err}
use Rattle.model.specs.Limits.{unused}
use Rattle.document.specs.declared.rows.Row as row_number
use Rattle.jsonrows.specs.Signature.{other, text_leaf}
use Rattle.jsonrows.specs.Grammar.{Setting, Built, refused}
use Rattle.jsonrows.specs.State.{built_in, Holds}
use Rattle.jsonrows.specs.Seen.{Seen, Flagged}
use Rattle.jsonrows.specs.Items.{list_at, item_at}
use Rattle.base.specs.Refusals.{number}
use Rattle.base.specs.declared.refusal.TextRefusal.{TextRefusal}
use Rattle.jsonrows.specs.declared.members.KeyPart.{KeyPart}

-- What was to be read from place `at` on is the item with this symbol and key, whose value begins at `first`; before it stands nothing, where it is no member.
pub record Headed (object : Bool) (S : Setting) (t cells slots starts found pending : List ℕ) (flags : List Bool) (old : List ℕ) (before lo hi : ℕ) (seen : List (List ℕ)) (at : ℕ) (b : Built) (symbol : ℕ) (key : row_number.Row) (first used texts : ℕ) : Type 0 where
  pub seen_now : List (List ℕ)
  pub is : list_at object lo S t seen at b ≡ item_at object lo S t seen_now symbol key.0 first (built_in t cells starts used texts)
  pub nothing : object ≡ false → (first ≡ at) × (built_in t cells starts used texts ≡ b)
  pub known : object ≡ true → Seen S.keys t starts pending texts lo hi seen_now
  pub flagged : object ≡ true → Flagged S.keys flags seen_now
  pub holds : Holds t cells slots starts found used texts S.limit
  pub inside : key.0 < unused
  pub own : symbol ≡ other → key.0 < used
  pub grown : length b.rows ≤ used
  pub plain : symbol ≡ text_leaf → ⊥
  pub more : before ≤ texts
  pub same : (k : ℕ) → k < before → get_or starts k 0 ≡ get_or old k 0

-- What an answer says of what was to be read.
pub data HeadSays (object : Bool) (S : Setting) (t cells slots starts found pending : List ℕ) (flags : List Bool) (old : List ℕ) (before lo hi : ℕ) (seen : List (List ℕ)) (at : ℕ) (b : Built) (r : Result KeyPart TextRefusal) : Type 0 where
  head_says : {p : KeyPart} → r ≡ Ok p → Headed object S t cells slots starts found pending flags old before lo hi seen at b p.symbol p.row p.next p.counts.used p.counts.texts → HeadSays object S t cells slots starts found pending flags old before lo hi seen at b r
  head_says_no : {e : TextRefusal} → r ≡ Err e → object ≡ true → list_at object lo S t seen at b ≡ refused (number e.refusal) e.place → HeadSays object S t cells slots starts found pending flags old before lo hi seen at b r
