-- The lines of a key list by their places, and an index over them. Assumes nothing.
use Rattle.std.specs.Prelude.{◌≡◌, List, [], Bool, true, false, ℕ, ◌+◌, ◌-◌, ◌<◌, ◌≤◌, length, get_or, take, drop, Option as Maybe, Some, None}
use Rattle.std.proofs.Math.Option.{Option, none, some}
use Rattle.model.specs.Lists.{eq_list}
use Rattle.document.specs.Index.{Indexed, probe}
use Rattle.document.specs.declared.index.Probed.{Probed}
use Rattle.document.specs.declared.index.Probed.TheVariants.{Found, Free, Crowded}
use Rattle.names.specs.Lines.{lines}
use Rattle.jsontext.specs.Decoded.{text_slot}
use Rattle.jsontext.specs.Tokens.{TokenOf}
use Rattle.jsontext.specs.declared.tokens.Token.{Token}
use Rattle.jsonrows.specs.declared.keys.Line.{Line}
use Rattle.jsonrows.specs.Keys.{max_keys, key?, keys_fit?, find_text}

-- line k, empty where there is none
abbrev pub key_at : List ℕ → ℕ → List ℕ
key_at list k = get_or (lines list) k []

-- what stands where there is no line
abbrev pub no_line : Line
no_line = record { start = 0; end = 0; token = None }

abbrev pub line_at : List Line → ℕ → Line
line_at places k = get_or places k no_line

-- where line k starts, and where it ends
abbrev pub key_start : List Line → ℕ → ℕ
key_start places k = (line_at places k).start

abbrev pub key_end : List Line → ℕ → ℕ
key_end places k = (line_at places k).end

-- line k's token, if it has one
abbrev pub token_at : List Line → ℕ → Maybe Token
token_at places k = (line_at places k).token

-- The token at line k's places, if there is one, is that of some bytes.
abbrev pub Tokened : List ℕ → List Line → ℕ → Type 0
Tokened line places k = (t : Token) → token_at places k ≡ Some t → TokenOf line t.first t.last t.length

-- Line k stands between its places.
pub record Stands (list : List ℕ) (places : List Line) (k : ℕ) : Type 0 where
  pub from : key_start places k ≤ key_end places k
  pub inside : key_end places k ≤ length list
  pub line : take (key_end places k - key_start places k) (drop (key_start places k) list) ≡ key_at list k

-- Line n, from a to e, got its places and its token; those of others are as they were.
pub record LinePut (line : List ℕ) (places more : List Line) (n a e : ℕ) : Type 0 where
  pub room : length more ≡ 64
  pub start : key_start more n ≡ a
  pub end : key_end more n ≡ e
  pub token : Tokened line more n
  pub others : (k : ℕ) → (k ≡ n → ⊥) → line_at more k ≡ line_at places k

-- The first n lines are keys, no two of them equal; the places and tokens are theirs, the slots are an index of them, and in the other places stands no line.
pub record Entered (list : List ℕ) (places : List Line) (slots : List ℕ) (n : ℕ) : Type 0 where
  pub few : n ≤ max_keys
  pub room : length places ≡ 64
  pub inside : n ≤ length (lines list)
  pub stands : (k : ℕ) → k < n → Stands list places k
  pub keys : (k : ℕ) → k < n → key? (key_at list k) ≡ true
  pub distinct : (j k : ℕ) → j < n → k < n → key_at list j ≡ key_at list k → j ≡ k
  pub indexed : Indexed slots n (λ k. text_slot (key_at list k))
  pub tokens : (k : ℕ) → k < n → Tokened (key_at list k) places k
  pub others : (k : ℕ) → n ≤ k → line_at places k ≡ no_line

-- What the answer for line n says: it is entered behind the others, or the list does not fit.
pub data Told (list : List ℕ) (places : List Line) (slots : List ℕ) (n : ℕ) : Bool → Type 0 where
  line_entered : Entered list places slots (n + 1) → Told list places slots n true
  list_unfit : keys_fit? list ≡ false → Told list places slots n false

-- The places and the slots are those of all lines.
abbrev pub KeyTable : List ℕ → List Line → List ℕ → Type 0
KeyTable list places slots = Entered list places slots (length (lines list))

-- the empty slot that a probe found, if it did
abbrev pub free_in : Probed → Option ℕ
free_in (Found i) = none
free_in (Free s) = some s
free_in Crowded = none

-- the slot where a line belongs, if it is new
abbrev pub free_of : Maybe ℕ → Option ℕ
free_of (Some s) = some s
free_of None = none

-- the line that was found, if one was
abbrev pub key_of : Maybe ℕ → Option ℕ
key_of (Some k) = some k
key_of None = none

-- the answer to what a probe finds
abbrev pub key_after : Probed → Maybe ℕ
key_after (Found i) = Some i.0
key_after (Free s) = None
key_after Crowded = None

-- the line that a search among all finds, as an answer
abbrev pub answer_of : Option ℕ → Maybe ℕ
answer_of (some k) = Some k
answer_of none = None

-- What the places and the slots of all lines tell: where each line stands, its token, and that a probe finds it.
pub record Keyed (list : List ℕ) (places : List Line) (slots : List ℕ) : Type 0 where
  pub few : length (lines list) ≤ max_keys
  pub stands : (k : ℕ) → k < length (lines list) → Stands list places k
  pub distinct : (j k : ℕ) → j < length (lines list) → k < length (lines list) → key_at list j ≡ key_at list k → j ≡ k
  pub held : (s : ℕ) → get_or slots s 0 ≤ length (lines list)
  pub found : (key : List ℕ) → key_after (probe slots (λ k. eq_list key (key_at list k)) (text_slot key)) ≡ answer_of (find_text key (lines list))
  pub tokens : (k : ℕ) → k < length (lines list) → Tokened (key_at list k) places k
  pub others : (k : ℕ) → length (lines list) ≤ k → line_at places k ≡ no_line
