-- The tree that a term's text stands for, by the grammar of document 01, section "Term text". Assumes nothing.
use Rattle.std.specs.Prelude.{◌≡◌, List, true, ℕ, ◌+◌, length}
use Rattle.std.proofs.Math.Option.{Option}
use Rattle.names.specs.Names.{letter?}
use Rattle.model.specs.Tree.{Tree, Forest, node, fnil, fcons, trees}
use Rattle.term.specs.Scan.{byte_at, got, name_at, scalar, scalar_at}
use Rattle.term.specs.Grammar.{symbol_of, named}

-- The name of symbol s stands from place i up to place n.
pub record NameAt (symbol : List ℕ → Option ℕ) (t : List ℕ) (i s n : ℕ) : Type 0 where
  pub letter : letter? (byte_at t i) ≡ true
  pub known : symbol_of symbol i (name_at t i) ≡ named s n

mutual
  -- The bytes from place i up to place n are a term: a name, then nothing or a scalar, or an argument list in brackets.
  pub data TermAt (symbol : List ℕ → Option ℕ) (t : List ℕ) : ℕ → Tree → ℕ → Type 0 where
    leaf : {i next n s k p : ℕ} → NameAt symbol t i s next → (byte_at t next ≡ 40 → ⊥) → scalar_at t next ≡ got (scalar k p) n → TermAt symbol t i (node s k p fnil) n
    branch : {i next n s : ℕ} {f : Forest} → NameAt symbol t i s next → byte_at t next ≡ 40 → ArgsAt symbol t (next + 1) f n → TermAt symbol t i (node s 0 0 f) n

  -- They are one or more terms with commas, and the closing bracket.
  pub data ArgsAt (symbol : List ℕ → Option ℕ) (t : List ℕ) : ℕ → Forest → ℕ → Type 0 where
    last : {i next n : ℕ} {u : Tree} → TermAt symbol t i u next → byte_at t next ≡ 41 → n ≡ next + 1 → ArgsAt symbol t i (fcons u fnil) n
    more : {i next n : ℕ} {u : Tree} {f : Forest} → TermAt symbol t i u next → byte_at t next ≡ 44 → ArgsAt symbol t (next + 1) f n → ArgsAt symbol t i (fcons u f) n

-- Every node has as many children as its symbol's number says.
unfoldable mutual
  pub Ranked : (ℕ → ℕ) → Tree → Type 0
  Ranked arity (node s k p f) = (length (trees f) ≡ arity s) × RankedIn arity f

  pub RankedIn : (ℕ → ℕ) → Forest → Type 0
  RankedIn arity fnil = Unit {0}
  RankedIn arity (fcons u f) = Ranked arity u × RankedIn arity f
