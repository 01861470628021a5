-- What marking and building find is the answer, and the space holds the witness's rows. Assumes nothing.
use mathlib.Core.Path.{◌≡◌, refl, sym, ap, ◌∙◌, subst}
use mathlib.Core.List.{List, [], ◌++◌}
use mathlib.Core.Bool.{Bool, true, false}
use mathlib.Core.Option.{none, some}
use Prim.Native.Nat.{ℕ, zero, suc, ◌*◌, ◌/◌, ◌<◌, ◌≤◌}
use native.Mathlib.Omega.{arith}
use borrow.Author.Rules.{rules}
use borrow.Author.Tests.{le-leb, lt-leb, not-true, not-false}
use lib.ListN.{length, get_or, replicate, drop}
use Rattle.model.specs.Limits.{max_states, unused}
use Rattle.std.specs.Prelude.{None, Some}
use Rattle.std.specs.Prelude.{Option as Perhaps}
use Rattle.model.specs.Refusal.{demand}
use Rattle.model.specs.Tree.{Tree}
use Rattle.model.specs.Automaton.{Automaton}
use Rattle.model.specs.Build.{add_tree, rows_of}
use Rattle.model.specs.Witness.{witness, apart?}
use Rattle.model.proofs.Tab.{length_tab}
use Rattle.model.proofs.Build.{no_rows}
use Rattle.model.proofs.WitnessTable.{witness_rows}
use Rattle.automaton.specs.Stored.{decode}
use Rattle.automaton.specs.Check.{check_of}
use Rattle.automaton.proofs.Sound.{sound_decode}
use Rattle.document.specs.Rows.{row_cells, row_in, rows_below, encode_rows}
use Rattle.document.specs.Index.{slot_count}
use Rattle.document.proofs.Building.{built_none}
use Rattle.emptiness.specs.declared.marking.Marking.{Marking}
use Rattle.emptiness.specs.Marking.{Chosen, Marks}
use Rattle.emptiness.specs.Building.{Tabled, Done, Builds}
use Rattle.emptiness.specs.Answer.{sample_check_of, shape_of, space_of}

rep_at : (n x q : ℕ) → get_or (replicate n x) q x ≡ x
rep_at zero x q = refl
rep_at (suc n) x zero = refl
rep_at (suc n) x (suc q) = rep_at n x q

rep_long : (n x : ℕ) → length (replicate n x) ≡ n
rep_long zero x = refl
rep_long (suc n) x = ap suc (rep_long n x)

-- an empty table over any space
tabled_none : (A : Automaton) (N : ℕ) (cells : List ℕ) → Tabled A N cells cells (replicate slot_count 0) (replicate max_states unused) 0
tabled_none A N cells =
    record {
      long = rep_long max_states unused;
      built = built_none cells;
      lower = no_rows;
      front = refl;
      rows = λ q h. absurd (h (rep_at max_states unused q));
    }

first : (w : Tree) → (add_tree w (rows_below [] 0)).0 ≡ rows_of w
unfolding rows_of
first w = refl

module _ (s : List ℕ) (m : Perhaps Marking) (M : Marks (decode s) m) where
  no_witness : m ≡ None → witness (decode s) ≡ none
  no_witness h = subst (Marks (decode s)) h M

  pub dead_answer : m ≡ None → none ≡ shape_of (witness (decode s))
  dead_answer h = ap shape_of (sym (no_witness h))

  pub dead_space : (cells : List ℕ) → m ≡ None → cells ≡ space_of 0 (witness (decode s)) cells
  dead_space cells h = ap (λ o. space_of 0 o cells) (sym (no_witness h))

  module _ (k : Marking) (h : m ≡ Some k) (states n : ℕ) (cells cells' slots' memo' : List ℕ) (sound : check_of s ≡ 0) (es : states ≡ length (decode s).states) (room : states * row_cells ≤ length cells) (B : Builds (decode s) k.marks states k.round k.state.0 cells (replicate slot_count 0) (replicate max_states unused) 0 cells' slots' memo' n) where
    C : Chosen (decode s) k.state.0 k.round k.marks
    C = subst (Marks (decode s)) h M

    D : Done (decode s) k.state.0 cells (replicate max_states unused) 0 k.round cells C.tree cells' slots' memo' n
    D =
        B.gives k.round cells C.tree
        (record {
          sound = sound_decode s sound;
          marks_are = C.marks_are;
          tree_of = C.tree_of;
          deep = omega (arith, C.height);
          few = omega (arith, (sound_decode s sound).few_states);
          space = room;
          room = let l = witness_rows (decode s) C.tree C.witness_is in let e = ap length (first C.tree) in omega arith;
          tabled = tabled_none (decode s) k.round cells;
        })

    rows_are : rows_below cells' n ≡ rows_of C.tree
    rows_are = D.rows ∙ first C.tree

    count : n ≡ length (rows_of C.tree)
    count = sym (length_tab n (row_in cells')) ∙ ap length rows_are

    pub live_answer : some (n, k.round) ≡ shape_of (witness (decode s))
    live_answer = cc (count, C.height, ap shape_of C.witness_is)

    pub live_space : cells' ≡ space_of 0 (witness (decode s)) cells
    live_space =
        D.tabled.front
        ∙ ap (λ rs. encode_rows rs ++ drop (n * row_cells) cells) rows_are
        ∙ ap (λ j. encode_rows (rows_of C.tree) ++ drop (j * row_cells) cells) count
        ∙ sym (ap (λ o. space_of 0 o cells) C.witness_is)

-- 42, 41, or neither
module _ (A : Automaton) (space states d : ℕ) (es : states ≡ length A.states) (ed : d ≡ space / row_cells) where
  pub no_space : (x : ℕ) → x ≡ states → d < x → 42 ≡ sample_check_of A space
  unfolding sample_check_of demand
  no_space x ex l = rw (lt-leb (length A.states) (space / row_cells) (omega arith))

  module _ (x : ℕ) (ex : x ≡ states) (l : x ≤ d) (b : Bool) (eb : b ≡ apart? A) where
    pub shared_tag : b ≡ false → 41 ≡ sample_check_of A space
    unfolding sample_check_of demand
    shared_tag f = rw (le-leb (length A.states) (space / row_cells) (omega arith), sym eb ∙ f)

    pub apart_all : b ≡ true → 0 ≡ sample_check_of A space
    unfolding sample_check_of demand
    apart_all t = rw (le-leb (length A.states) (space / row_cells) (omega arith), sym eb ∙ t)

pub ruleset finding = (dead_answer, dead_space, live_answer, live_space, rules)

pub ruleset sampling = (no_space, shared_tag, apart_all, not-true, not-false, rules)
