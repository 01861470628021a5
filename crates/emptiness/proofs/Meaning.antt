-- What the answers mean: dead exactly where no tree is accepted, and no document; live with a sound table, accepted, and no accepted tree has fewer levels. Assumes nothing.
use mathlib.Core.Path.{◌≡◌, refl, sym, ap, ◌∙◌, subst}
use mathlib.Core.List.{List, ◌++◌}
use mathlib.Core.Option.{Option, none, some}
use mathlib.Core.Logic.{◌↔◌}
use Prim.Native.Nat.{ℕ, zero, suc, ◌*◌, ◌/◌}
use native.Mathlib.Omega.{arith}
use lib.Dec.{leb}
use lib.ListN.{length, drop}
use Rattle.model.specs.Refusal.{demand, gives, unless}
use Rattle.model.specs.Tree.{Tree, levels}
use Rattle.model.specs.Sound.{Sound}
use Rattle.model.specs.Run.{Accepts}
use Rattle.model.specs.Table.{tree_of}
use Rattle.model.specs.Build.{rows_of}
use Rattle.model.specs.Witness.{witness, Apart, apart?}
use Rattle.model.proofs.Apart.{apart_exactly}
use Rattle.model.proofs.Build.{table}
use Rattle.model.proofs.Lowest.{live_accepted, lowest, dead_exactly}
use Rattle.model.proofs.WitnessTable.{witness_table}
use Rattle.automaton.specs.Stored.{decode}
use Rattle.automaton.specs.Check.{check_of}
use Rattle.automaton.proofs.Sound.{sound_decode}
use Rattle.document.specs.Rows.{row_cells, decode_rows, encode_rows}
use Rattle.document.proofs.Refusals.{passed, both_passed}
use Rattle.document.proofs.Sound.{document_passes, rows_back}
use Rattle.emptiness.specs.Answer.{sample_check_of, witness_check_of, shape_of, space_of, emptiness_of}
use Rattle.emptiness.specs.Meaning.{LetIn, Sample}

-- no number refuses: the set is sound, and no two states share a tag
pub checked : (set : List ℕ) (space : ℕ) → witness_check_of set space ≡ 0 → (check_of set ≡ 0) × Sound (decode set) × Apart (decode set)
unfolding witness_check_of sample_check_of
checked set space e =
    let (a, b) = both_passed (check_of set) (sample_check_of (decode set) space) e in
    let (c, d) = passed (leb (length (decode set).states) (space / row_cells)) 42 (demand (apart? (decode set)) 41 0) (omega arith) b in
    let (f, g) = passed (apart? (decode set)) 41 0 (omega arith) d in
    (a, sound_decode set a, (apart_exactly (decode set)).0 f)

no_rest : (n : ℕ) (o : Option Tree) → unless n (shape_of o) ≡ gives none → (n ≡ 0) × (o ≡ none)
unfolding unless
no_rest zero none e = (refl, refl)
no_rest zero (some w) e = let z : ◌≡◌ {A = ℕ} 0 1 = cc in let y : ⊥ = omega arith in absurd y
no_rest (suc n) o e = let z : ◌≡◌ {A = ℕ} 0 1 = cc in let y : ⊥ = omega arith in absurd y

unrefused : (n : ℕ) (o p : Option Tree) → n ≡ 0 → o ≡ p → unless n (shape_of o) ≡ gives (shape_of p)
unfolding unless
unrefused n o p e f = rw (e, f)

-- DEAD EXACTLY WHERE NO TREE IS ACCEPTED
pub dead_means : (set : List ℕ) (space : ℕ) → witness_check_of set space ≡ 0 → (emptiness_of set space ≡ gives none) ↔ ((t : Tree) → Accepts (decode set) t → ⊥)
dead_means set space e =
    let (c, sound, apart) = checked set space e in
    let d = dead_exactly (decode set) sound.wellformed apart in (
      λ a. d.0 (no_rest (witness_check_of set space) (witness (decode set)) a).1,
      λ h. unrefused (witness_check_of set space) (witness (decode set)) none e (d.1 h),
    )

module _ (set : List ℕ) (space : ℕ) (e : witness_check_of set space ≡ 0) where
  -- the witness's own rows are such a document
  own_rows : (w : Tree) → witness (decode set) ≡ some w → LetIn set (encode_rows (rows_of w))
  own_rows w ew =
      let (c, sound, apart) = checked set space e in
      let t = witness_table (decode set) sound w ew in
      record {
        passes = document_passes set (rows_of w) c t;
        accepted = subst (Accepts (decode set)) (sym (ap tree_of (rows_back (decode set) (rows_of w) sound t) ∙ (table w).tree)) (live_accepted (decode set) apart w ew);
      }

  -- DEAD EXACTLY WHERE NO DOCUMENT IS LET IN
  pub dead_documents : (emptiness_of set space ≡ gives none) ↔ ((cells : List ℕ) → LetIn set cells → ⊥)
  dead_documents = (
    λ a cells d. (dead_means set space e).0 a (tree_of (decode_rows cells)) d.accepted,
    λ h. go h (witness (decode set)) refl,
  )
    where
      go : ((cells : List ℕ) → LetIn set cells → ⊥) → (o : Option Tree) → witness (decode set) ≡ o → emptiness_of set space ≡ gives none
      go h none eo = unrefused (witness_check_of set space) (witness (decode set)) none e eo
      go h (some w) eo = absurd (h (encode_rows (rows_of w)) (own_rows w eo))

  -- LIVE EXACTLY WHERE ONE IS
  pub live_documents : ((n : ℕ) × (h : ℕ) × (emptiness_of set space ≡ gives (some (n, h)))) ↔ ((cells : List ℕ) × LetIn set cells)
  live_documents = (
    λ (n, h, a). go n h a (witness (decode set)) refl,
    λ (cells, d). back cells d (witness (decode set)) refl,
  )
    where
      go : (n h : ℕ) → emptiness_of set space ≡ gives (some (n, h)) → (o : Option Tree) → witness (decode set) ≡ o → (cells : List ℕ) × LetIn set cells
      go n h a none eo = let b = sym a ∙ unrefused (witness_check_of set space) (witness (decode set)) none e eo in let z : ◌≡◌ {A = ℕ} 0 1 = cc in let y : ⊥ = omega arith in absurd y
      go n h a (some w) eo = (encode_rows (rows_of w), own_rows w eo)

      back : (cells : List ℕ) → LetIn set cells → (o : Option Tree) → witness (decode set) ≡ o → (n : ℕ) × (h : ℕ) × (emptiness_of set space ≡ gives (some (n, h)))
      back cells d none eo = absurd (dead_documents.0 (unrefused (witness_check_of set space) (witness (decode set)) none e eo) cells d)
      back cells d (some w) eo = (length (rows_of w), levels w, unrefused (witness_check_of set space) (witness (decode set)) (some w) e eo)

-- the witness behind a live answer
record Behind (n : ℕ) (o : Option Tree) (r h : ℕ) : Type 0 where
  pub unrefused : n ≡ 0
  pub tree : Tree
  pub is : o ≡ some tree
  pub rows : r ≡ length (rows_of tree)
  pub height : h ≡ levels tree

behind : (n : ℕ) (o : Option Tree) (r h : ℕ) → unless n (shape_of o) ≡ gives (some (r, h)) → Behind n o r h
unfolding unless
behind zero none r h e = let z : ◌≡◌ {A = ℕ} 0 1 = cc in let y : ⊥ = omega arith in absurd y
behind zero (some w) r h e = let p : ◌≡◌ {A = ℕ × ℕ} (length (rows_of w), levels w) (r, h) = cc in record { unrefused = refl; tree = w; is = refl; rows = ap (λ x. x.0) (sym p); height = ap (λ x. x.1) (sym p) }
behind (suc n) o r h e = let z : ◌≡◌ {A = ℕ} 0 1 = cc in let y : ⊥ = omega arith in absurd y

-- LIVE WITH THE LOWEST ACCEPTED TREE
pub live_means : (set cells : List ℕ) (n h : ℕ) → emptiness_of set (length cells) ≡ gives (some (n, h)) → Sample set cells n h
live_means set cells n h e =
    let b = behind (witness_check_of set (length cells)) (witness (decode set)) n h e in
    let (c, sound, apart) = checked set (length cells) b.unrefused in
    record {
      tree = b.tree;
      rows = b.rows;
      height = b.height;
      space = ap (λ k. space_of k (witness (decode set)) cells) b.unrefused ∙ ap (λ o. space_of 0 o cells) b.is ∙ ap (λ k. encode_rows (rows_of b.tree) ++ drop (k * row_cells) cells) (sym b.rows);
      let_in = own_rows set (length cells) b.unrefused b.tree b.is;
      tree_is = (table b.tree).tree;
      accepted = live_accepted (decode set) apart b.tree b.is;
      no_lower = λ t. lowest (decode set) sound.wellformed b.tree t b.is;
    }
