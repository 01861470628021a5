-- The index finds an equal annotation exactly where there is one, and a new annotation keeps it whole; the slots may be any. Assumes nothing.
use mathlib.Core.Path.{◌≡◌, refl, sym, ap, ◌∙◌, subst}
use mathlib.Core.List.{List}
use mathlib.Core.Bool.{Bool, true, false, cond}
use Prim.Native.Nat.{ℕ, suc, ◌+◌, ◌*◌, ◌-◌, ◌<◌, ◌≤◌}
use native.Mathlib.Omega.{arith}
use native.Mathlib.Numerals.{add-one}
use borrow.Author.Rules.{rules}
use borrow.Author.Tests.{le-leb, lt-leb, leb-true}
use lib.Dec.{T, leb}
use lib.ListN.{length, get_or, set, length-set}
use lib.Seq.{get_or-set_same, get_or-set_other}
use Rattle.model.specs.Lists.{any, tab}
use Rattle.model.specs.Annotation.{Annotation, eq_annotation}
use Rattle.model.proofs.Members.{T_true, in_any, any_in, eq_annotation→eq}
use Rattle.model.proofs.Tab.{in_tab, tab_in}
use Rattle.membership.specs.Cells.{cell_of, annotation_in, annotations_in}
use Rattle.membership.specs.Index.{slot_of, first_in, next_in, link_of, OnChain, newest, older, Indexed, Linked}

pub not_T : (b : Bool) → (T b → ⊥) → false ≡ b
not_T true h = absurd (h tt)
not_T false h = refl

pub T_of : (b r : Bool) → r ≡ b → r ≡ true → T b
T_of b r e t = subst T (sym t ∙ e) tt

pub link_bound : (most x : ℕ) → link_of most x ≤ most
link_bound most x = go (leb x most) refl
  where
    go : (b : Bool) → leb x most ≡ b → cond b x 0 ≤ most
    go true e = leb-true x most e
    go false e = omega arith

pub link_is : (most x : ℕ) → x ≤ most → link_of most x ≡ x
link_is most x l = ap (λ b. cond b x 0) (le-leb x most l)

module _ (work : List ℕ) (n : ℕ) where
  pub chain_bound : {j i : ℕ} → OnChain work n j i → i ≤ n
  chain_bound (newest l) = l
  chain_bound (older l m c) = l

  pub chain_none : {j i : ℕ} → OnChain work n j i → i ≡ 0 → ⊥
  chain_none (newest l) e = omega arith
  chain_none (older l m c) e = omega arith

  -- the rest of a chain whose first is another annotation
  pub chain_rest : {j i : ℕ} → OnChain work n j i → (k : ℕ) → i ≡ suc k → (j ≡ k → ⊥) → (next_in work k ≤ k) × OnChain work n j (next_in work k)
  chain_rest (newest l) k e other = absurd (other (omega arith))
  chain_rest {j = j} (older {k = h} l m c) k e other = let same : h ≡ k = omega arith in subst (λ z. (next_in work z ≤ z) × OnChain work n j (next_in work z)) same (m, c)

-- the walk along a chain in search of an annotation: all that equal it are on what is left
pub record Walking (tags : ℕ) (work : List ℕ) (n : ℕ) (a : Annotation) (i : ℕ) : Type 0 where
  pub inside : i ≤ n
  pub left : (j : ℕ) → j < n → T (eq_annotation a (annotation_in tags work j)) → OnChain work n j i

module _ (tags room : ℕ) (work : List ℕ) (n : ℕ) (a : Annotation) where
  pub walk_start : (s i : ℕ) → Indexed tags room work n → s ≡ slot_of room a → i ≡ link_of n (get_or work (s * 32 + 24) 0) → Walking tags work n a i
  unfolding Indexed first_in cell_of
  walk_start s i index es ei =
      record {
        inside = rw ei (link_bound n (get_or work (s * 32 + 24) 0));
        left = λ j l t.
            let c = subst (λ z. OnChain work n j (first_in work z)) (ap (slot_of room) (sym (eq_annotation→eq a (annotation_in tags work j) t)) ∙ sym es) (index j l) in
            subst (OnChain work n j) (sym (ei ∙ link_is n (get_or work (s * 32 + 24) 0) (chain_bound work n c))) c;
      }

  module _ (i : ℕ) (w : Walking tags work n a i) where
    pub walk_end : i ≤ 0 → false ≡ any (eq_annotation a) (annotations_in tags work n)
    unfolding annotations_in
    walk_end l =
        not_T _
        (λ t.
        let (x, ix, tx) = in_any (eq_annotation a) (tab n (annotation_in tags work)) t in
        let (j, lj, e) = in_tab n (annotation_in tags work) ix in
        chain_none work n (w.left j lj (subst (λ z. T (eq_annotation a z)) e tx)) (omega arith))

    module _ (r : Bool) (some : 0 < i) (er : r ≡ eq_annotation a (annotation_in tags work (i - 1))) where
      pub walk_found : r ≡ true → true ≡ any (eq_annotation a) (annotations_in tags work n)
      unfolding annotations_in
      walk_found t =
          let h = w.inside in
          sym ((T_true _).0 (any_in (eq_annotation a) (tab_in n (annotation_in tags work) (i - 1) (omega arith)) (T_of _ r er t)))

      pub walk_on : (i' : ℕ) → r ≡ false → i' ≡ link_of (i - 1) (get_or work ((i - 1) * 32 + 25) 0) → Walking tags work n a i'
      unfolding next_in cell_of
      walk_on i' f e =
          record {
            inside = let h = w.inside in let b = link_bound (i - 1) (get_or work ((i - 1) * 32 + 25) 0) in rw e (omega arith);
            left = λ j l t.
                let rest = chain_rest work n (w.left j l t) (i - 1) (omega arith) (λ q. subst T (sym er ∙ f) (subst (λ z. T (eq_annotation a (annotation_in tags work z))) q t)) in
                subst (OnChain work n j) (sym (e ∙ link_is (i - 1) (get_or work ((i - 1) * 32 + 25) 0) rest.0)) rest.1;
          }

pub link_some : (most x y : ℕ) → x ≡ y → x ≤ most → x ≡ link_of most y
link_some most x y e l = rw (← e) (sym (link_is most x l))

pub link_none : (most x y : ℕ) → x ≡ y → most < x → 0 ≡ link_of most y
link_none most x y e l = rw (← e) (sym (ap (λ b. cond b x 0) (lt-leb x most l)))

pub ruleset links = (link_some, link_none, rules)

-- a new first of a slot
pub linked : (work : List ℕ) (s n v : ℕ) → n * 32 + 32 ≤ length work → s * 32 + 32 ≤ length work → v ≡ link_of n (get_or work (s * 32 + 24) 0) → Linked work s n (set (set work (n * 32 + 25) v) (s * 32 + 24) (n + 1))
unfolding first_in next_in cell_of
linked work s n v ln ls e =
    let mid : List ℕ = set work (n * 32 + 25) v in
    let long = length-set work (n * 32 + 25) v in
    record {
      cells = λ j k l. get_or-set_other mid (s * 32 + 24) (j * 32 + k) (n + 1) 0 (λ q. omega arith) ∙ get_or-set_other work (n * 32 + 25) (j * 32 + k) v 0 (λ q. omega arith);
      next = get_or-set_other mid (s * 32 + 24) (n * 32 + 25) (n + 1) 0 (λ q. omega arith) ∙ get_or-set_same work (n * 32 + 25) v 0 (omega arith) ∙ e;
      nexts = λ j other. get_or-set_other mid (s * 32 + 24) (j * 32 + 25) (n + 1) 0 (λ q. omega arith) ∙ get_or-set_other work (n * 32 + 25) (j * 32 + 25) v 0 (λ q. other (omega arith));
      first = get_or-set_same mid (s * 32 + 24) (n + 1) 0 (omega arith) ∙ add-one n;
      firsts = λ t other. get_or-set_other mid (s * 32 + 24) (t * 32 + 24) (n + 1) 0 (λ q. other (omega arith)) ∙ get_or-set_other work (n * 32 + 25) (t * 32 + 24) v 0 (λ q. omega arith);
    }

pub ruleset walks = (walk_start, walk_end, walk_found, walk_on, rules)
