-- The index finds an equal annotation exactly where there is one, and a new annotation keeps it whole; the slots may be any. Assumes nothing.
use mathlib.Core.Path.{◌≡◌, sym, ap, ◌∙◌, subst}
use mathlib.Core.List.{List}
use mathlib.Core.Bool.{Bool, true, false}
use Prim.Native.Nat.{ℕ, ◌+◌, ◌*◌, ◌-◌, ◌<◌, ◌≤◌}
use native.Mathlib.Omega.{arith}
use native.Mathlib.Numerals.{add-one}
use borrow.Author.Rules.{rules}
use lib.Dec.{T}
use lib.ListN.{length, get_or, set}
use lib.Seq.{get_or-set_same, get_or-set_other}
use Rattle.model.specs.Lists.{any, tab}
use Rattle.model.specs.Annotation.{Annotation, eq_annotation}
use Rattle.model.proofs.Members.{T_true, in_any, any_in, eq_annotation→eq}
use Rattle.model.proofs.Tab.{in_tab, tab_in}
use Rattle.membership.specs.Cells.{cell_of, annotation_in, annotations_in}
use Rattle.judging.specs.Cells.{ShortIn}
use Rattle.membership.specs.Index.{slot_of, next_in, link_of, OnChain}
use Rattle.judging.specs.Index.{first_in, Indexed, Linked}
use Rattle.membership.proofs.Chain.{not_T, T_of, link_bound, link_is, chain_bound, chain_none, chain_rest, Walking}

module _ (tags room : ℕ) (work : List ℕ) (n : ℕ) (a : Annotation) where
  pub walk_start : (slots : List ℕ) (s i : ℕ) → Indexed tags room work slots n → s ≡ slot_of room a → i ≡ link_of n (get_or slots s 0) → Walking tags work n a i
  walk_start slots s i index es ei =
      record {
        inside = rw ei (link_bound n (first_in slots s));
        left = λ j l t.
            let c = subst (λ z. OnChain work n j (first_in slots z)) (ap (slot_of room) (sym (eq_annotation→eq a (annotation_in tags work j) t)) ∙ sym es) (index.chains j l) in
            subst (OnChain work n j) (sym (ei ∙ link_is n (first_in slots s) (chain_bound work n c))) c;
      }

  module _ (i : ℕ) (w : Walking tags work n a i) where
    pub walk_short : (slots : List ℕ) → Indexed tags room work slots n → 0 < i → ShortIn tags work (i - 1)
    walk_short slots index l = index.short (i - 1) (let h = w.inside in omega arith)

    pub walk_end : i ≤ 0 → false ≡ any (eq_annotation a) (annotations_in tags work n)
    unfolding annotations_in
    walk_end l =
        not_T _
        (λ t.
        let (x, ix, tx) = in_any (eq_annotation a) (tab n (annotation_in tags work)) t in
        let (j, lj, e) = in_tab n (annotation_in tags work) ix in
        chain_none work n (w.left j lj (subst (λ z. T (eq_annotation a z)) e tx)) (omega arith))

    module _ (r : Bool) (some : 0 < i) (er : r ≡ eq_annotation a (annotation_in tags work (i - 1))) where
      pub walk_found : r ≡ true → true ≡ any (eq_annotation a) (annotations_in tags work n)
      unfolding annotations_in
      walk_found t =
          let h = w.inside in
          sym ((T_true _).0 (any_in (eq_annotation a) (tab_in n (annotation_in tags work) (i - 1) (omega arith)) (T_of _ r er t)))

      pub walk_on : (i' : ℕ) → r ≡ false → i' ≡ link_of (i - 1) (get_or work ((i - 1) * 32 + 25) 0) → Walking tags work n a i'
      unfolding next_in cell_of
      walk_on i' f e =
          record {
            inside = let h = w.inside in let b = link_bound (i - 1) (get_or work ((i - 1) * 32 + 25) 0) in rw e (omega arith);
            left = λ j l t.
                let rest = chain_rest work n (w.left j l t) (i - 1) (omega arith) (λ q. subst T (sym er ∙ f) (subst (λ z. T (eq_annotation a (annotation_in tags work z))) q t)) in
                subst (OnChain work n j) (sym (e ∙ link_is (i - 1) (get_or work ((i - 1) * 32 + 25) 0) rest.0)) rest.1;
          }

-- a new first of a slot
pub linked : (work slots : List ℕ) (s n v : ℕ) → n * 32 + 32 ≤ length work → s < length slots → v ≡ link_of n (first_in slots s) → Linked work slots s n (set work (n * 32 + 25) v) (set slots s (n + 1))
unfolding next_in cell_of
linked work slots s n v ln ls e =
    record {
      cells = λ j k l. get_or-set_other work (n * 32 + 25) (j * 32 + k) v 0 (λ q. omega arith);
      next = get_or-set_same work (n * 32 + 25) v 0 (omega arith) ∙ e;
      nexts = λ j other. get_or-set_other work (n * 32 + 25) (j * 32 + 25) v 0 (λ q. other (omega arith));
      first = get_or-set_same slots s (n + 1) 0 ls ∙ add-one n;
      firsts = λ t other. get_or-set_other slots s t (n + 1) 0 other;
    }

pub ruleset walks = (walk_start, walk_short, walk_end, walk_found, walk_on, rules)
