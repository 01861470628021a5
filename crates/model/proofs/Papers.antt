-- Where each tag has exactly one state, no state has two tags and nothing is forgotten, acceptance is that of source document 004. Assumes nothing.
use mathlib.Core.Path.{◌≡◌, refl, sym, ap, ◌∙◌, subst}
use mathlib.Core.Logic.{⊎_elim, ◌↔◌}
use mathlib.Core.List.Memᴰ.{cases_cons as in_cons}
use mathlib.Core.List.{List, [], ◌∷◌, ◌++◌, Memᴰ as In}
use mathlib.Core.Bool.{true, ◌&&◌, not}
use Prim.Native.Nat.{ℕ, ◌+◌, ◌^◌, ◌<◌}
use native.Mathlib.Omega.{arith}
use native.Mathlib.Decide.{dec_lt}
use lib.Dec.{T, T_not, not_T}
use lib.Seq.{ext_get_or}
use lib.ListN.{length, get_or, get_or-eq_default}
use Rattle.model.specs.Lists.{tab, concat_map, all_below, any_below}
use Rattle.model.specs.Tree.{Tree, node, symbol_of, children_of}
use Rattle.model.specs.Automaton.{State, Automaton, Wellformed, ForgetsNothing, no_state, final?, carries?}
use Rattle.model.specs.Run.{Move, Accepts}
use Rattle.model.specs.Table.{Row, tree_of, SoundTable}
use Rattle.model.specs.Fit.{FitNode, FitTree}
use Rattle.model.specs.Witness.{Apart, apart?}
use Rattle.model.specs.Papers.{Letter, letter_at, Rigid, IsRigid, Ground, Recognizes, rigid_of, Papers, tagged?, one_tag?, papers?}
use Rattle.model.proofs.Members.{T_and, and_T, T_true, concat_map_in}
use Rattle.model.proofs.Below.{all_at, all_of, any_below_lem, below_any}
use Rattle.model.proofs.Tab.{tab_at, length_tab, tab_in}
use Rattle.model.proofs.Scalars.{few_scalars}
use Rattle.model.proofs.Apart.{carried, apart_of, apart_exactly}
use Rattle.model.proofs.Forgetting.{consistent_equal, equal_consistent}
use Rattle.model.proofs.BuiltTable.{at_fit, fit_at, fit_tree}

pub letter_symbol : (u : Tree) → symbol_of u ≡ (letter_at u).symbol
letter_symbol (node s k p f) = refl

final_inside : (A : Automaton) (q : ℕ) → T (final? A q) → q < length A.states
final_inside A q h = go (dec_lt q (length A.states))
  where
    go : Dec (q < length A.states) → q < length A.states
    go (yes l) = l
    go (no l) = absurd (subst (λ (s : State). T s.final) (get_or-eq_default A.states no_state (omega arith)) h)

module _ (M : Rigid) (r : IsRigid M) where
  -- WHAT FINITE MEANS: lists have all states and all letters
  pub all_states : (qs : List ℕ) × ((q : ℕ) → M.state q → In q qs)
  all_states = let (n, h) = r.finite_states in (tab n (λ q. q), λ q s. tab_in n (λ q. q) q (h q s))

  pub all_letters : (fs : List Letter) × ((f : Letter) (k : ℕ) → M.signature f k → In f fs)
  all_letters =
      let (n, h) = r.finite_signature in
      (letters n, λ f k s. let (a, b, c) = h f k s in letter_in n f a b c)
    where
      letters : ℕ → List Letter
      letters n = concat_map (λ s. concat_map (λ k. tab n (λ p. record { symbol = s; kind = k; payload = p })) (tab n (λ k. k))) (tab n (λ s. s))

      letter_in : (n : ℕ) (f : Letter) → f.symbol < n → f.kind < n → f.payload < n → In f (letters n)
      letter_in n f a b c =
          concat_map_in _ (tab_in n (λ s. s) f.symbol a) (concat_map_in _ (tab_in n (λ k. k) f.kind b) (tab_in n (λ p. record { symbol = f.symbol; kind = f.kind; payload = p }) f.payload c))

module _ (A : Automaton) where
  letter_fit : (u : Tree) → FitNode A u ↔ (rigid_of A).signature (letter_at u) (length (children_of u))
  letter_fit (node s k p f) = (λ h. h, λ h. h)

module _ (A : Automaton) (w : Wellformed A) where
  -- Ours is an automaton of the paper.
  pub rigid_automaton : IsRigid (rigid_of A)
  rigid_automaton =
      record {
        finite_signature = (
          length A.arities + 2 ^ 64,
          λ f k h.
              let s = h.known in
              let (a, b) = few_scalars f.kind f.payload h.scalar in
              (omega arith, omega arith, omega arith),
        );
        one_arity = λ f k l h g. h.as_many ∙ sym g.as_many;
        finite_states = (length A.states, λ q l. l);
        rigid_states = λ q (k, l, c). carried A q k c;
        final_states = final_inside A;
        over_symbols = λ f qs q (h, r, ir, es, ec, et). h;
        over_states = λ f qs q (h, r, ir, es, ec, et) p m.
            ⊎_elim
            (λ e. subst (◌< length A.states) (et ∙ sym e) (w.targets r ir))
            (λ n. w.children r ir p (subst (In p) (sym ec) n))
            (in_cons m);
      }

  module _ (t : Tree) where
    -- a tree that a table may have is a ground term over the letters
    pub fit_ground : FitTree A t → Ground (rigid_of A) t
    fit_ground fits p u e = (letter_fit A u).0 (fit_at A t fits p u e)

    to_paper : ForgetsNothing A → FitTree A t → Accepts A t → Recognizes (rigid_of A) t
    to_paper none fits a =
        record {
          ground = ground;
          labels = a.run;
          run =
              record {
                run =
                    record {
                      states = λ p u e. let s = a.runs p u e in subst (◌< length A.states) s.leads (w.targets s.rule s.listed);
                      rules = λ p u e. rule_at_lem p u (ground p u e) (a.runs p u e);
                    };
                equal = λ p₁ p₂ u₁ u₂ e₁ e₂ same (k, l, c). (consistent_equal A none t a.run).0 a.consistent k l p₁ p₂ u₁ u₂ e₁ e₂ c (subst (λ q. T (carries? A q k)) same c);
              };
          success = a.accepting;
        }
      where
        ground : Ground (rigid_of A) t
        ground = fit_ground fits

        rule_at_lem : (p : List ℕ) (u : Tree) → (rigid_of A).signature (letter_at u) (length (children_of u)) → Move A a.run p u → (rigid_of A).rule (letter_at u) (tab (length (children_of u)) (λ j. a.run (p ++ j ∷ []))) (a.run p)
        rule_at_lem p u h s = (
          subst ((rigid_of A).signature (letter_at u)) (sym (length_tab (length (children_of u)) (λ j. a.run (p ++ j ∷ [])))) h,
          s.rule,
          s.listed,
          s.same_symbol ∙ letter_symbol u,
          ext_get_or 0 s.rule.children _ (s.as_many ∙ sym (length_tab _ _))
              (λ j l. let h : j < length (children_of u) = omega (arith, s.as_many) in s.from j h ∙ sym (tab_at 0 _ _ j h)),
          s.leads,
        )

    -- a ground term over the letters is a tree that a table may have
    pub of_ground : Ground (rigid_of A) t → FitTree A t
    of_ground g = at_fit A t (λ p u e. (letter_fit A u).1 (g p u e))

    -- of the two conditions on tags only this is needed: no tag has two states
    of_paper : Apart A → Recognizes (rigid_of A) t → Accepts A t
    of_paper one m =
        record {
          run = m.labels;
          runs = λ p u e. move p u (m.run.run.rules p u e);
          accepting = m.success;
          consistent = equal_consistent A t m.labels (λ k l p p' u u' e e' c c'. m.run.equal p p' u u' e e' (one k l (m.labels p) (m.labels p') c c') (k, l, c));
        }
      where
        move : (p : List ℕ) (u : Tree) → (rigid_of A).rule (letter_at u) (tab (length (children_of u)) (λ j. m.labels (p ++ j ∷ []))) (m.labels p) → Move A m.labels p u
        move p u (h, r, ir, es, ec, et) =
            record {
              rule = r;
              listed = ir;
              same_symbol = es ∙ sym (letter_symbol u);
              leads = et;
              as_many = ap length ec ∙ length_tab _ _;
              from = λ j h. ap (λ (l : List ℕ). get_or l j 0) ec ∙ tab_at 0 _ _ j h;
            }

  -- Where each tag has exactly one state, no state has two tags and nothing is forgotten, the paper decides: a tree whose scalars are those of rows is accepted
  -- if and only if the rigid tree automaton has it in its language, and the language has no other trees.
  pub papers : Papers A → ForgetsNothing A → (t : Tree) → (FitTree A t × Accepts A t) ↔ Recognizes (rigid_of A) t
  papers h none t = (λ (f, a). to_paper t none f a, λ m. (of_ground t m.ground, of_paper t h.one_state m))

  -- The same of a document: its tree is such a tree.
  pub papers_document : Papers A → ForgetsNothing A → (rows : List Row) → SoundTable A rows → Accepts A (tree_of rows) ↔ Recognizes (rigid_of A) (tree_of rows)
  papers_document h none rows sound = (λ a. (papers h none (tree_of rows)).0 (fit_tree A rows sound, a), λ m. ((papers h none (tree_of rows)).1 m).1)

-- THE TEST SAYS WHAT IT SHOULD: each tag has exactly one state, and no state has two tags
module _ (A : Automaton) where
  one_of : T (one_tag? A) → (q k k' : ℕ) → k < A.tags → k' < A.tags → T (carries? A q k) → T (carries? A q k') → k ≡ k'
  one_of h q k k' l l' c c' = go (dec_lt k k') (dec_lt k' k)
    where
      never : (i j : ℕ) → i < j → j < A.tags → T (carries? A q i) → T (carries? A q j) → ⊥
      never i j m n ci cj =
          T_not (carries? A q i && carries? A q j)
          (all_at j (λ i. not (carries? A q i && carries? A q j)) (all_at A.tags (λ k. all_below k (λ j. not (carries? A q j && carries? A q k))) (all_at (length A.states) (λ q. all_below A.tags (λ k. all_below k (λ j. not (carries? A q j && carries? A q k)))) h q (carried A q j cj)) j n) i m)
          (and_T (carries? A q i) (carries? A q j) ci cj)

      go : Dec (k < k') → Dec (k' < k) → k ≡ k'
      go (yes m) d = absurd (never k k' m l' c c')
      go (no m) (yes n) = absurd (never k' k n l c' c)
      go (no m) (no n) = omega arith

  papers_of : T (papers? A) → Papers A
  papers_of h =
      let (a, r) = T_and (tagged? A) (apart? A && one_tag? A) h in
      let (b, c) = T_and (apart? A) (one_tag? A) r in
      record {
        some_state = λ k l. any_below_lem (length A.states) (λ q. carries? A q k) (all_at A.tags (λ k. any_below (length A.states) (λ q. carries? A q k)) a k l);
        one_state = apart_of A b;
        one_tag = one_of c;
      }

  of_papers : Papers A → T (papers? A)
  of_papers h =
      and_T (tagged? A) (apart? A && one_tag? A)
      (all_of A.tags _ (λ k l. let (q, m, c) = h.some_state k l in below_any (length A.states) (λ q. carries? A q k) q m c))
      (and_T (apart? A) (one_tag? A)
      ((T_true (apart? A)).1 ((apart_exactly A).1 h.one_state))
      (all_of (length A.states) _
      (λ q l. all_of A.tags _
      (λ k m. all_of k _
      (λ j n. not_T (carries? A q j && carries? A q k)
      (λ c.
      let (cj, ck) = T_and (carries? A q j) (carries? A q k) c in
      let e = h.one_tag q j k (omega arith) m cj ck in
      omega arith))))))

  pub papers_exactly : (papers? A ≡ true) ↔ Papers A
  papers_exactly = (λ e. papers_of ((T_true (papers? A)).1 e), λ h. (T_true (papers? A)).0 (of_papers h))
