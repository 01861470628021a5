-- Where each tag has exactly one state and no state has two tags, acceptance is that of source document 000. Assumes nothing.
use mathlib.Core.Path.{◌≡◌, refl, sym, ap, ◌∙◌, subst}
use mathlib.Core.Logic.{◌↔◌}
use mathlib.Core.List.{List, [], ◌∷◌, ◌++◌}
use mathlib.Core.Bool.{false, ◌&&◌}
use mathlib.Core.Option.{Option, none, some, some-injective}
use Prim.Native.Nat.{ℕ, ◌<◌}
use native.Mathlib.Omega.{arith}
use lib.Dec.{T}
use lib.Seq.{ext_get_or}
use lib.ListN.{length, get_or}
use Rattle.model.specs.Lists.{tab, any_below}
use Rattle.model.specs.Tree.{Tree, at, children_of}
use Rattle.model.specs.Automaton.{Automaton, Wellformed, OneRule, bit?, carries?, forgets?}
use Rattle.model.specs.Run.{Move, Forgets, Accepts}
use Rattle.model.specs.Table.{Row, tree_of, SoundTable}
use Rattle.model.specs.Fit.{FitTree}
use Rattle.model.specs.Papers.{letter_at, Ground, rigid_of, Papers}
use Rattle.model.specs.Isolating.{States, IsIsolating, Isolates, isolated_by, isolating_of}
use Rattle.model.proofs.Members.{T_and, and_T}
use Rattle.model.proofs.Below.{any_below_lem, below_any}
use Rattle.model.proofs.Tab.{tab_at, length_tab}
use Rattle.model.proofs.Papers.{letter_symbol, rigid_automaton, fit_ground, of_ground}
use Rattle.model.proofs.Forgetting.{rule_forgets}
use Rattle.model.proofs.BuiltTable.{fit_tree}

module _ (A : Automaton) (w : Wellformed A) where
  -- Ours is an automaton of the source.
  pub isolating_automaton : IsIsolating (isolating_of A)
  isolating_automaton =
      let o = rigid_automaton A w in
      record {
        rigid_automaton =
            record {
              finite_signature = o.finite_signature;
              one_arity = o.one_arity;
              finite_states = o.finite_states;
              rigid_states = o.rigid_states;
              final_states = o.final_states;
              over_symbols = λ f qs q (I, x). x.0;
              over_states = λ f qs q (I, x). let (h, r, ir, es, ec, et, ei) = x in o.over_states f qs q (h, r, ir, es, ec, et);
            };
        isolates_rigid = λ f qs I q (h, r, ir, es, ec, et, ei) z i.
            let (k, l, both) = any_below_lem A.tags (λ k. carries? A z k && forgets? r k) (subst T (ei z) i) in
            (k, l, (T_and (carries? A z k) (forgets? r k) both).0);
      }

  module _ (once : OneRule A) (h : Papers A) (t : Tree) where
    to_source : FitTree A t → Accepts A t → Isolates (isolating_of A) t
    to_source fits a =
        record {
          ground = ground;
          labels = a.run;
          isolated = isolated;
          run =
              record {
                run =
                    record {
                      states = λ p u e. let s = a.runs p u e in subst (◌< length A.states) s.leads (w.targets s.rule s.listed);
                      rules = λ p u e. rule_at_lem p u e (a.runs p u e);
                    };
                equal = λ p₁ p₂ u₁ u₂ e₁ e₂ same (k, l, c) g.
                    a.consistent k l p₁ p₂ u₁ u₂ e₁ e₂ c (subst (λ q. T (carries? A q k)) same c)
                    (λ v f. g v f.tree f.stands (subst T (sym (isolated_is v f.tree f.stands f.move (a.run p₁)))
                    (below_any A.tags (λ k. carries? A (a.run p₁) k && forgets? f.move.rule k) k l (and_T (carries? A (a.run p₁) k) (forgets? f.move.rule k) c f.forgotten))));
              };
          success = a.accepting;
        }
      where
        ground : Ground (rigid_of A) t
        ground = fit_ground A w t fits

        -- what the rule at a position isolates
        isolated_at : (v : List ℕ) (o : Option Tree) → at t v ≡ o → States
        isolated_at v none e q = false
        isolated_at v (some u) e q = isolated_by A (a.runs v u e).rule q

        isolated : List ℕ → States
        isolated v = isolated_at v (at t v) refl

        same_forget : (v : List ℕ) (u u' : Tree) (e : u ≡ u') (s : Move A a.run v u) → (subst (Move A a.run v) e s).rule.forget ≡ s.rule.forget
        same_forget v u u' e s = refl

        isolated_is : (v : List ℕ) (u : Tree) → at t v ≡ some u → (s : Move A a.run v u) (q : ℕ) → isolated v q ≡ isolated_by A s.rule q
        isolated_is v u e s q = go (at t v) refl e
          where
            go : (o : Option Tree) (eo : at t v ≡ o) → o ≡ some u → isolated_at v o eo q ≡ isolated_by A s.rule q
            go none eo eu = let z : ◌≡◌ {A = ℕ} 0 1 = cc in let y : ⊥ = omega arith in absurd y
            go (some u') eo eu =
                let here = some-injective u u' (sym eu) in
                ap (λ m. any_below A.tags (λ k. carries? A q k && bit? m k)) (rule_forgets A once (a.runs v u' eo) (subst (Move A a.run v) here s) ∙ same_forget v u u' here s)

        rule_at_lem : (p : List ℕ) (u : Tree) → at t p ≡ some u → Move A a.run p u → (isolating_of A).rule (letter_at u) (tab (length (children_of u)) (λ j. a.run (p ++ j ∷ []))) (isolated p) (a.run p)
        rule_at_lem p u e s = (
          subst ((rigid_of A).signature (letter_at u)) (sym (length_tab (length (children_of u)) (λ j. a.run (p ++ j ∷ [])))) (ground p u e),
          s.rule,
          s.listed,
          s.same_symbol ∙ letter_symbol u,
          ext_get_or 0 s.rule.children _ (s.as_many ∙ sym (length_tab _ _))
              (λ j l. let h : j < length (children_of u) = omega (arith, s.as_many) in s.from j h ∙ sym (tab_at 0 _ _ j h)),
          s.leads,
          isolated_is p u e s,
        )

    of_source : Isolates (isolating_of A) t → Accepts A t
    of_source m =
        record {
          run = m.labels;
          runs = λ p u e. move p u (m.run.run.rules p u e);
          accepting = m.success;
          consistent = λ k l p p' u u' e e' c c' g.
              m.run.equal p p' u u' e e' (h.one_state k l (m.labels p) (m.labels p') c c') (k, l, c)
              (λ v z ez i. g v (forgotten k l (m.labels p) c v z ez i));
        }
      where
        move : (p : List ℕ) (u : Tree) → (isolating_of A).rule (letter_at u) (tab (length (children_of u)) (λ j. m.labels (p ++ j ∷ []))) (m.isolated p) (m.labels p) → Move A m.labels p u
        move p u (f, r, ir, es, ec, et, ei) =
            record {
              rule = r;
              listed = ir;
              same_symbol = es ∙ sym (letter_symbol u);
              leads = et;
              as_many = ap length ec ∙ length_tab _ _;
              from = λ j h. ap (λ (l : List ℕ). get_or l j 0) ec ∙ tab_at 0 _ _ j h;
            }

        forgotten : (k : ℕ) → k < A.tags → (q : ℕ) → T (carries? A q k) → (v : List ℕ) (u : Tree) → at t v ≡ some u → T (m.isolated v q) → Forgets A t m.labels k v
        forgotten k l q c v u e i = go (m.run.run.rules v u e)
          where
            go : (isolating_of A).rule (letter_at u) (tab (length (children_of u)) (λ j. m.labels (v ++ j ∷ []))) (m.isolated v) (m.labels v) → Forgets A t m.labels k v
            go (f, r, ir, es, ec, et, ei) =
                let (k', l', both) = any_below_lem A.tags (λ k. carries? A q k && forgets? r k) (subst T (ei q) i) in
                let (c', o) = T_and (carries? A q k') (forgets? r k') both in
                record { tree = u; stands = e; move = move v u (f, r, ir, es, ec, et, ei); forgotten = subst (λ z. T (forgets? r z)) (h.one_tag q k' k l' l c' c) o }

    -- THE SOURCE DECIDES: a tree whose scalars are those of rows is accepted if and only if the isolating automaton has it in its language, and the language has no other trees.
    pub isolating : (FitTree A t × Accepts A t) ↔ Isolates (isolating_of A) t
    isolating = (λ (f, a). to_source f a, λ m. (of_ground A w t m.ground, of_source m))

  -- The same of a document: its tree is such a tree.
  pub isolating_document : OneRule A → Papers A → (rows : List Row) → SoundTable A rows → Accepts A (tree_of rows) ↔ Isolates (isolating_of A) (tree_of rows)
  isolating_document once h rows sound = (λ a. (isolating once h (tree_of rows)).0 (fit_tree A rows sound, a), λ m. ((isolating once h (tree_of rows)).1 m).1)
