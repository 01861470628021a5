-- Where tags are forgotten: at the root, below a child, and between two positions. Assumes nothing.
use mathlib.Core.Path.{◌≡◌, refl, sym, ◌∙◌, subst}
use mathlib.Core.Logic.{◌↔◌}
use mathlib.Core.Bool.{true}
use mathlib.Core.Option.{some, some-injective}
use mathlib.Core.List.{List, [], ◌∷◌, ◌++◌}
use Prim.Native.Nat.{ℕ, ◌%◌, ◌^◌}
use native.Mathlib.Nat.{zero-div}
use native.Mathlib.Omega.{arith}
use lib.Dec.{T, eqb, eqb→eq}
use lib.Seq.{ext_get_or}
use lib.ListN.{length}
use Rattle.model.specs.Tree.{Tree, at}
use Rattle.model.specs.Automaton.{Rule, Automaton, OneRule, ForgetsNothing, forgets_nothing?, bit?, forgets?}
use Rattle.model.specs.Run.{Labelling, Move, Above, Forgets, Together, Consistent, AllEqual, Accepts, AcceptsPlain}
use Rattle.model.specs.Annotation.{Memory, kept}
use Rattle.model.specs.Leaves.{Remembered}
use Rattle.model.proofs.Members.{T_true, all_in, in_all}
use Rattle.model.proofs.Derivable.{kept_at, kept_width}

-- the same move, seen from a child
abbrev pub move_down : {A : Automaton} {ρ : Labelling} {n : ℕ} {v : List ℕ} {u : Tree} → Move A ρ (n ∷ v) u → Move A (λ p. ρ (n ∷ p)) v u
move_down s = record { rule = s.rule; listed = s.listed; same_symbol = s.same_symbol; leads = s.leads; as_many = s.as_many; from = s.from }

abbrev pub move_up : {A : Automaton} {ρ : Labelling} {n : ℕ} {v : List ℕ} {u : Tree} → Move A (λ p. ρ (n ∷ p)) v u → Move A ρ (n ∷ v) u
move_up s = record { rule = s.rule; listed = s.listed; same_symbol = s.same_symbol; leads = s.leads; as_many = s.as_many; from = s.from }

module _ (A : Automaton) where
  -- the states tell what the rule at a position forgets
  pub rule_forgets : OneRule A → {ρ : Labelling} {p : List ℕ} {u : Tree} (s s' : Move A ρ p u) → s.rule.forget ≡ s'.rule.forget
  rule_forgets once s s' =
      once s.rule s'.rule s.listed s'.listed (s.same_symbol ∙ sym s'.same_symbol)
      (ext_get_or 0 s.rule.children s'.rule.children (s.as_many ∙ sym s'.as_many) (λ j l. s.from j (omega (arith, s.as_many)) ∙ sym (s'.from j (omega (arith, s.as_many)))))
      (s.leads ∙ sym s'.leads)

  -- a tag is forgotten at a position exactly where the rule there forgets it
  pub forgets_here : OneRule A → (t : Tree) (ρ : Labelling) (k : ℕ) (v : List ℕ) (u : Tree) → at t v ≡ some u → (s : Move A ρ v u) → Forgets A t ρ k v ↔ T (forgets? s.rule k)
  forgets_here once t ρ k v u e s = (
    λ f.
        subst (λ z. T (bit? z k))
        (rule_forgets once f.move (subst (Move A ρ v) (some-injective u f.tree (sym e ∙ f.stands)) s) ∙ same u f.tree (some-injective u f.tree (sym e ∙ f.stands)) s)
        f.forgotten,
    λ h. record { tree = u; stands = e; move = s; forgotten = h },
  )
    where
      same : (u u' : Tree) (q : u ≡ u') (s : Move A ρ v u) → (subst (Move A ρ v) q s).rule.forget ≡ s.rule.forget
      same u u' q s = refl

  -- one child of t, at number n
  module _ (t u : Tree) (ρ : Labelling) (n : ℕ) (is : (v : List ℕ) → at t (n ∷ v) ≡ at u v) where
    pub forgets_down : {k : ℕ} {v : List ℕ} → Forgets A t ρ k (n ∷ v) → Forgets A u (λ p. ρ (n ∷ p)) k v
    forgets_down {v = v} f = record { tree = f.tree; stands = sym (is v) ∙ f.stands; move = move_down f.move; forgotten = f.forgotten }

    pub forgets_up : {k : ℕ} {v : List ℕ} → Forgets A u (λ p. ρ (n ∷ p)) k v → Forgets A t ρ k (n ∷ v)
    forgets_up {v = v} f = record { tree = f.tree; stands = is v ∙ f.stands; move = move_up f.move; forgotten = f.forgotten }

    forgets_at : {k : ℕ} {v : List ℕ} (m : ℕ) → m ≡ n → Forgets A t ρ k (m ∷ v) → Forgets A u (λ p. ρ (n ∷ p)) k v
    forgets_at {k = k} {v = v} m e f = forgets_down (subst (λ z. Forgets A t ρ k (z ∷ v)) e f)

    -- what is remembered below the child, at the root too, unless the root forgets it; and back
    pub remembered_up : (k : ℕ) (p : List ℕ) → (Forgets A t ρ k [] → ⊥) → Remembered A u (λ p. ρ (n ∷ p)) k p → Remembered A t ρ k (n ∷ p)
    remembered_up k p root g [] f a = root f
    remembered_up k p root g (m ∷ v) f a = g v (forgets_at m a.0 f) a.1

    pub remembered_down : (k : ℕ) (p : List ℕ) → Remembered A t ρ k (n ∷ p) → Remembered A u (λ p. ρ (n ∷ p)) k p
    remembered_down k p g v f a = g (n ∷ v) (forgets_up f) (refl, a)

    -- two positions below one child
    pub together_up : (k : ℕ) (p p' : List ℕ) → Together A u (λ p. ρ (n ∷ p)) k p p' → Together A t ρ k (n ∷ p) (n ∷ p')
    together_up k p p' g [] f = (λ a. tt, λ a. tt)
    together_up k p p' g (m ∷ v) f = (λ a. (a.0, (g v (forgets_at m a.0 f)).0 a.1), λ a. (a.0, (g v (forgets_at m a.0 f)).1 a.1))

    pub together_down : (k : ℕ) (p p' : List ℕ) → Together A t ρ k (n ∷ p) (n ∷ p') → Together A u (λ p. ρ (n ∷ p)) k p p'
    together_down k p p' g v f = (λ a. ((g (n ∷ v) (forgets_up f)).0 (refl, a)).1, λ a. ((g (n ∷ v) (forgets_up f)).1 (refl, a)).1)

    -- a position below this child and one elsewhere: together only where the first is remembered
    pub together_kept : (k m : ℕ) (p p' : List ℕ) → (n ≡ m → ⊥) → ((v : List ℕ) → Forgets A t ρ k v → Above v (n ∷ p) → Above v (m ∷ p')) → Remembered A u (λ p. ρ (n ∷ p)) k p
    together_kept k m p p' other g v f a = other (g (n ∷ v) (forgets_up f) (refl, a)).0

    pub consistent_down : Consistent A t ρ → Consistent A u (λ p. ρ (n ∷ p))
    consistent_down con k lk p p' w w' e e' c c' g = con k lk (n ∷ p) (n ∷ p') w w' (is p ∙ e) (is p' ∙ e') c c' (together_up k p p' g)

  -- two positions that are remembered
  pub both_remembered : (t : Tree) (ρ : Labelling) (k : ℕ) (p p' : List ℕ) → Remembered A t ρ k p → Remembered A t ρ k p' → Together A t ρ k p p'
  both_remembered t ρ k p p' g g' v f = (λ a. absurd (g v f a), λ a. absurd (g' v f a))

  -- .. below two children, equal or not
  pub below_remembered : (t u u' : Tree) (ρ : Labelling) (n n' : ℕ) → ((v : List ℕ) → at t (n ∷ v) ≡ at u v) → ((v : List ℕ) → at t (n' ∷ v) ≡ at u' v) → (k : ℕ) (p p' : List ℕ) → Remembered A u (λ p. ρ (n ∷ p)) k p → Remembered A u' (λ p. ρ (n' ∷ p)) k p' → Together A t ρ k (n ∷ p) (n' ∷ p')
  below_remembered t u u' ρ n n' is is' k p p' g g' [] f = (λ a. tt, λ a. tt)
  below_remembered t u u' ρ n n' is is' k p p' g g' (m ∷ v) f = (λ a. absurd (g v (forgets_at t u ρ n is m a.0 f) a.1), λ a. absurd (g' v (forgets_at t u' ρ n' is' m a.0 f) a.1))

  -- THE OLD DEFINITION: where no rule forgets, a run is consistent exactly where all subtrees of a tag are equal.
  pub nothing_forgotten : ForgetsNothing A → (t : Tree) (ρ : Labelling) (k : ℕ) (v : List ℕ) → Forgets A t ρ k v → ⊥
  nothing_forgotten none t ρ k v f = no_bit k (subst (λ z. T (bit? z k)) (none f.move.rule f.move.listed) f.forgotten)
    where
      no_bit : (k : ℕ) → T (bit? 0 k) → ⊥
      no_bit k h = subst (λ x. T (eqb (x % 2) 1)) (zero-div (2 ^ k)) h

  pub not_forgotten : (r : Rule) → r.forget ≡ 0 → (k : ℕ) → T (forgets? r k) → ⊥
  not_forgotten r e k h = subst (λ x. T (eqb (x % 2) 1)) (zero-div (2 ^ k)) (subst (λ z. T (bit? z k)) e h)

  -- .. and no memory loses a place
  pub kept_all : (r : Rule) → r.forget ≡ 0 → (m : Memory) → length m ≡ A.tags → kept A r m ≡ m
  kept_all r e m w = ext_get_or 0 (kept A r m) m (kept_width A r m ∙ sym w) (λ k l. kept_at A r m k (omega (arith, kept_width A r m)) (not_forgotten r e k))

  pub equal_consistent : (t : Tree) (ρ : Labelling) → AllEqual A t ρ → Consistent A t ρ
  equal_consistent t ρ h k lk p p' u u' e e' c c' g = h k lk p p' u u' e e' c c'

  pub consistent_equal : ForgetsNothing A → (t : Tree) (ρ : Labelling) → Consistent A t ρ ↔ AllEqual A t ρ
  consistent_equal none t ρ = (
    λ h k lk p p' u u' e e' c c'. h k lk p p' u u' e e' c c' (λ v f. absurd (nothing_forgotten none t ρ k v f)),
    equal_consistent t ρ,
  )

  -- .. so such an automaton accepts what document 01 says; and any other accepts no less
  pub plain_accepts : (t : Tree) → AcceptsPlain A t → Accepts A t
  plain_accepts t a = record { run = a.run; runs = a.runs; accepting = a.accepting; consistent = equal_consistent t a.run a.equal }

  pub accepts_plain : ForgetsNothing A → (t : Tree) → Accepts A t ↔ AcceptsPlain A t
  accepts_plain none t = (λ a. record { run = a.run; runs = a.runs; accepting = a.accepting; equal = (consistent_equal none t a.run).0 a.consistent }, plain_accepts t)

-- ALONG THE PATHS: `Together` for positions of which neither is above the other, and for one above the other. F v says that the tag is forgotten at v.
abbrev Both : (List ℕ → Type 0) → List ℕ → List ℕ → Type 0
Both F p p' = (v : List ℕ) → F v → Above v p ↔ Above v p'

-- after a common step
both_step : (F : List ℕ → Type 0) (c : ℕ) (p p' : List ℕ) → Both F (c ∷ p) (c ∷ p') ↔ Both (λ v. F (c ∷ v)) p p'
both_step F c p p' = (λ h v f. (λ a. ((h (c ∷ v) f).0 (refl, a)).1, λ a. ((h (c ∷ v) f).1 (refl, a)).1), back)
  where
    at : Both (λ v. F (c ∷ v)) p p' → (i : ℕ) (v : List ℕ) → F (i ∷ v) → i ≡ c → Above v p ↔ Above v p'
    at h i v f e = h v (subst (λ z. F (z ∷ v)) e f)

    back : Both (λ v. F (c ∷ v)) p p' → Both F (c ∷ p) (c ∷ p')
    back h [] f = (λ a. tt, λ a. tt)
    back h (i ∷ v) f = (λ a. (a.0, (at h i v f a.0).0 a.1), λ a. (a.0, (at h i v f a.0).1 a.1))

-- Where the ways part below m: the tag is forgotten at no position strictly between m and either.
pub together_apart : (F : List ℕ → Type 0) (m a b : List ℕ) (i j : ℕ) → (i ≡ j → ⊥) → Both F (m ++ i ∷ a) (m ++ j ∷ b) ↔ (((w : List ℕ) → F (m ++ i ∷ w) → Above w a → ⊥) × ((w : List ℕ) → F (m ++ j ∷ w) → Above w b → ⊥))
together_apart F [] a b i j other = (λ h. (λ w f g. other ((h (i ∷ w) f).0 (refl, g)).0, λ w f g. other (sym ((h (j ∷ w) f).1 (refl, g)).0)), λ (h, h'). back h h')
  where
    back : ((w : List ℕ) → F (i ∷ w) → Above w a → ⊥) → ((w : List ℕ) → F (j ∷ w) → Above w b → ⊥) → Both F (i ∷ a) (j ∷ b)
    back h h' [] f = (λ x. tt, λ x. tt)
    back h h' (c ∷ w) f = (λ x. absurd (h w (subst (λ z. F (z ∷ w)) x.0 f) x.1), λ x. absurd (h' w (subst (λ z. F (z ∷ w)) x.0 f) x.1))
together_apart F (c ∷ m) a b i j other =
    let step = both_step F c (m ++ i ∷ a) (m ++ j ∷ b) in
    let rest = together_apart (λ v. F (c ∷ v)) m a b i j other in
    (λ h. rest.0 (step.0 h), λ h. step.1 (rest.1 h))

-- Where p is above p ++ j ∷ b: the tag is forgotten neither at p nor at a position strictly between.
pub together_above : (F : List ℕ → Type 0) (p b : List ℕ) (j : ℕ) → Both F p (p ++ j ∷ b) ↔ ((w : List ℕ) → F (p ++ w) → Above w (j ∷ b) → ⊥)
together_above F [] b j = (λ h w f a. (h w f).1 a, λ h w f. (λ a. absurd a, λ a. absurd (h w f a)))
together_above F (c ∷ p) b j =
    let step = both_step F c p (p ++ j ∷ b) in
    let rest = together_above (λ v. F (c ∷ v)) p b j in
    (λ h. rest.0 (step.0 h), λ h. step.1 (rest.1 h))

-- THE TEST SAYS WHAT IT SHOULD: no rule names a tag to forget
pub nothing_exactly : (A : Automaton) → (forgets_nothing? A ≡ true) ↔ ForgetsNothing A
nothing_exactly A = (
  λ e r m. eqb→eq r.forget 0 (all_in (λ r. eqb r.forget 0) A.rules ((T_true (forgets_nothing? A)).1 e) m),
  λ none. (T_true (forgets_nothing? A)).0 (in_all (λ r. eqb r.forget 0) A.rules (λ r m. subst (λ z. T (eqb z 0)) (sym (none r m)) tt)),
)
