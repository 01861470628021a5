-- The first annotation of a class in a window: what scanning and heads say of it, how a window is opened, and what keeps it so. Assumes nothing.
use mathlib.Core.Path.{◌≡◌, refl, sym, ap, ◌∙◌, subst}
use mathlib.Core.Logic.{inl, inr}
use mathlib.Core.List.{List}
use Prim.Native.Nat.{ℕ, suc, ◌+◌, ◌*◌, ◌%◌, ◌<◌, ◌≤◌}
use native.Mathlib.Omega.{arith}
use native.Mathlib.Decide.{ℕ_discrete}
use native.Mathlib.Nat.{mod-lt}
use native.Mathlib.Numerals.{add-one}
use lib.ListN.{length, get_or, set}
use lib.Seq.{get_or-set_same, get_or-set_other}
use Rattle.std.specs.Prelude.{Option, Some, None, MatchOption, unwrap_or}
use Rattle.membership.specs.Cells.{cell_of}
use Rattle.judging.specs.Chains.{classes, class_in, FirstWith, HeadOf, Heads, Links, Many, Opened, Chained, AsideOrSame, Apart, Opening}

pub class_small : (work : List ℕ) (j : ℕ) → class_in work j < classes
unfolding class_in
class_small work j = mod-lt (cell_of work j 1) (omega arith)

-- the class of an annotation in state q, and of two in the same state
pub class_state : (work : List ℕ) (j q : ℕ) → cell_of work j 1 ≡ q → class_in work j ≡ q % classes
unfolding class_in
class_state work j q e = ap (λ x. x % classes) e

pub class_read : (work : List ℕ) (j r : ℕ) → r ≡ get_or work (j * 32 + 1) 0 → (r % classes ≡ class_in work j) × (r % classes < classes)
unfolding cell_of
class_read work j r e = (sym (class_state work j r (sym e)), mod-lt r (omega arith))

-- only the classes below the end of the window count
module _ (f g : ℕ → ℕ) (high : ℕ) (e : (k : ℕ) → k < high → f k ≡ g k) where
  pub first_same : (c low r : ℕ) → FirstWith f c low high r → FirstWith g c low high r
  first_same c low r h =
      let t = h.to in
      record { from = h.from; to = t; is = λ l. sym (e r l) ∙ h.is l; none = λ k a b q. h.none k a b (e k (omega arith) ∙ q) }

  pub heads_same : (p low : ℕ) (heads : List ℕ) → Heads f p low high heads → Heads g p low high heads
  unfolding Heads
  heads_same p low heads h j a b = subst (λ c. FirstWith g c low high (get_or heads (p * classes + c) 0)) (e j b) (first_same (f j) low (get_or heads (p * classes + f j) 0) (h j a b))

  pub links_same : (low : ℕ) (links : List ℕ) → Links f low high links → Links g low high links
  unfolding Links
  links_same low links h j a b = subst (λ c. FirstWith g c (suc j) high (get_or links j 0)) (e j b) (first_same (f j) (suc j) (get_or links j 0) (h j a b))

  pub opened_same : (p low : ℕ) (heads : List ℕ) → Opened f p low high heads → Opened g p low high heads
  opened_same p low heads h m = heads_same p low heads (h m)

  pub chained_same : (low : ℕ) (links : List ℕ) → Chained f low high links → Chained g low high links
  chained_same low links h m = links_same low links (h m)

-- what the scan answers, by `find`
pub scanned : (f : ℕ → ℕ) (c low high : ℕ) (r : Option ℕ) → low ≤ high → MatchOption r ((k : ℕ) → low ≤ k → k < high → f k ≡ c → ⊥) (λ i. (low ≤ i) × (i < high) × (f i ≡ c) × ((k : ℕ) → low ≤ k → k < i → f k ≡ c → ⊥)) → FirstWith f c low high (unwrap_or r high)
scanned f c low high None l none = record { from = l; to = omega arith; is = λ m. let z : ⊥ = omega arith in absurd z; none = none }
scanned f c low high (Some i) l (from, to, is, none) = record { from = from; to = omega arith; is = λ _. is; none = none }

-- what a head says, by the tests on it
module _ (f : ℕ → ℕ) (c low high h y : ℕ) (head : HeadOf f c low high y) (ey : h ≡ y) where
  read : HeadOf f c low high h
  read k a b q = subst (FirstWith f c low high) (sym ey) (head k a b q)

  nothing : low ≤ high → ((k : ℕ) → low ≤ k → k < high → f k ≡ c → FirstWith f c low high h → ⊥) → FirstWith f c low high high
  nothing l not = record { from = l; to = omega arith; is = λ m. let z : ⊥ = omega arith in absurd z; none = λ k a b q. not k a b q (read k a b q) }

  pub head_before : low ≤ high → h < low → FirstWith f c low high high
  head_before l m = nothing l (λ k a b q t. let s = t.from in omega arith)

  pub head_after : low ≤ high → high ≤ h → FirstWith f c low high high
  head_after l m = nothing l (λ k a b q t. t.none k a (omega arith) q)

  pub head_other : (x : ℕ) → low ≤ high → h < high → x ≡ f h → (x ≡ c → ⊥) → FirstWith f c low high high
  head_other x l m e other = nothing l (λ k a b q t. other (e ∙ t.is m))

  pub head_is : (x : ℕ) → low ≤ h → h < high → x ≡ f h → x ≡ c → FirstWith f c low high h
  head_is x l m e q = record { from = l; to = omega arith; is = λ _. sym e ∙ q; none = λ k a b s. (read k a (omega arith) s).none k a b s }

pub head_of : (f : ℕ → ℕ) (p low high : ℕ) (heads : List ℕ) → Heads f p low high heads → (c : ℕ) → HeadOf f c low high (get_or heads (p * classes + c) 0)
unfolding Heads
head_of f p low high heads h c k a b q = subst (λ x. FirstWith f x low high (get_or heads (p * classes + x) 0)) q (h k a b)

module _ (f : ℕ → ℕ) (c j low high : ℕ) where
  pub next_scan : (r : ℕ) → FirstWith f c (j + 1) high r → FirstWith f c (suc j) high r
  next_scan r h = subst (λ k. FirstWith f c k high r) (add-one j) h

  pub next_link : (links : List ℕ) (r : ℕ) → Links f low high links → low ≤ j → j < high → f j ≡ c → r ≡ get_or links j 0 → FirstWith f c (suc j) high r
  unfolding Links
  next_link links r h a b q e = subst (λ x. FirstWith f x (suc j) high r) q (subst (FirstWith f (f j) (suc j) high) (sym e) (h j a b))

-- a window being opened: its numbers from j on are
pub record Threading (f : ℕ → ℕ) (p low high : ℕ) (heads links heads' links' : List ℕ) (j : ℕ) : Type 0 where
  pub from : low ≤ j
  pub to : j ≤ high
  pub firsts : Heads f p j high heads'
  pub nexts : Links f j high links'
  pub apart : Apart p low high heads links heads' links'

module _ (f : ℕ → ℕ) (p low high : ℕ) (heads links : List ℕ) where
  unchanged : Apart p low high heads links heads links
  unchanged = record { places = λ q c l other. refl; below = λ j l. refl; above = λ j l. refl }

  pub opening_few : high ≤ low + 4 → Opening f p low high heads links heads links
  opening_few l =
      let few : Many low high → ⊥ = λ m. omega arith in
      record { opened = λ m. absurd (few m); chained = λ m. absurd (few m); apart = unchanged }

  pub thread_none : low ≤ high → Threading f p low high heads links heads links high
  unfolding Heads Links
  thread_none l =
      let none : (k : ℕ) → high ≤ k → k < high → ⊥ = λ k a b. omega arith in
      record { from = l; to = omega arith; firsts = λ k a b. absurd (none k a b); nexts = λ k a b. absurd (none k a b); apart = unchanged }

  module _ (heads' links' : List ℕ) (j : ℕ) (t : Threading f p low high heads links heads' links' j) where
    -- one number more, x, in front
    module _ (x c r : ℕ) (ej : j ≡ suc x) (lx : low ≤ x) (ec : c ≡ f x) (lc : c < classes) (next : FirstWith f c j high r) (wide : p * classes + c < length heads') (long : x < length links') where
      abbrev heads'' : List ℕ
      heads'' = set heads' (p * classes + c) x

      abbrev links'' : List ℕ
      links'' = set links' x r

      itself : FirstWith f c x high (get_or heads'' (p * classes + c) 0)
      itself =
          let to = t.to in
          subst (FirstWith f c x high) (sym (get_or-set_same heads' (p * classes + c) x 0 wide))
          (record { from = omega arith; to = omega arith; is = λ _. sym ec; none = λ k a b q. omega arith })

      -- a number of another class stands in front
      further : (d s : ℕ) → (f x ≡ d → ⊥) → FirstWith f d j high s → FirstWith f d x high s
      further d s other h =
          let a = h.from in
          record { from = omega arith; to = h.to; is = h.is; none = λ k a b q. go k a b q (ℕ_discrete k x) }
        where
          go : (k : ℕ) → x ≤ k → k < s → f k ≡ d → Dec (k ≡ x) → ⊥
          go k a b q (yes e) = other (ap f (sym e) ∙ q)
          go k a b q (no e) = h.none k (omega (arith, e)) b q

      firsts : Heads f p x high heads''
      unfolding Heads
      firsts k a b = go (ℕ_discrete (f k) c)
        where
          go : Dec (f k ≡ c) → FirstWith f (f k) x high (get_or heads'' (p * classes + f k) 0)
          go (yes q) = subst (λ d. FirstWith f d x high (get_or heads'' (p * classes + d) 0)) (sym q) itself
          go (no q) =
              let later : k ≡ x → ⊥ = λ e. q (ap f e ∙ sym ec) in
              subst (FirstWith f (f k) x high) (sym (get_or-set_other heads' (p * classes + c) (p * classes + f k) x 0 (λ z. q (omega arith))))
              (further (f k) (get_or heads' (p * classes + f k) 0) (λ z. q (sym (ec ∙ z))) (t.firsts k (omega (arith, later)) b))

      nexts : Links f x high links''
      unfolding Links
      nexts k a b = go (ℕ_discrete k x)
        where
          go : Dec (k ≡ x) → FirstWith f (f k) (suc k) high (get_or links'' k 0)
          go (yes e) =
              rw e (subst (λ d. FirstWith f d (suc x) high (get_or links'' x 0)) ec
              (subst (FirstWith f c (suc x) high) (sym (get_or-set_same links' x r 0 long)) (subst (λ i. FirstWith f c i high r) ej next)))
          go (no e) = subst (FirstWith f (f k) (suc k) high) (sym (get_or-set_other links' x k r 0 e)) (t.nexts k (omega (arith, e)) b)

      threaded : Threading f p low high heads links heads'' links'' x
      threaded =
          let to = t.to in
          let a = t.apart in
          record {
            from = lx;
            to = omega arith;
            firsts = firsts;
            nexts = nexts;
            apart = record {
              places = λ q d l other. get_or-set_other heads' (p * classes + c) (q * classes + d) x 0 (λ z. other (omega arith)) ∙ a.places q d l other;
              below = λ k l. get_or-set_other links' x k r 0 (λ z. omega arith) ∙ a.below k l;
              above = λ k l. get_or-set_other links' x k r 0 (λ z. omega arith) ∙ a.above k l;
            };
          }

      pub thread_more : (h l : List ℕ) → l ≡ links'' → h ≡ heads'' → Threading f p low high heads links h l x
      thread_more h l el eh = rw eh (rw el threaded)

    pub thread_all : j ≤ low → Opening f p low high heads links heads' links'
    thread_all l =
        let a = t.from in
        let e : j ≡ low = omega arith in
        record { opened = λ m. subst (λ i. Heads f p i high heads') e t.firsts; chained = λ m. subst (λ i. Links f i high links') e t.nexts; apart = t.apart }

-- what was opened before stays so
module _ (f : ℕ → ℕ) (p low high : ℕ) (heads links heads' links' : List ℕ) (o : Opening f p low high heads links heads' links') (low' high' : ℕ) where
  pub opened_after : (q : ℕ) → ((k : ℕ) → f k < classes) → (q ≡ p → ⊥) → Opened f q low' high' heads → Opened f q low' high' heads'
  unfolding Heads
  opened_after q small other h m j a b = subst (FirstWith f (f j) low' high') (sym (o.apart.places q (f j) (small j) other)) (h m j a b)

  pub chained_after : AsideOrSame low high low' high' → Chained f low' high' links → Chained f low' high' links'
  unfolding Links
  chained_after (inl l) h m j a b = subst (FirstWith f (f j) (suc j) high') (sym (o.apart.below j (omega arith))) (h m j a b)
  chained_after (inr (inl l)) h m j a b = subst (FirstWith f (f j) (suc j) high') (sym (o.apart.above j (omega arith))) (h m j a b)
  chained_after (inr (inr (e, e'))) h m j a b = subst (λ z. Chained f low' z links') e' (subst (λ z. Chained f z high links') e o.chained) m j a b
