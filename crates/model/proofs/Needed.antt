-- What a root needs, each pair of row and key once, lowest rows first: from nodes whose kids stand on lower rows. Assumes nothing.
use mathlib.Core.Path.{◌≡◌, refl, sym, ap, ◌∙◌, subst}
use mathlib.Core.Logic.{◌⊎◌, inl, inr, ⊎_elim}
use mathlib.Core.Bool.{Bool, true, false, ◌&&◌, cond}
use mathlib.Core.List.Memᴰ.{cases_cons as in_cons}
use mathlib.Core.List.Memᴰ.{eq_of_singleton}
use mathlib.Core.List.Memᴰ.{head as here}
use mathlib.Core.List.Memᴰ.{not-nil}
use mathlib.Core.List.Memᴰ.{tail as there}
use mathlib.Core.List.{List, [], ◌∷◌, Memᴰ as In}
use Prim.Native.Nat.{ℕ, zero, suc, ◌<◌, ◌≤◌}
use native.Mathlib.Omega.{arith}
use native.Mathlib.Nat.{eq-or-lt_of_le}
use lib.Dec.{T, eqb, eqb→eq, eqb_refl}
use lib.ListN.{length, get_or}
use Rattle.model.specs.Lists.{concat_map, any, eq_list}
use Rattle.model.proofs.Members.{T_and, and_T, eq_list→eq, eq_list_refl, in_concat_map, concat_map_in, in_any, any_in}
use Rattle.model.proofs.Rows.{in_get_d}
use Rattle.model.proofs.Count.{place_of_lem}

module _ {N : Type 0} (row : N → ℕ) (key : N → List ℕ) (kids : N → List N) where
  abbrev pub Same : N → N → Type 0
  Same a b = (row a ≡ row b) × (key a ≡ key b)

  abbrev same? : N → N → Bool
  same? a b = eqb (row a) (row b) && eq_list (key a) (key b)

  same_T : (a b : N) → Same a b → T (same? a b)
  same_T a b (e, e') = and_T (eqb (row a) (row b)) (eq_list (key a) (key b)) (subst (λ z. T (eqb (row a) z)) e (eqb_refl (row a))) (subst (λ z. T (eq_list (key a) z)) e' (eq_list_refl (key a)))

  T-same : (a b : N) → T (same? a b) → Same a b
  T-same a b h = let (t, t') = T_and (eqb (row a) (row b)) (eq_list (key a) (key b)) h in (eqb→eq (row a) (row b) t, eq_list→eq (key a) (key b) t')

  -- the place of the first node with the pair of k
  abbrev pub place_in : List N → N → ℕ
  place_in [] k = 0
  place_in (x ∷ l) k = cond (same? x k) 0 (suc (place_in l k))

  pub found : (d : N) (l : List N) (k y : N) → In y l → Same y k → (place_in l k < length l) × Same (get_or l (place_in l k) d) k
  found d [] k y iy s = absurd (not-nil iy)
  found d (x ∷ l) k y iy s = go (same? x k) refl (λ iy'. found d l k y iy' s)
    where
      go : (b : Bool) → same? x k ≡ b → (In y l → (place_in l k < length l) × Same (get_or l (place_in l k) d) k) → (cond b 0 (suc (place_in l k)) < suc (length l)) × Same (get_or (x ∷ l) (cond b 0 (suc (place_in l k))) d) k
      go true e ih = (omega arith, T-same x k (subst T (sym e) tt))
      go false e ih = ⊎_elim (λ q. absurd (subst T e (same_T x k (ap row (sym q) ∙ s.0, ap key (sym q) ∙ s.1)))) (λ g. let (l, s') = ih g in (omega arith, s')) (in_cons iy)

  -- rows ascend, no pair stands twice, and each node but the root, the last, is a kid of a later one
  pub data Chain (root : N) : List N → Type 0 where
    chain_root : Chain root (root ∷ [])
    chain_more : {x y : N} {l : List N} → Chain root l → ((z : N) → In z l → row x ≤ row z) → ((z : N) → In z l → Same x z → ⊥) → In y l → In x (kids y) → Chain root (x ∷ l)

  -- what holds of the root, and of the kids of each node of which it holds, holds of all
  pub chain_holds : (P : N → Type 0) {root : N} {l : List N} → P root → ((x k : N) → P x → In k (kids x) → P k) → Chain root l → (z : N) → In z l → P z
  chain_holds P p step chain_root z h = subst P (sym (eq_of_singleton h)) p
  chain_holds P p step (chain_more {x = x} {y = y} c low new iy ix) z h =
      let below = chain_holds P p step c in
      ⊎_elim (λ e. subst P (sym e) (step y x (below y iy) ix)) (below z) (in_cons h)

  module _ {root : N} where
    -- the lower row stands first
    pub chain_ascends : {l : List N} → Chain root l → (i j : ℕ) → i < length l → row (get_or l i root) < row (get_or l j root) → i < j
    chain_ascends chain_root zero zero li h = let z : ⊥ = omega arith in absurd z
    chain_ascends chain_root zero (suc j) li h = omega arith
    chain_ascends chain_root (suc i) j li h = let z : ⊥ = omega arith in absurd z
    chain_ascends (chain_more c low new iy ix) zero zero li h = let z : ⊥ = omega arith in absurd z
    chain_ascends (chain_more c low new iy ix) zero (suc j) li h = omega arith
    chain_ascends (chain_more {l = l} c low new iy ix) (suc i) zero li h = let g = low _ (in_get_d root l i (omega arith)) in let z : ⊥ = omega arith in absurd z
    chain_ascends (chain_more c low new iy ix) (suc i) (suc j) li h = let g = chain_ascends c i j (omega arith) h in omega arith

    pub chain_once : {l : List N} → Chain root l → (i j : ℕ) → i < length l → j < length l → Same (get_or l i root) (get_or l j root) → i ≡ j
    chain_once chain_root i j li lj s = omega arith
    chain_once (chain_more c low new iy ix) zero zero li lj s = refl
    chain_once (chain_more {l = l} c low new iy ix) zero (suc j) li lj s = absurd (new _ (in_get_d root l j (omega arith)) s)
    chain_once (chain_more {l = l} c low new iy ix) (suc i) zero li lj (e, e') = absurd (new _ (in_get_d root l i (omega arith)) (sym e, sym e'))
    chain_once (chain_more c low new iy ix) (suc i) (suc j) li lj s = ap suc (chain_once c i j (omega arith) (omega arith) s)

    pub chain_used : {l : List N} → Chain root l → (i : ℕ) → suc i < length l → (j : ℕ) × (i < j) × (j < length l) × In (get_or l i root) (kids (get_or l j root))
    chain_used chain_root i h = let z : ⊥ = omega arith in absurd z
    chain_used (chain_more {x = x} c low new iy ix) zero h = let (j, lj, e) = place_of_lem root iy in (suc j, omega arith, omega arith, subst (λ z. In x (kids z)) (sym e) ix)
    chain_used (chain_more c low new iy ix) (suc i) h = let (j, l, lj, m) = chain_used c i (omega arith) in (suc j, omega arith, omega arith, m)

    pub chain_some : {l : List N} → Chain root l → 0 < length l
    chain_some chain_root = omega arith
    chain_some (chain_more c low new iy ix) = omega arith

    pub chain_last : {l : List N} → Chain root l → (i : ℕ) → suc i ≡ length l → get_or l i root ≡ root
    chain_last chain_root i h = let e : i ≡ 0 = omega arith in rw e
    chain_last (chain_more c low new iy ix) zero h = let z : ⊥ = omega (arith, chain_some c) in absurd z
    chain_last (chain_more c low new iy ix) (suc i) h = chain_last c i (omega arith)

  module _ (root : N) (lower : (x k : N) → In k (kids x) → row k < row x) where
    -- a chain of the rows from n on that has all that its nodes need there
    pub record Level (n : ℕ) (l : List N) : Type 0 where
      pub chain : Chain root l
      pub high : (z : N) → In z l → n ≤ row z
      pub closed : (z k : N) → In z l → In k (kids z) → n ≤ row k → (y : N) × In y l × Same y k

    -- l with, in front, those of cs that stand on row n
    record Filled (n : ℕ) (l cs : List N) : Type 0 where
      list : List N
      chain : Chain root list
      high : (z : N) → In z list → n ≤ row z
      from : (z : N) → In z list → In z l ⊎ (row z ≡ n)
      old : (z : N) → In z l → In z list
      has : (c : N) → In c cs → row c ≡ n → (y : N) × In y list × Same y c

    skipped : (n : ℕ) (l cs : List N) (c : N) (f : Filled n l cs) → (row c ≡ n → (y : N) × In y f.list × Same y c) → Filled n l (c ∷ cs)
    skipped n l cs c f h =
        record {
          list = f.list;
          chain = f.chain;
          high = f.high;
          from = f.from;
          old = f.old;
          has = λ z iz e. ⊎_elim (λ q. subst (λ k. (y : N) × In y f.list × Same y k) (sym q) (h (ap row (sym q) ∙ e))) (λ g. f.has z g e) (in_cons iz);
        }

    put : (n : ℕ) (l cs : List N) (c y : N) (f : Filled n l cs) → row c ≡ n → ((z : N) → In z f.list → Same c z → ⊥) → In y l → In c (kids y) → Filled n l (c ∷ cs)
    put n l cs c y f e new iy ic =
        record {
          list = c ∷ f.list;
          chain = chain_more {x = c} f.chain (λ z iz. let h = f.high z iz in omega arith) new (f.old y iy) ic;
          high = λ z iz. ⊎_elim (λ q. let g = ap row q in omega arith) (f.high z) (in_cons iz);
          from = λ z iz. ⊎_elim (λ q. inr (ap row q ∙ e)) (f.from z) (in_cons iz);
          old = λ z iz. there (f.old z iz);
          has = λ z iz e'. ⊎_elim (λ q. (c, here refl, (ap row (sym q), ap key (sym q)))) (λ g. let (y, iy, s) = f.has z g e' in (y, there iy, s)) (in_cons iz);
        }

    fill : (n : ℕ) (l : List N) → Level (suc n) l → (cs : List N) → ((c : N) → In c cs → (y : N) × In y l × In c (kids y)) → Filled n l cs
    fill n l v [] h =
        record {
          list = l;
          chain = v.chain;
          high = λ z iz. let g = v.high z iz in omega arith;
          from = λ z. inl;
          old = λ z iz. iz;
          has = λ c ic. absurd (not-nil ic);
        }
    fill n l v (c ∷ cs) h = let f = fill n l v cs (λ z iz. h z (there iz)) in go f (eqb (row c) n) refl (any (same? c) f.list) refl
      where
        go : (f : Filled n l cs) (b : Bool) → eqb (row c) n ≡ b → (b' : Bool) → any (same? c) f.list ≡ b' → Filled n l (c ∷ cs)
        go f false e b' e' = skipped n l cs c f (λ q. absurd (subst T e (subst (λ z. T (eqb (row c) z)) q (eqb_refl (row c)))))
        go f true e true e' =
            skipped n l cs c f
            (λ q. let (y, iy, t) = in_any (same? c) f.list (subst T (sym e') tt) in let (s, s') = T-same c y t in (y, iy, (sym s, sym s')))
        go f true e false e' =
            let (y, iy, ic) = h c (here refl) in
            put n l cs c y f (eqb→eq (row c) n (subst T (sym e) tt)) (λ z iz s. subst T e' (any_in (same? c) iz (same_T c z s))) iy ic

    next : (n : ℕ) (l : List N) → Level (suc n) l → (l' : List N) × Level n l'
    next n l v =
        let f = fill n l v (concat_map kids l) (λ c ic. in_concat_map kids l ic) in (
          f.list,
          record {
            chain = f.chain;
            high = f.high;
            closed = λ z k iz ik h.
                ⊎_elim
                (λ g.
                ⊎_elim (λ e. f.has k (concat_map_in kids g ik) (sym e)) (λ lt. let (y, iy, s) = v.closed z k g ik lt in (y, f.old y iy, s)) (eq-or-lt_of_le h))
                (λ e. let w = lower z k ik in let q : ⊥ = omega arith in absurd q)
                (f.from z iz);
          },
        )

    descend : (n : ℕ) (l : List N) → Level n l → (l' : List N) × Level 0 l'
    descend zero l v = (l, v)
    descend (suc n) l v = let (l', v') = next n l v in descend n l' v'

    -- THE LIST: each pair that the root needs once, rows ascending, the root last.
    pub needed : (l : List N) × Level 0 l
    needed =
        descend (row root) (root ∷ [])
        (record {
          chain = chain_root;
          high = λ z iz. let e = ap row (eq_of_singleton iz) in omega arith;
          closed = λ z k iz ik h. let w = lower z k ik in let e = ap row (eq_of_singleton iz) in let q : ⊥ = omega arith in absurd q;
        })
