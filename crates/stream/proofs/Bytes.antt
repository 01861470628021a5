-- Where the bytes of a reader come to stand, read by read. Assumes nothing.
use Rattle.std.proofs.Common.{◌≡◌, ℕ, zero, suc, ◌+◌, ◌-◌, ◌≤◌, ◌<◌, List, ◌++◌, Option, Result, Ok, Err, None, Some, [], refl, sym, ap, subst, ◌∙◌, arith, length, take, drop, drop_at}
use Rattle.std.specs.Io.{ReadsAtMost}
use Rattle.std.specs.Io.KnownBytes.{Consumes, Keeps, ReadConsumes}
use Rattle.std.proofs.KnownBytes.{Consumes-trans}
use lib.Seq.{take-add, take-append-le}
use Rattle.stream.specs.Reading.{after_read, HeardOf}

-- no byte taken
kept : (a b : Option (List ℕ)) → Consumes a b [] → Keeps a b
kept None b p = tt
kept (Some x) None p = absurd p
kept (Some x) (Some y) p = sym p

-- a read into the part behind `done` bytes, which is not empty
pub heard : {E : Type 0} (old new : Option (List ℕ)) (done : ℕ) (r : Result ℕ E) (h : Result (Option ℕ) E) (front part rest : List ℕ) → length front ≡ done → 0 < length part
    → ReadsAtMost r part → ReadConsumes old new r part → h ≡ after_read done r → HeardOf old new done h (front ++ (part ++ rest))
heard {E = E} old new done r h front part rest long room fits bytes e = subst (λ (x : Result (Option ℕ) E). HeardOf old new done x (front ++ (part ++ rest))) (sym e) (told r fits bytes)
  where
    told : (r : Result ℕ E) → ReadsAtMost r part → ReadConsumes old new r part → HeardOf old new done (after_read done r) (front ++ (part ++ rest))
    told (Ok zero) fits bytes = (kept old new bytes.0, bytes.1 refl room)
    told (Ok (suc k)) fits bytes =
        let same : suc k ≡ (done + suc k) - done = omega arith in
        let behind : take (suc k) (drop done (front ++ (part ++ rest))) ≡ take (suc k) part = ap (take (suc k)) (drop_at front (part ++ rest) done long) ∙ take-append-le (suc k) part rest fits.0 in
        subst (λ m. Consumes old new (take m (drop done (front ++ (part ++ rest))))) same (subst (Consumes old new) (sym behind) bytes.0)
    told (Err x) fits bytes = bytes

-- what came before and what came now stand one behind the other
pub joined : (a b c : Option (List ℕ)) (done n : ℕ) (xs ys : List ℕ) → done ≤ n → take done ys ≡ take done xs → Consumes a b (take done xs)
    → Consumes b c (take (n - done) (drop done ys)) → Consumes a c (take n ys)
joined a b c done n xs ys more front before now =
    let same : done + (n - done) ≡ n = omega arith in
    let whole : take done xs ++ take (n - done) (drop done ys) ≡ take n ys = ap (λ l. l ++ take (n - done) (drop done ys)) (sym front) ∙ sym (take-add done (n - done) ys) ∙ ap (λ m. take m ys) same in
    subst (Consumes a c) whole (Consumes-trans a b c _ _ before now)
