-- The bytes of a code point: joined into a number, and as many as the first says. Assumes nothing.
use mathlib.Core.Path.{◌≡◌, refl, sym, subst}
use mathlib.Core.Bool.{Bool, true, false, cond}
use mathlib.Core.List.{List, [], ◌∷◌}
use Prim.Native.Nat.{ℕ, ◌+◌, ◌*◌, ◌/◌, ◌%◌, ◌<◌, ◌≤◌}
use native.Mathlib.Omega.{arith}
use borrow.Author.Tests.{lt-ltb, le-ltb, ltb-true}
use lib.Dec.{ltb}
use lib.ListN.{length}
use Rattle.base.specs.Text.{byte_at}
use Rattle.jsontext.specs.Utf8.{utf8}
use Rattle.jsontext.specs.Decoded.{join_bytes}
use Rattle.jsontext.specs.Kept.{Bytes}
use Rattle.jsontext.specs.Chars.{Joined}
use Rattle.jsontext.proofs.LeadRows.{size_by}
use Rattle.jsontext.proofs.Joining.{bytes_none, bytes_cons}

-- bytes that are the code point's, each below 256
as_bytes : (c : ℕ) (bs : List ℕ) (w : ℕ) → Bytes bs → utf8 c ≡ bs → w ≡ join_bytes bs → Joined (utf8 c) w (length bs)
as_bytes c bs w b e j = subst (λ (l : List ℕ). Joined l w (length bs)) (sym e) (record { bytes = b; count = refl; joined = j })

two_bytes : (a b : ℕ) → a < 256 → b < 256 → Bytes (a ∷ b ∷ [])
two_bytes a b h k = bytes_cons a (b ∷ []) h (bytes_cons b [] k bytes_none)

module _ (c : ℕ) where
  pub packs_one : c < 128 → Joined (utf8 c) c 1
  unfolding utf8
  packs_one h = as_bytes c (c ∷ []) c (bytes_cons c [] (omega arith) bytes_none) (rw (lt-ltb c 128 h)) (omega arith)

  pub packs_two : 128 ≤ c → c < 2048 → Joined (utf8 c) (192 + c / 64 + (128 + c % 64) * 256) 2
  unfolding utf8
  packs_two g h =
      let a = 192 + c / 64 in
      let z = 128 + c % 64 in
      as_bytes c (a ∷ z ∷ []) (a + z * 256) (two_bytes a z (omega arith) (omega arith)) (rw (le-ltb c 128 g, lt-ltb c 2048 h)) (omega arith)

  pub packs_three : 2048 ≤ c → c < 65536 → Joined (utf8 c) (224 + c / 4096 + (128 + c / 64 % 64 + (128 + c % 64) * 256) * 256) 3
  unfolding utf8
  packs_three g h =
      let a = 224 + c / 4096 in
      let y = 128 + c / 64 % 64 in
      let z = 128 + c % 64 in
      as_bytes c (a ∷ y ∷ z ∷ []) (a + (y + z * 256) * 256) (bytes_cons a (y ∷ z ∷ []) (omega arith) (two_bytes y z (omega arith) (omega arith)))
      (rw (le-ltb c 128 (omega arith), le-ltb c 2048 g, lt-ltb c 65536 h)) (omega arith)

  pub packs_four : 65536 ≤ c → Joined (utf8 c) (240 + c / 262144 % 8 + (128 + c / 4096 % 64 + (128 + c / 64 % 64 + (128 + c % 64) * 256) * 256) * 256) 4
  unfolding utf8
  packs_four g =
      let a = 240 + c / 262144 % 8 in
      let x = 128 + c / 4096 % 64 in
      let y = 128 + c / 64 % 64 in
      let z = 128 + c % 64 in
      as_bytes c (a ∷ x ∷ y ∷ z ∷ []) (a + (x + (y + z * 256) * 256) * 256)
      (bytes_cons a (x ∷ y ∷ z ∷ []) (omega arith) (bytes_cons x (y ∷ z ∷ []) (omega arith) (two_bytes y z (omega arith) (omega arith))))
      (rw (le-ltb c 128 (omega arith), le-ltb c 2048 (omega arith), le-ltb c 65536 g)) (omega arith)

-- how many, by the first
pub size_one : (b : ℕ) → b < 128 → 1 ≡ size_by b
unfolding size_by
size_one b h = rw (lt-ltb b 128 h)

pub utf8_sized : (c : ℕ) → length (utf8 c) ≡ size_by (byte_at (utf8 c) 0)
unfolding utf8 size_by
utf8_sized c = go (ltb c 128) refl (ltb c 2048) refl (ltb c 65536) refl
  where
    bytes : Bool → Bool → Bool → List ℕ
    bytes x y z =
        cond x (c ∷ [])
        (cond y ((192 + c / 64) ∷ (128 + c % 64) ∷ [])
        (cond z ((224 + c / 4096) ∷ (128 + c / 64 % 64) ∷ (128 + c % 64) ∷ [])
        ((240 + c / 262144 % 8) ∷ (128 + c / 4096 % 64) ∷ (128 + c / 64 % 64) ∷ (128 + c % 64) ∷ [])))

    go : (x : Bool) → ltb c 128 ≡ x → (y : Bool) → ltb c 2048 ≡ y → (z : Bool) → ltb c 65536 ≡ z → length (bytes x y z) ≡ size_by (byte_at (bytes x y z) 0)
    go true d y e z f = size_one c (ltb-true c 128 d)
    go false d true e z f = let g = ltb-true c 2048 e in rw (le-ltb (192 + c / 64) 128 (omega arith), lt-ltb (192 + c / 64) 224 (omega arith))
    go false d false e true f =
        let g = ltb-true c 65536 f in
        rw (le-ltb (224 + c / 4096) 128 (omega arith), le-ltb (224 + c / 4096) 224 (omega arith), lt-ltb (224 + c / 4096) 240 (omega arith))
    go false d false e false f =
        rw (le-ltb (240 + c / 262144 % 8) 128 (omega arith), le-ltb (240 + c / 262144 % 8) 224 (omega arith), le-ltb (240 + c / 262144 % 8) 240 (omega arith))
