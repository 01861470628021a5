-- By the size of the code point. Assumes nothing.
use mathlib.Core.Path.{◌≡◌, subst}
use Prim.Native.Nat.{ℕ}
use Rattle.jsontext.specs.Utf8.{utf8}
use Rattle.jsontext.specs.Chars.{Joined}
use Rattle.jsontext.proofs.Packing.{packs_one, packs_two, packs_three, packs_four}
use Rattle.jsontext.proofs.chars.pack.Goals as goal

widened : {x y w m : ℕ} → x ≡ y → Joined (utf8 x) w m → Joined (utf8 y) w m
widened {w = w} {m = m} e h = subst (λ (c : ℕ). Joined (utf8 c) w m) e h

pub returns-then-c-lt128 : goal.returns-then-c-lt128
returns-then-c-lt128 c = widened c.from-c.ensures (packs_one _ c.if-c-lt128.true)

pub returns-then-c-lt2048 : goal.returns-then-c-lt2048
returns-then-c-lt2048 c = widened c.from-c.ensures (packs_two _ c.if-c-lt128.false c.if-c-lt2048.true)

pub returns-then-c-lt65536 : goal.returns-then-c-lt65536
returns-then-c-lt65536 c = widened c.from-c.ensures (packs_three _ c.if-c-lt2048.false c.if-c-lt65536.true)

pub returns : goal.returns
returns c = widened c.from-c.ensures (packs_four _ c.if-c-lt65536.false)
