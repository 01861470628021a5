-- Items put into a lent space: what it holds afterwards. Assumes nothing.
use mathlib.Core.Path.{◌≡◌, ap, ◌∙◌}
use mathlib.Core.List.{List, [], ◌++◌, append_assoc, append-nil}
use Prim.Native.Nat.{ℕ, ◌+◌, ◌≤◌, ◌<◌}
use native.Mathlib.Omega.{arith}
use borrow.Author.Tests.{le-leb, lt-leb}
use lib.ListN.{length, take, drop, length-append, length-drop, take-append-drop}
use lib.Seq.{take_at, drop_at, length-take-le}
use Rattle.model.specs.Space.{put_at}

module _ {A : Type 0} (out : List A) (at : ℕ) (bytes : List A) where
  -- where they do not fit whole
  pub put_not : length out < at + length bytes → put_at out at bytes ≡ out
  unfolding put_at
  put_not h = rw (lt-leb (at + length bytes) (length out) h)

  -- where they fit whole
  module _ (h : at + length bytes ≤ length out) where
    pub put_fits : put_at out at bytes ≡ take at out ++ bytes ++ drop (at + length bytes) out
    unfolding put_at
    put_fits = rw (le-leb (at + length bytes) (length out) h)

    pub front_length : length (take at out ++ bytes) ≡ at + length bytes
    front_length = length-append (take at out) bytes ∙ ap (λ (n : ℕ). n + length bytes) (length-take-le at out (omega arith))

    pub put_length : length (put_at out at bytes) ≡ length out
    put_length = rw put_fits (length-append (take at out ++ bytes) (drop (at + length bytes) out) ∙ (let e = front_length in let d = length-drop (at + length bytes) out in omega arith))

    -- before them and behind them the space is as it was
    pub put_before : take at (put_at out at bytes) ≡ take at out
    put_before = rw (put_fits, append_assoc (take at out) bytes (drop (at + length bytes) out)) (take_at (take at out) (bytes ++ drop (at + length bytes) out) at (length-take-le at out (omega arith)))

    pub put_up_to : take (at + length bytes) (put_at out at bytes) ≡ take at out ++ bytes
    put_up_to = rw put_fits (take_at (take at out ++ bytes) (drop (at + length bytes) out) (at + length bytes) front_length)

    pub put_behind : drop (at + length bytes) (put_at out at bytes) ≡ drop (at + length bytes) out
    put_behind = rw put_fits (drop_at (take at out ++ bytes) (drop (at + length bytes) out) (at + length bytes) front_length)

-- put at the front
pub put_front : {A : Type 0} (out bytes : List A) → length bytes ≤ length out → put_at out 0 bytes ≡ bytes ++ drop (length bytes) out
put_front out bytes l = let z : 0 + length bytes ≡ length bytes = omega arith in put_fits out 0 bytes (omega arith) ∙ ap (λ k. bytes ++ drop k out) z

-- nothing put
pub put_none : {A : Type 0} (out : List A) (at : ℕ) → at ≤ length out → put_at out at [] ≡ out
put_none out at l =
    let z : at + 0 ≡ at = omega arith in
    put_fits out at [] (omega arith) ∙ ap (λ k. take at out ++ [] ++ drop k out) z ∙ ap (λ l. l ++ drop at out) (append-nil (take at out)) ∙ take-append-drop at out
