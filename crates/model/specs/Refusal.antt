-- Refusals by number, the first condition that fails counting; 0 stands for none (document 01, section "Turned away, by place"). Assumes nothing.
use Rattle.std.specs.Prelude.{Bool, true, false, ℕ, zero, suc}

-- refused with the number, unless the test passes and the rest says otherwise
unfoldable pub demand : Bool → ℕ → ℕ → ℕ
demand true n rest = rest
demand false n rest = n

-- what an earlier place says, else what a later one says
unfoldable pub and_after : ℕ → ℕ → ℕ
and_after zero rest = rest
and_after (suc n) rest = suc n

-- What an entry point says: a value, or a refusal by its number. Every answer enum stands for one of these.
pub data Answer (A : Type 0) : Type 0 where
  gives : A → Answer A
  refuses : ℕ → Answer A

-- the value, unless a number refuses
unfoldable pub unless : {A : Type 0} → ℕ → A → Answer A
unless zero a = gives a
unless (suc n) a = refuses (suc n)

-- what f makes of the value
abbrev pub answer_map : {A B : Type 0} → (A → B) → Answer A → Answer B
answer_map f (gives a) = gives (f a)
answer_map f (refuses n) = refuses n
