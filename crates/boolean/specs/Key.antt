-- A rule as one number of 64 bits, its key: keys ascend as the rules of a sound automaton do, and the rule is read off its key. Assumes nothing.
use Rattle.std.specs.Prelude.{List, cond, ℕ, zero, suc, ◌+◌, ◌-◌, ◌*◌, ◌/◌, ◌%◌, ◌^◌, ltb, get_or}
use Rattle.model.specs.Limits.{max_children, max_states, unused}
use Rattle.model.specs.Lists.{tab}
use Rattle.model.specs.Automaton.{Rule}
use Rattle.model.specs.Order.{place}
use Rattle.automaton.specs.declared.Form.{Form}
use Rattle.automaton.specs.Encode.{encode_rule}

-- the bits of a digit: enough for every state; which places are unused is told by the symbol
abbrev pub digit_width : ℕ
digit_width = 8

-- the bits of the tags that a rule forgets
abbrev pub mask_width : ℕ
mask_width = 16

-- digits with one more
unfoldable pub pushed : ℕ → ℕ → ℕ
pushed x p = x * 2 ^ digit_width + p % 2 ^ digit_width

-- digits with those of f 0, .., f (n - 1) more
abbrev pub pushed_all : ℕ → ℕ → (ℕ → ℕ) → ℕ
pushed_all x zero f = x
pushed_all x (suc n) f = pushed (pushed_all x n f) (f n)

-- the digits of a symbol, child places and a target, in the order in which rules are sorted by them
abbrev pub digits_of : ℕ → (ℕ → ℕ) → ℕ → ℕ
digits_of symbol f target = pushed (pushed_all (pushed 0 symbol) max_children f) target

-- digits, and behind them the tags to forget: these never decide the order, since a rule stands once
unfoldable pub masked : ℕ → ℕ → ℕ
masked x mask = x * 2 ^ mask_width + mask % 2 ^ mask_width

abbrev pub key_of : ℕ → (ℕ → ℕ) → ℕ → ℕ → ℕ
key_of symbol f target mask = masked (digits_of symbol f target) mask

abbrev pub packed : Rule → ℕ
packed r = key_of r.symbol (place r) r.target r.forget

-- digit k of a key, counted from its end
unfoldable pub digit_at : ℕ → ℕ → ℕ
digit_at x k = x / 2 ^ (mask_width + digit_width * k) % 2 ^ digit_width

-- child place k of a key whose symbol has n children
unfoldable pub place_at : ℕ → ℕ → ℕ → ℕ
place_at x n k = cond (ltb k n) (digit_at x (max_children - k)) unused

-- the rule of a key, with so many children for each symbol
abbrev pub unpacked : List ℕ → ℕ → Rule
unpacked arities x = record {
  symbol = digit_at x (max_children + 1);
  children = tab (get_or arities (digit_at x (max_children + 1)) 0) (λ k. digit_at x (max_children - k));
  target = digit_at x 0;
  forget = x % 2 ^ mask_width;
}

-- .. and its stored form
abbrev pub encode_key : Form → List ℕ → ℕ → List ℕ
encode_key form arities x = encode_rule form (unpacked arities x)

-- a place with its state shifted by n
unfoldable pub shifted_place : ℕ → ℕ → ℕ
shifted_place n p = cond (ltb p max_states) (n + p) unused

-- the place of a pair of states, n being the number of the second's states
unfoldable pub paired_place : ℕ → ℕ → ℕ → ℕ
paired_place n p q = cond (ltb p max_states) (p * n + q) unused
