-- The fixed signature of JSON's trees (document 02, Wish 1): end, stop, other, item, null, flag, number, text, then the keys in the order of the list. Assumes nothing.
use Rattle.std.specs.Prelude.{◌≡◌, [], ◌∷◌, ℕ, ◌+◌, ◌<◌, length, get_or}
use Rattle.model.specs.Automaton.{Automaton, arity_of}

-- closes an object
abbrev pub end : ℕ
end = 0

-- closes an array
abbrev pub stop : ℕ
stop = 1

-- an unlisted key: text, value, rest
abbrev pub other : ℕ
other = 2

-- an element and the rest
abbrev pub item : ℕ
item = 3

abbrev pub null_leaf : ℕ
null_leaf = 4

abbrev pub flag_leaf : ℕ
flag_leaf = 5

abbrev pub number_leaf : ℕ
number_leaf = 6

abbrev pub text_leaf : ℕ
text_leaf = 7

-- the symbol of the key on line k: value, rest
abbrev pub key_symbol : ℕ → ℕ
key_symbol k = 8 + k

-- the number of children of each symbol
unfoldable pub json_arity : ℕ → ℕ
json_arity s = get_or (0 ∷ 0 ∷ 3 ∷ 2 ∷ 0 ∷ 0 ∷ 0 ∷ 0 ∷ []) s 2

-- An automaton has the symbols of a list of so many keys, with their numbers of children.
abbrev pub Over : ℕ → Automaton → Type 0
Over keys A = (s : ℕ) → s < key_symbol keys → (s < length A.arities) × (arity_of A s ≡ json_arity s)
