-- A 16-bit word as two bytes.
use Rattle.std.specs.Prelude.{ℕ, ◌+◌, ◌*◌, ◌/◌, ◌%◌, List, [], ◌∷◌, get_or}
use Rattle.lists.specs.Elements.{elements}

-- the high byte of a word
abbrev pub high : ℕ → ℕ
high w = w / 256

-- the low byte of a word
abbrev pub low : ℕ → ℕ
low w = w % 256

-- the word with this high and this low byte
abbrev pub word : ℕ → ℕ → ℕ
word h l = h * 256 + l

-- words as bytes, low byte first
unfoldable pub low_first : List ℕ → List ℕ
low_first [] = []
low_first (w ∷ ws) = low w ∷ high w ∷ low_first ws

-- so many words of bytes, low byte first
abbrev pub words_of : ℕ → List ℕ → List ℕ
words_of n bytes = elements (λ (i : ℕ). word (get_or bytes (2 * i + 1) 0) (get_or bytes (2 * i) 0)) n

-- the nine words of 18 bytes, low byte first
unfoldable pub vector_of : List ℕ → List ℕ
vector_of bytes = words_of 9 bytes
