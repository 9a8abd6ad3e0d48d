-- A lent buffer before and after something is written at its start.
use Rattle.std.specs.Prelude.{List, ◌++◌, ℕ, ◌<◌, length, drop, get_or}

-- the buffer with xs over its first bytes, and every byte past them as it was
unfoldable pub overlay : List ℕ → List ℕ → List ℕ
overlay xs buffer = xs ++ drop (length xs) buffer

-- every element is a byte
abbrev pub Bytes : List ℕ → Type 0
Bytes xs = (i : ℕ) → get_or xs i 0 < 256
