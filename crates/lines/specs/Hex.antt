-- Bytes as text: 'lower-case hex pairs parted by single blanks'.
use Rattle.std.specs.Prelude.{List, [], ◌∷◌, ◌++◌, ℕ, ◌+◌, ◌/◌, ◌%◌, set}
-- the digit of a number, and the number of a digit
unfoldable pub use Rattle.digits.specs.Digit.{digit, value}

-- a byte, its high digit first
abbrev pub pair : ℕ → List ℕ
pair b = digit (b / 16) ∷ digit (b % 16) ∷ []

-- 'lower-case hex pairs parted by single blanks'
unfoldable pub pairs : List ℕ → List ℕ
pairs [] = []
pairs (b ∷ []) = pair b
pairs (b ∷ c ∷ bs) = pair b ++ (32 ∷ pairs (c ∷ bs))

-- the same as a line with its newline
unfoldable pub pairs_line : List ℕ → List ℕ
pairs_line bs = pairs bs ++ (10 ∷ [])

-- a byte after a blank, from an index of a buffer on
unfoldable pub pair_at : ℕ → ℕ → List ℕ → List ℕ
pair_at b at out = set (set (set out at 32) (at + 1) (digit (b / 16))) (at + 2) (digit (b % 16))

-- each byte after a blank
unfoldable pub spaced : List ℕ → List ℕ
spaced [] = []
spaced (b ∷ bs) = 32 ∷ pair b ++ spaced bs

-- 'or `-` where nothing is written'
unfoldable pub spaced_or_dash : List ℕ → List ℕ
spaced_or_dash [] = 32 ∷ 45 ∷ []
spaced_or_dash (b ∷ bs) = spaced (b ∷ bs)
