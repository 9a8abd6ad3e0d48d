-- Numbers and flags as bytes, low byte first.
use Rattle.std.specs.Prelude.{Bool, List, [], ◌∷◌, ℕ, ◌+◌, ◌*◌, ◌/◌, ◌%◌, drop, get_or, eqb}
use Rattle.lists.specs.Word.{high, low, word}

-- two bytes as a number
abbrev pub u16_le : List ℕ → ℕ
u16_le m = word (get_or m 1 0) (get_or m 0 0)

-- a number as two bytes
abbrev pub u16_le_bytes : ℕ → List ℕ
u16_le_bytes w = low w ∷ high w ∷ []

-- four bytes as a number
abbrev pub u32_le : List ℕ → ℕ
u32_le m = get_or m 0 0 + get_or m 1 0 * 256 + get_or m 2 0 * 65536 + get_or m 3 0 * 16777216

-- a number as four bytes
abbrev pub u32_le_bytes : ℕ → List ℕ
u32_le_bytes w = w % 256 ∷ w / 256 % 256 ∷ w / 65536 % 256 ∷ w / 16777216 ∷ []

-- eight bytes as a number
abbrev pub u64_le : List ℕ → ℕ
u64_le m = u32_le m + u32_le (drop 4 m) * 4294967296

-- a number as eight bytes
unfoldable pub u64_le_bytes : ℕ → List ℕ
u64_le_bytes w =
    w % 256
    ∷ w / 256 % 256
    ∷ w / 65536 % 256
    ∷ w / 16777216 % 256
    ∷ w / 4294967296 % 256
    ∷ w / 1099511627776 % 256
    ∷ w / 281474976710656 % 256
    ∷ w / 72057594037927936 % 256
    ∷ []

-- a flag is read by its lowest bit; that no other bit is set is tested
abbrev pub flag_of : ℕ → Bool
flag_of n = eqb (n % 2) 1
