-- The sizes of a process.
use Rattle.std.specs.Prelude.{Bool, ◌&&◌, ℕ, ◌%◌, eqb, leb}

-- '8 breakpoints a process'
abbrev pub entry_count : ℕ
entry_count = 8

-- the greatest size of a process: 'up to 4,096'
abbrev pub memory_bytes : ℕ
memory_bytes = 4096

-- 'a size, even, 2 to 4,096'
unfoldable pub valid_size : ℕ → Bool
valid_size n = eqb (n % 2) 0 && (leb 2 n && leb n memory_bytes)

-- 'the nine words R0 to R5, SP, PC, PS'
abbrev pub vector_words : ℕ
vector_words = 9

-- '18 bytes, low byte first'
abbrev pub vector_bytes : ℕ
vector_bytes = 18
