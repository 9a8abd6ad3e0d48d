-- Words and bytes: 'its counts are words, ours are bytes'.
use Rattle.std.specs.Prelude.{Bool, ℕ, ◌+◌, ◌*◌, leb}
use Rattle.packets.specs.declared.units.WordAddress.{WordAddress}
use Rattle.packets.specs.declared.units.WordCount.{WordCount}
use Rattle.packets.specs.declared.units.ByteAddress.{ByteAddress}
use Rattle.packets.specs.declared.units.ByteCount.{ByteCount}

-- the word of this number
abbrev pub word_address : ℕ → WordAddress
word_address n = record { 0 = n }

-- so many words
abbrev pub word_count : ℕ → WordCount
word_count n = record { 0 = n }

-- the byte of this number
abbrev pub byte_address : ℕ → ByteAddress
byte_address n = record { 0 = n }

-- so many bytes
abbrev pub byte_count : ℕ → ByteCount
byte_count n = record { 0 = n }

-- 'word address a is seen bytes 2a and 2a + 1, low first': the first of them
abbrev pub first_byte : WordAddress → ByteAddress
first_byte a = byte_address (2 * a.0)

-- and the second
abbrev pub second_byte : WordAddress → ByteAddress
second_byte a = byte_address (2 * a.0 + 1)

-- n words are 2n bytes
abbrev pub in_bytes : WordCount → ByteCount
in_bytes n = byte_count (2 * n.0)

-- a process of this size holds so many words from this address on: they do not reach past the size
unfoldable pub holds : ByteCount → WordAddress → WordCount → Bool
holds size at count = leb ((first_byte at).0 + (in_bytes count).0) size.0
