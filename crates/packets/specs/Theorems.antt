-- The statements that the contracts of theorems.rt carry.
use Rattle.std.specs.Prelude.{Some, None, ◌≡◌, true, false, List, ℕ, ◌+◌, ◌*◌, ◌%◌, ◌^◌, ◌≤◌, ◌<◌, length}
use Rattle.packets.specs.declared.units.WordAddress.{WordAddress}
use Rattle.packets.specs.declared.units.WordCount.{WordCount}
use Rattle.packets.specs.declared.units.ByteCount.{ByteCount}
use Rattle.packets.specs.Units.{word_count, first_byte, second_byte, holds}
use Rattle.packets.specs.Data.{asked}
use Rattle.packets.specs.Block.{Block, may_ask, sendable, base_of, block_for}
use Rattle.packets.specs.Ack.{ack_of, ack_words, ack_length, block_words}
use Rattle.packets.specs.Id.{next_id}

-- words and bytes
pub record UnitsFit : Type 0 where
  -- the second byte of a word comes right after the first, and then the next word's first
  pub two_bytes : (a : WordAddress) → (second_byte a).0 ≡ (first_byte a).0 + 1
  pub next_word : (a b : WordAddress) → b.0 ≡ a.0 + 1 → (first_byte b).0 ≡ (second_byte a).0 + 1
  -- no byte belongs to two words
  pub first-apart : (a b : WordAddress) → (first_byte a).0 ≡ (first_byte b).0 → a.0 ≡ b.0
  pub second-apart : (a b : WordAddress) → (first_byte a).0 ≡ (second_byte b).0 → ⊥
  -- a process that holds a word holds both its bytes, and one that holds both holds the word
  pub held : (size : ByteCount) (a : WordAddress) → holds size a (word_count 1) ≡ true → (second_byte a).0 < size.0
  pub holding : (size : ByteCount) (a : WordAddress) → (second_byte a).0 < size.0 → holds size a (word_count 1) ≡ true

-- what a block that is sent is
pub record SentFor (size : ByteCount) (at : WordAddress) (words : List ℕ) (base : WordAddress) (count : WordCount) : Type 0 where
  -- it holds the word asked for
  pub from-base : base.0 ≤ at.0
  pub before-end : at.0 < base.0 + count.0
  -- its length is a power of two up to 32, and not over what was asked
  pub power : (k : ℕ) × (count.0 ≡ 2 ^ k)
  pub sendable-length : sendable count.0 ≡ true
  pub not-over-32 : count.0 ≤ 32
  pub not-over-asked : count.0 ≤ (asked words).0
  -- its base is divisible by its length, and that of its length
  pub divisible : base.0 % count.0 ≡ 0
  pub own-base : base ≡ base_of at count
  -- it lies within the size
  pub within : 2 * (base.0 + count.0) ≤ size.0
  -- twice as long is over 32, or over what was asked, or does not fit
  pub longest : 2 * count.0 ≤ 32 → 2 * count.0 ≤ (asked words).0 → holds size (base_of at (word_count (2 * count.0))) (word_count (2 * count.0)) ≡ false

-- blocks
pub record BlocksFit : Type 0 where
  -- the powers of two up to 256 may be asked, and nothing else
  pub powers : (k : ℕ) → k ≤ 8 → may_ask (2 ^ k) ≡ true
  pub only-powers : (n : ℕ) → may_ask n ≡ true → (k : ℕ) × (k ≤ 8) × (n ≡ 2 ^ k)
  pub sent : (size : ByteCount) (at : WordAddress) (words : List ℕ) (base : WordAddress) (count : WordCount)
      → block_for size at words ≡ Some (base, count) → SentFor size at words base count
  -- where a block may be asked and the word itself fits, there is one: a block of one word fits
  pub some_block : (size : ByteCount) (at : WordAddress) (words : List ℕ) → may_ask (asked words).0 ≡ true → holds size at (word_count 1) ≡ true
      → (base : WordAddress) × (count : WordCount) × (block_for size at words ≡ Some (base, count))
  -- there is none where none may be asked
  pub no_block : (size : ByteCount) (at : WordAddress) (words : List ℕ) → may_ask (asked words).0 ≡ false → block_for size at words ≡ None
  -- nor where the packet has no third word
  pub two-words : (size : ByteCount) (at : WordAddress) (words : List ℕ) → length words ≤ 2 → block_for size at words ≡ None

-- acknowledgements
pub record AcksFit : Type 0 where
  -- no acknowledgement is longer than 35 words
  pub short-ack : (size : ByteCount) (at : WordAddress) (words : List ℕ) → ack_length (block_for size at words) ≤ ack_words
  -- it has as many words as it says, if its block has
  pub whole-ack : (at : WordAddress) (second : ℕ) (block : Block) (contents : List ℕ) → length contents ≡ block_words block
      → length (ack_of at second block contents) ≡ ack_length block

-- IDs
pub record IdsFollow : Type 0 where
  -- the next ID is one greater, and 0 after the last
  pub one-greater : (id : ℕ) → id < 4294967295 → next_id id ≡ id + 1
  pub wraps : next_id 4294967295 ≡ 0
  -- it is an ID of 32 bits, and another one
  pub fits : (id : ℕ) → next_id id < 4294967296
  pub another : (id : ℕ) → id < 4294967296 → next_id id ≡ id → ⊥
  -- two IDs have two next ones
  pub one-go : (a b : ℕ) → a < 4294967296 → b < 4294967296 → next_id a ≡ next_id b → a ≡ b
