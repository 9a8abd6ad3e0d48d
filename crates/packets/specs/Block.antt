-- The block of words that an acknowledgement carries.
use Rattle.std.specs.Prelude.{Option, Some, None, Bool, cond, ◌||◌, List, ℕ, zero, suc, ◌-◌, ◌/◌, ◌%◌, eqb, leb}
use Rattle.packets.specs.declared.units.WordAddress.{WordAddress}
use Rattle.packets.specs.declared.units.WordCount.{WordCount}
use Rattle.packets.specs.declared.units.ByteCount.{ByteCount}
use Rattle.packets.specs.Units.{word_address, word_count, holds}
use Rattle.packets.specs.Data.{asked}

-- a power of two up to 32
unfoldable pub sendable : ℕ → Bool
sendable n = eqb n 1 || (eqb n 2 || (eqb n 4 || (eqb n 8 || (eqb n 16 || eqb n 32))))

-- or no words
unfoldable pub none_or_sendable : ℕ → Bool
none_or_sendable n = eqb n 0 || sendable n

-- 'a power of two of words up to 256'
unfoldable pub may_ask : ℕ → Bool
may_ask n = sendable n || (eqb n 64 || (eqb n 128 || eqb n 256))

-- 'If a block of a power of two of words up to 256 is asked, send the smaller of that and 32', otherwise none
unfoldable pub length_to_send : WordCount → WordCount
length_to_send n = cond (may_ask n.0) (cond (leb n.0 32) n (word_count 32)) (word_count 0)

-- 'the memo's block base for the length sent', (word 1) AND -(word 3): the multiple of a power of two that the address has reached
unfoldable pub base_of : WordAddress → WordCount → WordAddress
base_of at n = word_address (at.0 - at.0 % n.0)

-- half as many words
abbrev pub half : WordCount → WordCount
half n = word_count (n.0 / 2)

-- what an acknowledgement carries after its first two words: so many words from an address on, or none
abbrev pub Block : Type 0
Block = Option (WordAddress × WordCount)

-- 'a block reaching past the size is halved until it fits', among so many lengths at most; each has its own base
unfoldable pub halved_to_fit : ℕ → ByteCount → WordAddress → WordCount → Block
halved_to_fit zero size at n = None
halved_to_fit (suc k) size at n =
    cond (eqb n.0 0) None
    (cond (holds size (base_of at n) n) (Some (base_of at n, n)) (halved_to_fit k size at (half n)))

-- the block that is sent for a packet with these data words about a word of a process of this size; there are six lengths up to 32
unfoldable pub block_for : ByteCount → WordAddress → List ℕ → Block
block_for size at words = halved_to_fit 6 size at (length_to_send (asked words))
