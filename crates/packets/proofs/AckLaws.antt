-- Laws of the words of an acknowledgement. Assumes nothing.
use Rattle.std.proofs.Common.{Some, None}
use mathlib.Core.Path.{◌≡◌, refl}
use mathlib.Core.List.{List, [], ◌∷◌}
use Prim.Native.Nat.{ℕ, ◌+◌, ◌≤◌}
use native.Mathlib.Omega.{arith}
use lib.ListN.{length, set}
use Rattle.lists.specs.Buffer.{overlay}
use Rattle.packets.specs.declared.units.WordAddress.{WordAddress}
use Rattle.packets.specs.declared.units.WordCount.{WordCount}
use Rattle.packets.specs.declared.units.ByteCount.{ByteCount}
use Rattle.packets.specs.Block.{Block, block_for}
use Rattle.packets.specs.Ack.{ack_of, ack_start, ack_words, ack_length, block_words}
use Rattle.packets.specs.Theorems.{AcksFit}
use Rattle.packets.proofs.BlockLaws.{sent-for}

-- an acknowledgement has as many words as it says
pub length-ack : (at : WordAddress) (second : ℕ) (block : Block) (contents : List ℕ) → length contents ≡ block_words block
    → length (ack_of at second block contents) ≡ ack_length block
unfolding ack_of ack_start ack_length block_words
length-ack at second None contents e = omega arith
length-ack at second (Some block) contents e = omega arith

-- with a block, it has three words more than the block
pub length-with : {block : Block} {base : WordAddress} {count : WordCount} → block ≡ Some (base, count) → ack_length block ≡ 3 + count.0
unfolding ack_length
length-with e = rw e

-- none is too long
pub short-ack : (size : ByteCount) (at : WordAddress) (words : List ℕ) → ack_length (block_for size at words) ≤ ack_words
unfolding ack_length
short-ack size at words = go (block_for size at words) refl
  where
    go : (block : Block) → block_for size at words ≡ block → ack_length block ≤ ack_words
    go None e = omega arith
    go (Some block) e = omega (arith, (sent-for size at words block.0 block.1 e).not-over-32)

pub acks-fit : AcksFit
acks-fit = record { short-ack = short-ack; whole-ack = length-ack }

-- ---- writing

-- the words before a block's, by the block
pub start-with : {block : Block} {base : WordAddress} {count : WordCount} (at : WordAddress) (second : ℕ) → block ≡ Some (base, count)
    → ack_start at second block ≡ at.0 ∷ second ∷ count.0 ∷ []
unfolding ack_start
start-with at second e = rw e

-- the first words of a buffer, set one after the other
pub two-set : (out : List ℕ) (a b : ℕ) → 2 ≤ length out → set (set out 0 a) 1 b ≡ overlay (a ∷ b ∷ []) out
unfolding overlay
two-set [] a b h = absurd (omega arith)
two-set (x ∷ []) a b h = absurd (omega arith)
two-set (x ∷ y ∷ out) a b h = refl

pub three-set : (out : List ℕ) (a b c : ℕ) → 3 ≤ length out → set (set (set out 0 a) 1 b) 2 c ≡ overlay (a ∷ b ∷ c ∷ []) out
unfolding overlay
three-set [] a b c h = absurd (omega arith)
three-set (x ∷ []) a b c h = absurd (omega arith)
three-set (x ∷ y ∷ []) a b c h = absurd (omega arith)
three-set (x ∷ y ∷ z ∷ out) a b c h = refl
