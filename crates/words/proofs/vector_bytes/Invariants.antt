-- `words::vector_bytes` meets its contract. The loop's invariant: the bytes of the words passed lie over the array's start. Assumes nothing.
use mathlib.Core.Path.{◌≡◌}
use lib.ListN.{length, take, replicate}
use Rattle.lists.specs.Word.{low_first}
use Rattle.lists.specs.Buffer.{overlay}
use Rattle.words.proofs.vector_bytes.Given as goal

abbrev pub invariant-loop-i : goal.invariant-loop-i
invariant-loop-i l = (length l.bytes ≡ 18) × (l.bytes ≡ overlay (low_first (take l.i l.w-items)) (replicate 18 0))
