-- `packet_door::ack::write_words` meets its contract. The loop's invariant: the words made so far lie over the buffer's start. Assumes nothing.
use mathlib.Core.Path.{◌≡◌}
use Prim.Native.Nat.{◌≤◌}
use lib.ListN.{length}
use Rattle.lists.specs.Word.{words_of}
use Rattle.lists.specs.Buffer.{overlay}
use Rattle.packet_door.proofs.ack.write_words.Given as goal

abbrev pub invariant-loop-i : goal.invariant-loop-i
invariant-loop-i l = (l.i ≤ l.i-end) × (length l.out ≡ length l.initial.out) × (l.out ≡ overlay (words_of l.i l.bytes) l.initial.out)
