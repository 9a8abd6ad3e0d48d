-- `display::record::put_words` meets its contract. The loop's invariant: what was passed is put, in 6 bytes each at most. Assumes nothing.
use mathlib.Core.Path.{◌≡◌}
use Prim.Native.Nat.{◌+◌, ◌*◌, ◌≤◌}
use lib.ListN.{length, take}
use Rattle.lists.specs.Joined.{joined}
use Rattle.lines.specs.Scan.{Put}
use Rattle.display.specs.Line.{word_text}
use Rattle.display.proofs.record.put_words.Given as goal

abbrev pub invariant-loop-word : goal.invariant-loop-word
invariant-loop-word l = (l.at ≤ l.from + 6 * l.word-index) × (length l.out ≡ length l.initial.out) × Put l.from (joined word_text (take l.word-index l.word-items)) l.initial.out l.at l.out
