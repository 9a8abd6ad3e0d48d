-- `display::entry::put_entries` meets its contract. The loop's invariant: what was passed is put, in 36 bytes each at most. Assumes nothing.
use mathlib.Core.Path.{◌≡◌}
use Prim.Native.Nat.{◌+◌, ◌*◌, ◌≤◌}
use lib.ListN.{length, take}
use Rattle.lists.specs.Joined.{joined}
use Rattle.lines.specs.Scan.{Put}
use Rattle.display.specs.Line.{entry_text}
use Rattle.display.proofs.entry.put_entries.Given as goal

abbrev pub invariant-loop-b : goal.invariant-loop-b
invariant-loop-b l = (l.at ≤ l.from + 36 * l.b-index) × (length l.out ≡ length l.initial.out) × Put l.from (joined entry_text (take l.b-index l.breaks)) l.initial.out l.at l.out
