-- `sentence::pattern::put_filled` meets its contract. The loop's invariant: what was passed is put, and there is room for the rest. Assumes nothing.
use mathlib.Core.Path.{◌≡◌}
use Prim.Native.Nat.{◌+◌, ◌≤◌}
use lib.ListN.{length, take, drop}
use Rattle.lines.specs.Scan.{Put}
use Rattle.sentence.specs.Pattern.{filled, room}
use Rattle.sentence.proofs.pattern.put_filled.Given as goal

abbrev pub invariant-loop-c : goal.invariant-loop-c
invariant-loop-c l = (length l.out ≡ length l.initial.out) × (l.at + room (drop l.c-index l.pattern) ≤ l.from + room l.pattern) × Put l.from (filled l.h l.n (take l.c-index l.pattern)) l.initial.out l.at l.out
