-- `lines::print::put_spaced` meets its contract. The loop's invariant: the bytes passed are laid over the buffer. Assumes nothing.
use mathlib.Core.Path.{◌≡◌}
use lib.ListN.{take}
use Rattle.lists.specs.Buffer.{overlay}
use Rattle.lines.specs.Hex.{spaced}
use Rattle.lines.proofs.print.put_spaced.Given as goal

abbrev pub invariant-loop-i : goal.invariant-loop-i
invariant-loop-i l = l.out ≡ overlay (spaced (take l.i l.bytes)) l.initial.out
