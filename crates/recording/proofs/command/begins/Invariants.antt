-- `recording::command::begins` meets its contract. The loop's invariant: what is left of the text decides. Assumes nothing.
use mathlib.Core.Path.{◌≡◌}
use Prim.Native.Nat.{◌≤◌}
use lib.ListN.{length, drop}
use Rattle.recording.specs.Command.{begins}
use Rattle.recording.proofs.command.begins.Given as goal

abbrev pub invariant-loop-i : goal.invariant-loop-i
invariant-loop-i l = (length l.text ≤ length l.line) × (begins (drop l.i l.text) (drop l.i l.line) ≡ begins l.text l.line)
