-- `process::record::Process::number_is_right` meets its contract. The loop's invariant: what is left of the number lacks those passed. Assumes nothing.
use mathlib.Core.Path.{◌≡◌}
use Prim.Native.Nat.{◌+◌}
use lib.ListN.{drop}
use Rattle.process.specs.Record.{count_used}
use Rattle.process.proofs.record.Process.number_is_right.Given as goal

abbrev pub invariant-loop-b : goal.invariant-loop-b
invariant-loop-b l = l.fn.self.number + count_used (drop l.b-index l.fn.self.breaks) ≡ l.left + count_used l.fn.self.breaks
