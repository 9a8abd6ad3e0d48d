-- `process::record::Process::has_set_few` meets its contract. The loop's invariant: those counted, and those among the entries not passed, are all; and
-- under four are counted. Assumes nothing.
use mathlib.Core.Path.{◌≡◌}
use Prim.Native.Nat.{◌<◌, ◌+◌}
use lib.ListN.{drop}
use Rattle.process.specs.Request.{count_set_by}
use Rattle.process.proofs.record.Process.has_set_few.Given as goal

abbrev pub invariant-loop-b : goal.invariant-loop-b
invariant-loop-b l = (l.n < 4) × (l.n + count_set_by l.host (drop l.b-index l.fn.self.breaks) ≡ count_set_by l.host l.fn.self.breaks)
