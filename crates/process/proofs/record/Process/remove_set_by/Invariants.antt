-- `process::record::Process::remove_set_by` meets its contract. The loop's invariant: of the breakpoints passed those of the host are put back in memory, and their entries are free. Assumes nothing.
use mathlib.Core.List.{◌++◌, map}
use mathlib.Core.Path.{◌≡◌}
use Prim.Native.Nat.{◌+◌}
use lib.ListN.{take, drop}
use Rattle.breakpoints.specs.Seen.{seen}
use Rattle.process.specs.Record.{count_used}
use Rattle.process.specs.Request.{count_set_by, without_his, only_his}
use Rattle.process.proofs.record.Process.remove_set_by.Given as goal

abbrev pub invariant-loop-b : goal.invariant-loop-b
invariant-loop-b l = (l.bytes ≡ seen (take l.b-index (map (only_his l.host) l.fn.self.breaks)) l.initial.bytes) × (l.b-items ≡ map (without_his l.host) (take l.b-index l.fn.self.breaks) ++ drop l.b-index l.fn.self.breaks) × (l.number ≡ count_used (map (without_his l.host) l.fn.self.breaks) + count_set_by l.host (drop l.b-index l.fn.self.breaks))
