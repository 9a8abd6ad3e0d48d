-- `process::record::Process::exchange` meets its contract. The loop's invariant: the breakpoints passed are put back in memory, and each has the word that was there. That word is still the one of the memory before, since no two breakpoints of a sound record meet. Assumes nothing.
use mathlib.Core.List.{◌++◌, map}
use mathlib.Core.Path.{◌≡◌}
use lib.ListN.{take, drop}
use Rattle.breakpoints.specs.Seen.{seen, saved_from}
use Rattle.process.proofs.record.Process.exchange.Given as goal

abbrev pub invariant-loop-b : goal.invariant-loop-b
invariant-loop-b l = (l.bytes ≡ seen (take l.b-index l.fn.self.breaks) l.initial.bytes) × (l.b-items ≡ map (saved_from l.initial.bytes) (take l.b-index l.fn.self.breaks) ++ drop l.b-index l.fn.self.breaks)
