-- `process::record::Process::address_is_unique` meets its contract. The loop's invariant: the first entry at the address is none of those passed. Assumes nothing.
use Prim.Native.Nat.{◌≤◌}
use Rattle.breakpoints.specs.declared.entry_query.EntryQuery.TheVariants.{At}
use Rattle.process.specs.Find.{find}
use Rattle.process.proofs.record.Process.address_is_unique.Given as goal

abbrev pub invariant-loop-b : goal.invariant-loop-b
invariant-loop-b l = l.b-index ≤ find (At l.address) l.fn.self
