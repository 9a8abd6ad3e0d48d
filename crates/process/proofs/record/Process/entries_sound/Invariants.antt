-- `process::record::Process::entries_sound` meets its contract. The loop's invariant: every entry passed keeps the rules. Assumes nothing.
use mathlib.Core.Bool.{true}
use mathlib.Core.Path.{◌≡◌}
use lib.Dec.{ltb}
use Rattle.breakpoints.specs.declared.entry_query.EntryQuery.TheVariants.{Lifted}
use Rattle.process.specs.Find.{find}
use Rattle.process.specs.Sound.{entry_sound}
use Rattle.lists.specs.Every.{below}
use Rattle.process.proofs.record.Process.entries_sound.Given as goal

abbrev pub invariant-loop-k : goal.invariant-loop-k
invariant-loop-k l = (below (entry_sound l.fn.self) l.k ≡ true) × (l.earlier ≡ ltb (find Lifted l.fn.self) l.k)
