-- Planting, lifting and removing a breakpoint.
use Rattle.std.specs.Prelude.{cond, ℕ, ltb}
use Rattle.breakpoints.specs.declared.entry.Breakpoint.{Breakpoint}
use Rattle.breakpoints.specs.declared.entry_query.EntryQuery.TheVariants.{Lifted, At}
use Rattle.breakpoints.specs.Entry.{free, with_lifted}
use Rattle.process.specs.Sizes.{entry_count}
use Rattle.process.specs.Record.{entry, with_entry}
use Rattle.process.specs.Find.{find}
use Rattle.breakpoints.specs.Seen.{restored, planted, bpt_stored}
use Rattle.process.specs.Local.{Local, local}

-- 'Planting saves the word and stores 3, 0 (PDP-11 BPT).': the breakpoint b, planted, stands in entry k
unfoldable pub planted_in : ℕ → Breakpoint → Local → Local
planted_in k b l = local (with_entry k (planted l.bytes b) l.process) (bpt_stored b l.bytes)

-- 'Lifting puts the saved word back in memory.': the breakpoint in entry k
unfoldable pub lifted_in : ℕ → Local → Local
lifted_in k l = local (with_entry k (with_lifted (entry l.process k)) l.process) (restored (entry l.process k) l.bytes)

-- entry k is freed, and 'puts the word back if it is planted'
unfoldable pub removed_from : ℕ → Local → Local
removed_from k l = local (with_entry k free l.process) (restored (entry l.process k) l.bytes)

-- 'a lifted breakpoint is planted again', if there is one; it keeps its entry
unfoldable pub replanted : Local → Local
replanted l =
    cond (ltb (find Lifted l.process) entry_count)
    (planted_in (find Lifted l.process) (entry l.process (find Lifted l.process)) l)
    l

-- 'lifts the breakpoint at PC, if there is one'
unfoldable pub lifted_at : ℕ → Local → Local
lifted_at pc l = cond (ltb (find (At pc) l.process) entry_count) (lifted_in (find (At pc) l.process) l) l
