-- The search among the entries of a process.
use Rattle.std.specs.Prelude.{cond, ℕ, ltb, Option, Some, None}
use Rattle.lists.specs.First.{first}
use Rattle.process.specs.declared.record.Process.{Process}
use Rattle.breakpoints.specs.declared.entry_query.EntryQuery.{EntryQuery}
use Rattle.breakpoints.specs.EntryQuery.{matches}
use Rattle.process.specs.Sizes.{entry_count}

-- the index of the first entry that matches, or 8 where none does: 'the lowest free of the eight entries'
unfoldable pub find : EntryQuery → Process → ℕ
find query p = first (matches query) p.breaks

-- such an index as the code answers it
unfoldable pub found_entry : ℕ → Option ℕ
found_entry k = cond (ltb k entry_count) (Some k) None
