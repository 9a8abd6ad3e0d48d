-- What is looked for among entries.
use Rattle.std.specs.Prelude.{Bool, not, ◌&&◌, eqb}
use Rattle.breakpoints.specs.declared.entry.Breakpoint.{Breakpoint}
use Rattle.breakpoints.specs.declared.entry_query.EntryQuery.{EntryQuery}
use Rattle.breakpoints.specs.declared.entry_query.EntryQuery.TheVariants.{Free, Lifted, At}
use Rattle.breakpoints.specs.Entry.{in_use}

-- an entry that is free; that is lifted; that is a breakpoint at the address a
unfoldable pub matches : EntryQuery → Breakpoint → Bool
matches Free b = not (in_use b)
matches Lifted b = in_use b && b.lifted
matches (At a) b = in_use b && eqb b.address a
