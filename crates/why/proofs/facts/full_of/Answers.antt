-- `why::facts::full_of` meets its contract, by whether a free entry was found. Assumes nothing.
use mathlib.Core.Path.{sym, ◌∙◌}
use borrow.Author.Tests.{lt-ltb, le-ltb}
use Rattle.breakpoints.specs.declared.entry_query.EntryQuery.TheVariants.{Free}
use Rattle.process.specs.Find.{find}
use Rattle.process.specs.Request.{has_room}
use Rattle.process.proofs.FindLaws.{found-index, found_nowhere}
use Rattle.rules.specs.Why.{full_of}
use Rattle.why.proofs.facts.full_of.Goals as goal

pub returns-in-Some : goal.returns-in-Some
unfolding full_of has_room
returns-in-Some c =
    let at = found-index (find Free c.args.process) _ (sym c.find.ensures ∙ c.in-Some.is) in
    rw (lt-ltb _ _ at.low)

pub returns-in-None : goal.returns-in-None
unfolding full_of has_room
returns-in-None c =
    let none = found_nowhere (find Free c.args.process) (sym c.find.ensures ∙ c.in-None.is) in
    rw (le-ltb _ _ none)
