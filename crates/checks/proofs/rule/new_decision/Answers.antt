-- `checks::rule::new_decision` meets its contract, by whether the host may set one more and a free entry was found. Assumes nothing.
use mathlib.Core.Path.{sym, ◌∙◌}
use borrow.Author.Tests.{lt-ltb, le-ltb}
use Rattle.breakpoints.specs.declared.entry_query.EntryQuery.TheVariants.{Free}
use Rattle.process.specs.Find.{find}
use Rattle.process.specs.Request.{has_room}
use Rattle.process.proofs.FindLaws.{found-index, found_nowhere}
use Rattle.checks.specs.Decision.{new_decision}
use Rattle.checks.proofs.DecisionLaws.{no_more}
use Rattle.checks.proofs.rule.new_decision.Goals as goal

pub returns-then-not-may_have_more : goal.returns-then-not-may_have_more
returns-then-not-may_have_more c = sym (no_more _ _ (sym c.may_have_more.ensures ∙ c.if-not-may_have_more.true))

pub returns-in-Some : goal.returns-in-Some
unfolding new_decision has_room
returns-in-Some c =
    let at = found-index (find Free c.args.process) _ (sym c.find.ensures ∙ c.in-Some.is) in
    rw (lt-ltb _ _ at.low, ← c.may_have_more.ensures, c.if-not-may_have_more.false, at.same)

pub returns-in-None : goal.returns-in-None
unfolding new_decision has_room
returns-in-None c =
    let none = found_nowhere (find Free c.args.process) (sym c.find.ensures ∙ c.in-None.is) in
    rw (le-ltb _ _ none)
