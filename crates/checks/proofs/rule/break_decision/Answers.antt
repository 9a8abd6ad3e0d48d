-- `checks::rule::break_decision` meets its contract, by whether a breakpoint was found. Assumes nothing.
use mathlib.Core.Path.{sym, ◌∙◌}
use borrow.Author.Tests.{lt-ltb, le-ltb}
use Rattle.breakpoints.specs.declared.entry_query.EntryQuery.TheVariants.{At}
use Rattle.process.specs.Find.{find}
use Rattle.process.specs.Request.{has_break}
use Rattle.process.proofs.FindLaws.{found-index, found_nowhere}
use Rattle.checks.specs.Decision.{break_decision}
use Rattle.checks.proofs.rule.break_decision.Goals as goal

pub own_decision-requires : goal.own_decision-requires
own_decision-requires c =
    let at = found-index (find (At c.args.a) c.args.process) _ (sym c.find.ensures ∙ c.in-Some.is) in
    rw at.same at at.low

pub returns-in-Some : goal.returns-in-Some
unfolding break_decision has_break
returns-in-Some c =
    let at = found-index (find (At c.args.a) c.args.process) _ (sym c.find.ensures ∙ c.in-Some.is) in
    rw (lt-ltb _ _ at.low, at.same) c.own_decision.ensures

pub returns-in-None : goal.returns-in-None
unfolding break_decision has_break
returns-in-None c =
    let none = found_nowhere (find (At c.args.a) c.args.process) (sym c.find.ensures ∙ c.in-None.is) in
    rw (le-ltb _ _ none) c.new_decision.ensures
