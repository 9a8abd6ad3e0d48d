-- `why::facts::who_set` meets its contract, by whether a breakpoint was found. Assumes nothing.
use mathlib.Core.Path.{sym, ◌∙◌, ap, ◌≡◌}
use native.Mathlib.Omega.{arith}
use lib.ListN.{get_or-eq_default, length}
use Rattle.breakpoints.specs.declared.entry.Breakpoint.{Breakpoint}
use Rattle.breakpoints.specs.declared.entry_query.EntryQuery.TheVariants.{At}
use Rattle.breakpoints.specs.Entry.{free}
use Rattle.process.specs.Find.{find}
use Rattle.process.proofs.FindLaws.{found-index, found_nowhere}
use Rattle.rules.specs.Why.{who_set}
use borrow.Author.Rules.{rules}
use Rattle.why.proofs.facts.who_set.Goals as goal

pub setter_in-requires : goal.setter_in-requires
setter_in-requires c =
    let at = found-index (find (At c.args.h.arg1) c.args.process) _ (sym c.find.ensures ∙ c.in-Some.is) in
    rw at.same at at.low

pub returns-in-Some : goal.returns-in-Some
unfolding who_set
returns-in-Some c =
    let at = found-index (find (At c.args.h.arg1) c.args.process) _ (sym c.find.ensures ∙ c.in-Some.is) in
    rw at.same c.setter_in.ensures

pub returns-in-None : goal.returns-in-None
unfolding who_set
returns-in-None c =
    let eight : length c.args.process.breaks ≡ 8 = search rules in
    let none = found_nowhere (find (At c.args.h.arg1) c.args.process) (sym c.find.ensures ∙ c.in-None.is) in
    sym (ap (λ (b : Breakpoint). b.setter) (get_or-eq_default c.args.process.breaks free (omega (arith, eight, none))))
