-- `process::record::Process::lift_at` meets its contract, by whether there is a breakpoint at PC. Assumes nothing.
use mathlib.Core.Path.{refl, sym, ◌∙◌}
use borrow.Author.Tests.{lt-ltb, le-ltb}
use Rattle.breakpoints.specs.declared.entry_query.EntryQuery.TheVariants.{At}
use Rattle.process.specs.Find.{find}
use Rattle.process.specs.Planting.{lifted_at}
use Rattle.process.proofs.FindLaws.{found-index, found_nowhere}
use Rattle.process.proofs.record.Process.lift_at.Goals as goal

pub returns-in_default : goal.returns-in_default
unfolding lifted_at
returns-in_default c =
    let none = found_nowhere (find (At c.args.pc) c.args.self) (sym c.find.ensures ∙ c.in_default.is) in
    rw (le-ltb _ _ none) record {
      value = refl;
      bytes_after = refl;
    }

pub lift_in-requires : goal.lift_in-requires
lift_in-requires c =
    let at = found-index (find (At c.args.pc) c.args.self) _ (sym c.find.ensures ∙ c.in-Some.is) in
    (rw at.same at at.low, c.requires)

pub returns : goal.returns
unfolding lifted_at
returns c =
    let at = found-index (find (At c.args.pc) c.args.self) _ (sym c.find.ensures ∙ c.in-Some.is) in
    rw (lt-ltb _ _ at.low, at.same) c.lift_in.ensures
