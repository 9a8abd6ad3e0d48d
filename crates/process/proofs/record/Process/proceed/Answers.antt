-- `process::record::Process::proceed` meets its contract, by whether there is a breakpoint at PC. Assumes nothing.
use mathlib.Core.Path.{refl, sym, ◌∙◌}
use borrow.Author.Tests.{lt-ltb, le-ltb}
use Rattle.breakpoints.specs.declared.entry_query.EntryQuery.TheVariants.{At}
use Rattle.process.specs.Find.{find}
use Rattle.process.specs.Planting.{lifted_at}
use Rattle.process.specs.Request.{has_break, proceeded}
use Rattle.process.proofs.FindLaws.{found-index, found_nowhere}
use Rattle.process.proofs.TestedLaws.{tested-inside}
use Rattle.process.proofs.record.Process.proceed.Goals as goal

pub returns-in_default : goal.returns-in_default
unfolding proceeded lifted_at has_break
returns-in_default c =
    let none = found_nowhere (find (At c.pc.result) c.args.self) (sym c.find.ensures ∙ c.in_default.is) in
    rw (c.with_run.ensures, ← c.pc.ensures, le-ltb _ _ none) record {
      value = refl;
      bytes_after = refl;
    }

pub lift_in-requires : goal.lift_in-requires
lift_in-requires c =
    let at = found-index (find (At c.pc.result) c.args.self) _ (sym c.find.ensures ∙ c.in-Some.is) in
    (rw at.same at at.low, tested-inside c.args.self c.args.bytes.now c.requires)

pub returns : goal.returns
unfolding proceeded lifted_at has_break
returns c =
    let at = found-index (find (At c.pc.result) c.args.self) _ (sym c.find.ensures ∙ c.in-Some.is) in
    rw (c.with_run-2.ensures, ← c.pc.ensures, lt-ltb _ _ at.low, at.same, c.lift_in.ensures.value) record {
      value = refl;
      bytes_after = c.lift_in.ensures.bytes_after;
    }
