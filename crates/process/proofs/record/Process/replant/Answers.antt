-- `process::record::Process::replant` meets its contract, by whether there is a lifted breakpoint; its word is within the bytes, since it is in use. Assumes nothing.
use mathlib.Core.Path.{refl, sym, ◌∙◌}
use native.Mathlib.Omega.{arith}
use borrow.Author.Tests.{lt-ltb, le-ltb}
use lib.ListN.{length}
use Rattle.breakpoints.specs.declared.entry_query.EntryQuery.TheVariants.{Lifted}
use Rattle.process.specs.Find.{find}
use Rattle.process.specs.Planting.{replanted}
use Rattle.process.proofs.FindLaws.{find-matches, matches-lifted, found-index, found_nowhere}
use mathlib.Core.Path.{◌≡◌}
use borrow.Author.Rules.{rules}
use Rattle.process.proofs.record.Process.replant.Goals as goal

pub returns-in_default : goal.returns-in_default
unfolding replanted
returns-in_default c =
    let none = found_nowhere (find Lifted c.args.self) (sym c.find.ensures ∙ c.in_default.is) in
    rw (le-ltb _ _ none) record {
      value = refl;
      bytes_after = refl;
    }

pub offset_bounds-self-k : goal.offset_bounds-self-k
offset_bounds-self-k c =
    let at = found-index (find Lifted c.args.self) _ (sym c.find.ensures ∙ c.in-Some.is) in
    omega arith

pub bounds-self-k : goal.bounds-self-k
bounds-self-k c =
    let at = found-index (find Lifted c.args.self) _ (sym c.find.ensures ∙ c.in-Some.is) in
    omega arith

pub plant_in-requires : goal.plant_in-requires
plant_in-requires c =
    let p = c.args.self in
    let eight : length c.args.self.breaks ≡ 8 = search rules in
    let at = found-index (find Lifted p) _ (sym c.find.ensures ∙ c.in-Some.is) in
    let u = (matches-lifted _ (find-matches Lifted p eight at.low)).0 in
    (rw at.same at at.low, rw at.same at (c.requires (find Lifted p) at.low u))

pub returns : goal.returns
unfolding replanted
returns c =
    let at = found-index (find Lifted c.args.self) _ (sym c.find.ensures ∙ c.in-Some.is) in
    rw (lt-ltb _ _ at.low, at.same) c.plant_in.ensures
