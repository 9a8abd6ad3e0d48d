-- `process::record::Process::lift_sound` meets its contract: at each `return` the tests that led there say its value. Assumes nothing.
use mathlib.Core.Path.{◌≡◌, refl, sym, ◌∙◌}
use mathlib.Core.Bool.{Bool, true, false, ◌&&◌}
use Rattle.run_state.specs.RunState.{stepping_or_passing}
use borrow.Author.Tests.{eq-eqb, ltb-false}
use lib.ListN.{length}
use Rattle.breakpoints.specs.declared.entry_query.EntryQuery.TheVariants.{Lifted}
use Rattle.process.specs.Record.{entry}
use Rattle.process.specs.Find.{find}
use Rattle.process.specs.Sound.{lift_sound}
use Rattle.process.proofs.FindLaws.{lifted-matches, find-here}
use borrow.Author.Rules.{rules}
use Rattle.process.proofs.record.Process.lift_sound.Goals as goal

and-true : (t : Bool) → t ≡ t && true
and-true true = refl
and-true false = refl

pub returns-then-not-earlier : goal.returns-then-not-earlier
unfolding lift_sound
returns-then-not-earlier c =
    let lifted = sym c.requires.2 ∙ c.if-not-lifted.false in
    let eight : length c.args.self.breaks ≡ 8 = search rules in
    let none = ltb-false (find Lifted c.args.self) c.args.k (sym c.requires.3 ∙ c.if-not-earlier.true) in
    let here = find-here Lifted c.args.self eight c.args.k c.requires.0 none (lifted-matches (entry c.args.self c.args.k) c.requires.1 lifted) in
    rw (lifted, eq-eqb (find Lifted c.args.self) c.args.k here) (c.stepping_or_passing.ensures ∙ and-true (stepping_or_passing c.args.self.run))
