-- `process::record::Process::entries_sound` meets its contract. The loop's invariant: every entry passed keeps the rules. Assumes nothing.
use mathlib.Core.Path.{◌≡◌, refl, sym, ◌∙◌}
use native.Mathlib.Omega.{arith}
use borrow.Author.Tests.{le-ltb}
use borrow.Author.Rules.{rules}
use lib.ListN.{length}
use Rattle.breakpoints.specs.declared.entry_query.EntryQuery.TheVariants.{Lifted}
use Rattle.process.specs.Find.{find}
use Rattle.process.proofs.FindLaws.{find-next}
use Rattle.process.specs.Sound.{entry_sound}
use Rattle.lists.proofs.Every.{below_more, below_fails}
use Rattle.process.proofs.record.Process.entries_sound.Goals as goal

pub loop-k-init : goal.loop-k-init
loop-k-init c = (refl, sym (le-ltb (find Lifted c.args.self) 0 (omega arith)))

pub entry_sound-requires-clause-earlier_value : goal.entry_sound-requires-clause-earlier_value
entry_sound-requires-clause-earlier_value c = c.loop-k.invariant.1

pub returns-then-not-entry_sound : goal.returns-then-not-entry_sound
returns-then-not-entry_sound c =
    sym (below_fails (entry_sound c.args.self) 8 c.loop-k.k c.loop-k-test.true (sym c.entry_sound.ensures ∙ c.if-not-entry_sound.true))

pub loop-k-preserved : goal.loop-k-preserved
loop-k-preserved c =
    let p = c.args.self in
    let eight : length c.args.self.breaks ≡ 8 = search rules in
    let holds = sym c.entry_sound.ensures ∙ c.if-not-entry_sound.false in (
      below_more (entry_sound p) c.loop-k.k c.loop-k.invariant.0 holds,
      c.lifted_or-earlier.ensures ∙ find-next Lifted p eight c.loop-k.k c.loop-k-test.true c.loop-k.earlier c.loop-k.invariant.1,
    )

pub returns : goal.returns
returns c = let end : c.loop-k.k ≡ 8 = omega arith in sym (rw end at c.loop-k.invariant.0)
