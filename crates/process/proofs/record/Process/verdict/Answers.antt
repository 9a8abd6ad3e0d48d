-- `process::record::Process::verdict` meets its contract: at each `return` the tests that led there say its value. Assumes nothing.
use mathlib.Core.Path.{sym, ◌∙◌}
use native.Mathlib.Omega.{arith}
use borrow.Author.Tests.{eq-eqb, ne_eqb, lt-ltb, le-ltb}
use Rattle.breakpoints.specs.declared.entry_query.EntryQuery.TheVariants.{At}
use Rattle.process.specs.Find.{find}
use Rattle.process.specs.Request.{has_break}
use Rattle.process.specs.Report.{passes, notice_host, verdict_of}
use Rattle.process.proofs.FindLaws.{found-index, found_nowhere}
use Rattle.process.proofs.record.Process.verdict.Goals as goal

pub returns-then-goes_on : goal.returns-then-goes_on
unfolding verdict_of
returns-then-goes_on c = rw (← c.goes_on.ensures, c.if-goes_on.true)

pub returns-then-kind-ne-BPT : goal.returns-then-kind-ne-BPT
unfolding verdict_of passes notice_host
returns-then-kind-ne-BPT c = rw (← c.goes_on.ensures, c.if-goes_on.false, ne_eqb _ _ c.if-kind-ne-BPT.true)

pub returns-in_default : goal.returns-in_default
unfolding verdict_of passes notice_host has_break
returns-in_default c =
    let none = found_nowhere (find (At c.pc.result) c.args.self) (sym c.find.ensures ∙ c.in_default.is) in
    rw (← c.goes_on.ensures, c.if-goes_on.false, eq-eqb _ _ c.if-kind-ne-BPT.false, ← c.pc.ensures, le-ltb _ _ none)

pub offset_bounds-self-k : goal.offset_bounds-self-k
offset_bounds-self-k c =
    let at = found-index (find (At c.pc.result) c.args.self) _ (sym c.find.ensures ∙ c.in-Some.is) in
    omega arith

pub bounds-self-k : goal.bounds-self-k
bounds-self-k c =
    let at = found-index (find (At c.pc.result) c.args.self) _ (sym c.find.ensures ∙ c.in-Some.is) in
    omega arith

pub returns-then-b-gt0 : goal.returns-then-b-gt0
unfolding verdict_of passes has_break
returns-then-b-gt0 c =
    let at = found-index (find (At c.pc.result) c.args.self) _ (sym c.find.ensures ∙ c.in-Some.is) in
    rw (← c.goes_on.ensures, c.if-goes_on.false, eq-eqb _ _ c.if-kind-ne-BPT.false, ← c.pc.ensures, lt-ltb _ _ at.low, at.same, lt-ltb _ _ c.if-b-gt0.true)

pub returns : goal.returns
unfolding verdict_of passes notice_host has_break
returns c =
    let at = found-index (find (At c.pc.result) c.args.self) _ (sym c.find.ensures ∙ c.in-Some.is) in
    rw (← c.goes_on.ensures, c.if-goes_on.false, eq-eqb _ _ c.if-kind-ne-BPT.false, ← c.pc.ensures, lt-ltb _ _ at.low, at.same, le-ltb _ _ c.if-b-gt0.false)
