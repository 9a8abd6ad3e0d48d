-- `calls::call::answer_report` meets its contract, by whether the numbers are right. Assumes nothing.
use Rattle.calls.specs.Meaning.{report_effect}
use Rattle.calls.proofs.MeaningLaws.{does-right, does-wrong}
use Rattle.calls.proofs.call.answer_report.Goals as goal

pub returns-in_default : goal.returns-in_default
unfolding report_effect
returns-in_default c = does-wrong _ _ _ _ _ _ _ _ _ c.in_default.ensures c.answer_unknown.ensures

pub returns : goal.returns
unfolding report_effect
returns c =
    let read = c.in-Some.ensures in
    does-right _ _ _ _ _ _ _ _ _ read.right (rw (read.process, read.kind, read.reason, read.words) at c.make_report.ensures)
