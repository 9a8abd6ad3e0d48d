-- `calls::call::make_report` meets its contract: what is put is the notice of the call and the line that it answers. Assumes nothing.
use native.Mathlib.Omega.{arith}
use lib.ListN.{take, length-take}
use Rattle.rules.specs.Step.{report}
use Rattle.gateway.specs.Called.{call_on, Did}
use Rattle.calls.specs.Meaning.{report_made}
use Rattle.calls.proofs.ShownLaws.{answer-short, does-report}
use Rattle.calls.proofs.call.make_report.Goals as goal

pub overflow_sub-end : goal.overflow_sub-end
overflow_sub-end c =
    let notice = c.report-told.new.notice in
    omega (arith, c.put_answer-end.ensures.value, (answer-short c.number_of.result (take c.at_most-n.result notice) (omega arith)).0)

pub put_beside-requires : goal.put_beside-requires
put_beside-requires c =
    let notice = c.report-told.new.notice in
    let line = c.report-told.new.line in
    omega (arith, c.put_answer-end.ensures.value, (answer-short c.number_of.result (take c.at_most-n.result notice) (omega arith)).1, length-take c.at_most-n.result notice, length-take c.at_most-k.result line, c.requires)

pub returns : goal.returns
unfolding report_made Did
returns c =
    let notice = c.report-told.new.notice in
    let line = c.report-told.new.line in
    rw (← c.zero_buffer-notice.ensures, ← c.zero_line-line.ensures)
    (does-report c.args.shown c.report-told.result.outcome c.report-told.result.line c.report-told.new.state c.report-told.new.memory notice line (call_on c.args.state.now c.args.memory.now (report c.args.read.process c.args.read.kind c.args.read.reason c.args.read.words c.zero_buffer-notice.result c.zero_line-line.result)) c.report-told.ensures
    c.number_of.result c.notice_length.result c.at_most-n.result c.at_most-k.result c.put_answer-end.result c.put_beside.result c.args.out.now _ _
    (omega arith) (omega (arith, length-take c.at_most-n.result notice, length-take c.at_most-k.result line, c.requires))
    c.number_of.ensures c.notice_length.ensures c.at_most-n.ensures.0 c.at_most-k.ensures.0 c.put_answer-end.ensures.value c.put_answer-end.ensures.out_after c.put_beside.ensures)
