-- `gateway::reports::report_known` meets its contract: that of the report at its process, in the part of memory and the bytes of the state that
-- are the process's. Assumes nothing.
use mathlib.Core.Path.{ap, ◌∙◌}
use native.Mathlib.Omega.{arith}
use Rattle.lists.specs.Buffer.{Bytes}
use Rattle.rules.specs.Tests.{lent, no_report_room}
use Rattle.rules.specs.Step.{local_of}
use Rattle.state_bytes.specs.State.{state_of}
use Rattle.service.specs.At.{ProcessResult}
use Rattle.gateway.proofs.PartLaws.{part-inside, part-back, local-part, tested-part}
use Rattle.gateway.proofs.ReportLaws.{report-stays, report-low, report-heard}
use Rattle.gateway.proofs.LentLaws.{lent-passes, report-fits}
use Rattle.gateway.proofs.FinishLaws.{finished-served}
use Rattle.gateway.proofs.reports.report_known.Goals as goal

pub read_process_at-process-requires : goal.read_process_at-process-requires
read_process_at-process-requires c =
    record {
      p_lt_process_count = report-low c.args.pid c.args.kind c.args.reason c.requires.reason_value;
      state_width_in_bounds = omega (arith, (report-fits c.args.state.now c.args.memory.now c.args.notice.now c.args.line.now c.requires.line_value).long);
    }

pub start_of-start-requires : goal.start_of-start-requires
start_of-start-requires c =
    record {
      pid_bound = report-low c.args.pid c.args.kind c.args.reason c.requires.reason_value;
      state_width_in_bounds = omega (arith, (report-fits c.args.state.now c.args.memory.now c.args.notice.now c.args.line.now c.requires.line_value).long);
    }

pub overflow_add-end : goal.overflow_add-end
overflow_add-end c =
    let st = lent (state_of c.args.state.now) c.args.memory.now in
    let low = report-low c.args.pid c.args.kind c.args.reason c.requires.reason_value in
    let fit = report-fits c.args.state.now c.args.memory.now c.args.notice.now c.args.line.now c.requires.line_value in
    omega (arith, fit.ready.memory, part-inside st fit.ready c.args.pid c.start_of-start.result c.extent.result c.read_process_at-process.result low c.start_of-start.ensures c.read_process_at-process.ensures c.extent.ensures)

pub slice_bounds-report_for_process-end : goal.slice_bounds-report_for_process-end
slice_bounds-report_for_process-end c =
    let st = lent (state_of c.args.state.now) c.args.memory.now in
    let low = report-low c.args.pid c.args.kind c.args.reason c.requires.reason_value in
    let fit = report-fits c.args.state.now c.args.memory.now c.args.notice.now c.args.line.now c.requires.line_value in
    part-inside st fit.ready c.args.pid c.start_of-start.result c.extent.result c.read_process_at-process.result low c.start_of-start.ensures c.read_process_at-process.ensures c.extent.ensures

pub report_for_process-served-requires : goal.report_for_process-served-requires
report_for_process-served-requires c =
    let st = lent (state_of c.args.state.now) c.args.memory.now in
    let low = report-low c.args.pid c.args.kind c.args.reason c.requires.reason_value in
    let fit = report-fits c.args.state.now c.args.memory.now c.args.notice.now c.args.line.now c.requires.line_value in
    record {
      tested = tested-part st fit.ready c.args.pid c.start_of-start.result c.extent.result c.read_process_at-process.result low c.start_of-start.ensures c.read_process_at-process.ensures c.extent.ensures;
      message_bytes_in_bounds = fit.room.0;
      line_bytes_in_bounds = fit.room.1;
    }

pub keep-requires : goal.keep-requires
keep-requires c =
    record {
      pid_bound = report-low c.args.pid c.args.kind c.args.reason c.requires.reason_value;
      state_len = (report-fits c.args.state.now c.args.memory.now c.args.notice.now c.args.line.now c.requires.line_value).long;
    }

pub returns : goal.returns
returns c =
    let st = lent (state_of c.args.state.now) c.args.memory.now in
    let low = report-low c.args.pid c.args.kind c.args.reason c.requires.reason_value in
    let fit = report-fits c.args.state.now c.args.memory.now c.args.notice.now c.args.line.now c.requires.line_value in
    let passes = lent-passes c.args.state.now (no_report_room c.args.memory.now c.args.notice.now c.args.line.now) c.args.memory.now c.requires.line_value in
    let bytes : Bytes c.args.state.now = λ i. omega (arith, c.slice_known-1.given i) in
    let does = rw (local-part st fit.ready c.args.pid c.start_of-start.result c.extent.result c.read_process_at-process.result low c.start_of-start.ensures c.read_process_at-process.ensures c.extent.ensures) at c.report_for_process-served.ensures in
    let stays = ap (λ (z : ProcessResult). z.left.process.there) does ∙ report-stays c.args.pid c.args.kind c.args.reason c.args.words c.args.notice.now c.args.line.now (local_of st c.args.pid) in
    rw (c.keep.ensures, part-back st fit.ready c.args.pid c.start_of-start.result c.extent.result c.read_process_at-process.result low c.start_of-start.ensures c.read_process_at-process.ensures c.extent.ensures c.report_for_process-served.new.bytes c.report_for_process-served.auto.bytes)
    (finished-served c.args.state.now c.args.memory.now bytes fit.formed c.args.pid _ _ _ _ does _ (report-heard st c.args.pid c.args.kind c.args.reason c.args.words c.args.notice.now c.args.line.now passes c.requires.reason_value) low stays)
