-- `gateway::text_lines::line_known` meets its contract: that of the line at its process, in the part of memory and the bytes of the state that
-- are the process's. Assumes nothing.
use mathlib.Core.Path.{refl, ap, ◌∙◌}
use native.Mathlib.Omega.{arith}
use Rattle.lists.specs.Buffer.{Bytes}
use Rattle.rules.specs.Tests.{lent}
use Rattle.rules.specs.Step.{local_of}
use Rattle.state_bytes.specs.State.{state_of}
use Rattle.service.specs.At.{ProcessResult}
use Rattle.gateway.specs.Stage.{line_step}
use Rattle.gateway.proofs.PartLaws.{part-inside, part-back, local-part, tested-part}
use Rattle.gateway.proofs.TextLaws.{line_stays}
use Rattle.gateway.proofs.LentLaws.{line-fits}
use Rattle.gateway.proofs.FinishLaws.{finished-served}
use Rattle.gateway.proofs.text_lines.line_known.Goals as goal

pub read_process_at-process-requires : goal.read_process_at-process-requires
read_process_at-process-requires c =
    record {
      p_lt_process_count = c.requires.pid_bound;
      state_width_in_bounds = omega (arith, (line-fits c.args.state.now c.args.memory.now c.args.out.now c.requires.out_value).long);
    }

pub start_of-start-requires : goal.start_of-start-requires
start_of-start-requires c =
    record {
      pid_bound = c.requires.pid_bound;
      state_width_in_bounds = omega (arith, (line-fits c.args.state.now c.args.memory.now c.args.out.now c.requires.out_value).long);
    }

pub overflow_add-end : goal.overflow_add-end
overflow_add-end c =
    let st = lent (state_of c.args.state.now) c.args.memory.now in
    let low = c.requires.pid_bound in
    let fit = line-fits c.args.state.now c.args.memory.now c.args.out.now c.requires.out_value in
    omega (arith, fit.ready.memory, part-inside st fit.ready c.args.line.pid c.start_of-start.result c.extent.result c.read_process_at-process.result low c.start_of-start.ensures c.read_process_at-process.ensures c.extent.ensures)

pub slice_bounds-line_for_process-end : goal.slice_bounds-line_for_process-end
slice_bounds-line_for_process-end c =
    let st = lent (state_of c.args.state.now) c.args.memory.now in
    let low = c.requires.pid_bound in
    let fit = line-fits c.args.state.now c.args.memory.now c.args.out.now c.requires.out_value in
    part-inside st fit.ready c.args.line.pid c.start_of-start.result c.extent.result c.read_process_at-process.result low c.start_of-start.ensures c.read_process_at-process.ensures c.extent.ensures

pub line_for_process-served-requires : goal.line_for_process-served-requires
line_for_process-served-requires c =
    let st = lent (state_of c.args.state.now) c.args.memory.now in
    let low = c.requires.pid_bound in
    let fit = line-fits c.args.state.now c.args.memory.now c.args.out.now c.requires.out_value in
    record {
      tested = tested-part st fit.ready c.args.line.pid c.start_of-start.result c.extent.result c.read_process_at-process.result low c.start_of-start.ensures c.read_process_at-process.ensures c.extent.ensures;
      line_bytes_in_bounds = fit.room;
    }

pub keep-requires : goal.keep-requires
keep-requires c =
    record {
      pid_bound = c.requires.pid_bound;
      state_len = (line-fits c.args.state.now c.args.memory.now c.args.out.now c.requires.out_value).long;
    }

pub returns : goal.returns
unfolding line_step
returns c =
    let st = lent (state_of c.args.state.now) c.args.memory.now in
    let low = c.requires.pid_bound in
    let fit = line-fits c.args.state.now c.args.memory.now c.args.out.now c.requires.out_value in
    let bytes : Bytes c.args.state.now = λ i. omega (arith, c.slice_known-1.given i) in
    let does = rw (local-part st fit.ready c.args.line.pid c.start_of-start.result c.extent.result c.read_process_at-process.result low c.start_of-start.ensures c.read_process_at-process.ensures c.extent.ensures) at c.line_for_process-served.ensures in
    let stays = ap (λ (z : ProcessResult). z.left.process.there) does ∙ line_stays c.args.line c.args.out.now (local_of st c.args.line.pid) in
    rw (c.keep.ensures, part-back st fit.ready c.args.line.pid c.start_of-start.result c.extent.result c.read_process_at-process.result low c.start_of-start.ensures c.read_process_at-process.ensures c.extent.ensures c.line_for_process-served.new.bytes c.line_for_process-served.auto.bytes)
    (finished-served c.args.state.now c.args.memory.now bytes fit.formed c.args.line.pid _ _ _ _ does _ refl low stays)
