-- `gateway::pup_door::packet_known` meets its contract: that of the packet at its process, in the part of memory and the bytes of the state that are
-- the process's. Assumes nothing.
use mathlib.Core.Path.{refl, ap, ◌∙◌}
use native.Mathlib.Omega.{arith}
use Rattle.lists.specs.Buffer.{Bytes}
use Rattle.rules.specs.Tests.{lent}
use Rattle.rules.specs.Step.{local_of}
use Rattle.state_bytes.specs.State.{state_of}
use Rattle.service.specs.At.{ProcessResult}
use Rattle.gateway.specs.Stage.{packet_step_at}
use Rattle.gateway.proofs.PartLaws.{part-inside, part-back, local-part, tested-part}
use Rattle.gateway.proofs.PacketLaws.{packet-stays}
use Rattle.gateway.proofs.LentLaws.{ack-fits}
use Rattle.gateway.proofs.FinishLaws.{finished-served}
use Rattle.gateway.proofs.pup_door.packet_known.Goals as goal

pub read_process_at-process-requires : goal.read_process_at-process-requires
read_process_at-process-requires c =
    let fit = ack-fits c.args.state.now c.args.memory.now c.args.out.now c.requires.out_value in
    record {
      p_lt_process_count = c.requires.pid_bound.0;
      state_width_in_bounds = omega (arith, fit.long);
    }

pub start_of-start-requires : goal.start_of-start-requires
start_of-start-requires c =
    let fit = ack-fits c.args.state.now c.args.memory.now c.args.out.now c.requires.out_value in
    record {
      pid_bound = c.requires.pid_bound.0;
      state_width_in_bounds = omega (arith, fit.long);
    }

pub overflow_add-end : goal.overflow_add-end
overflow_add-end c =
    let fit = ack-fits c.args.state.now c.args.memory.now c.args.out.now c.requires.out_value in
    let st = lent (state_of c.args.state.now) c.args.memory.now in
    omega (arith, fit.ready.memory, part-inside st fit.ready c.args.pid c.start_of-start.result c.extent.result c.read_process_at-process.result c.requires.pid_bound.0 c.start_of-start.ensures c.read_process_at-process.ensures c.extent.ensures)

pub slice_bounds-packet_for_process-end : goal.slice_bounds-packet_for_process-end
slice_bounds-packet_for_process-end c =
    let fit = ack-fits c.args.state.now c.args.memory.now c.args.out.now c.requires.out_value in
    let st = lent (state_of c.args.state.now) c.args.memory.now in
    part-inside st fit.ready c.args.pid c.start_of-start.result c.extent.result c.read_process_at-process.result c.requires.pid_bound.0 c.start_of-start.ensures c.read_process_at-process.ensures c.extent.ensures

pub packet_for_process-served-requires : goal.packet_for_process-served-requires
packet_for_process-served-requires c =
    let fit = ack-fits c.args.state.now c.args.memory.now c.args.out.now c.requires.out_value in
    let st = lent (state_of c.args.state.now) c.args.memory.now in
    record {
      tested = tested-part st fit.ready c.args.pid c.start_of-start.result c.extent.result c.read_process_at-process.result c.requires.pid_bound.0 c.start_of-start.ensures c.read_process_at-process.ensures c.extent.ensures;
      words_value = c.requires.pid_bound.1;
      ack_words_in_bounds = fit.room;
    }

pub keep-requires : goal.keep-requires
keep-requires c =
    let fit = ack-fits c.args.state.now c.args.memory.now c.args.out.now c.requires.out_value in
    record {
      pid_bound = c.requires.pid_bound.0;
      state_len = fit.long;
    }

pub returns : goal.returns
unfolding packet_step_at
returns c =
    let fit = ack-fits c.args.state.now c.args.memory.now c.args.out.now c.requires.out_value in
    let st = lent (state_of c.args.state.now) c.args.memory.now in
    let bytes : Bytes c.args.state.now = λ k. omega (arith, c.slice_known-1.given k) in
    let does = rw (local-part st fit.ready c.args.pid c.start_of-start.result c.extent.result c.read_process_at-process.result c.requires.pid_bound.0 c.start_of-start.ensures c.read_process_at-process.ensures c.extent.ensures) at c.packet_for_process-served.ensures in
    let stays = ap (λ (z : ProcessResult). z.left.process.there) does ∙ packet-stays c.args.kind c.args.id c.args.words.now c.args.out.now (local_of st c.args.pid) in
    rw (c.keep.ensures, part-back st fit.ready c.args.pid c.start_of-start.result c.extent.result c.read_process_at-process.result c.requires.pid_bound.0 c.start_of-start.ensures c.read_process_at-process.ensures c.extent.ensures c.packet_for_process-served.new.bytes c.packet_for_process-served.auto.bytes)
    (finished-served c.args.state.now c.args.memory.now bytes fit.formed c.args.pid _ _ _ _ does _ refl c.requires.pid_bound.0 stays)
