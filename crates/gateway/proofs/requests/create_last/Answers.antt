-- `gateway::requests::create_last` meets its contract: that of CREATE at its process, in the first of the free bytes. Assumes nothing.
use mathlib.Core.Path.{ap, ◌∙◌}
use Prim.Native.Nat.{◌+◌, ◌≤◌}
use native.Mathlib.Omega.{arith}
use lib.ListN.{length}
use Rattle.lists.specs.Buffer.{Bytes}
use Rattle.rules.specs.Tests.{lent}
use Rattle.rules.specs.Isolation.{is_granted}
use Rattle.service.specs.At.{ProcessResult}
use Rattle.service.proofs.AtLaws.{created-there, created-granted}
use Rattle.state_bytes.specs.State.{state_of, with_start_bytes}
use Rattle.gateway.proofs.PartLaws.{part-size, slot-back}
use Rattle.gateway.proofs.AskedLaws.{asked-new, lowest-is-absent}
use Rattle.gateway.proofs.LentLaws.{request-fits}
use Rattle.gateway.proofs.FinishLaws.{last-bytes, finished-last}
use Rattle.gateway.proofs.requests.create_last.Goals as goal

pub read_process_at-process-requires : goal.read_process_at-process-requires
read_process_at-process-requires c =
    record {
      p_lt_process_count = c.requires.pid_bound.0;
      state_width_in_bounds = omega (arith, (request-fits c.args.state.now c.args.memory.now c.args.reply.now c.requires.reply_value).long);
    }

pub slice_bounds-answer_create-end : goal.slice_bounds-answer_create-end
slice_bounds-answer_create-end c =
    omega (arith, c.requires.pid_bound.2, (request-fits c.args.state.now c.args.memory.now c.args.reply.now c.requires.reply_value).ready.memory)

pub answer_create-served-requires : goal.answer_create-served-requires
answer_create-served-requires c =
    let fit = request-fits c.args.state.now c.args.memory.now c.args.reply.now c.requires.reply_value in
    let fits : c.args.start + c.args.size ≤ length c.args.memory.now = omega (arith, c.requires.pid_bound.2, fit.ready.memory) in
    record {
      pid_bound = c.requires.pid_bound.0;
      size_value = (c.requires.pid_value.1, part-size c.args.start c.args.size c.args.memory.now fits, c.requires.pid_bound.1);
      message_bytes_in_bounds = fit.room;
    }

pub put_start-requires : goal.put_start-requires
put_start-requires c =
    record {
      p_lt_process_count = c.requires.pid_bound.0;
      state_len = (request-fits c.args.state.now c.args.memory.now c.args.reply.now c.requires.reply_value).long;
    }

pub put_process_at-requires : goal.put_process_at-requires
put_process_at-requires c =
    record {
      p_lt_process_count = c.requires.pid_bound.0;
      state_len = c.put_start.auto.state ∙ (request-fits c.args.state.now c.args.memory.now c.args.reply.now c.requires.reply_value).long;
    }

pub returns : goal.returns
returns c =
    λ string.
    let st = lent (state_of c.args.state.now) c.args.memory.now in
    let ready = (request-fits c.args.state.now c.args.memory.now c.args.reply.now c.requires.reply_value).ready in
    let formed = (request-fits c.args.state.now c.args.memory.now c.args.reply.now c.requires.reply_value).formed in
    let low = c.requires.pid_bound.0 in
    let bytes : Bytes c.args.state.now = λ i. omega (arith, c.slice_known-1.given i) in
    let more : Bytes (with_start_bytes c.args.pid c.args.start c.args.state.now) = λ i. rw (← c.put_start.ensures) (omega (arith, c.slice_known-6-1.given i)) in
    let fits : c.args.start + c.args.size ≤ length c.args.memory.now = omega (arith, c.requires.pid_bound.2, ready.memory) in
    let absent = rw (← c.requires.pid_value.0) at (lowest-is-absent st ready (rw c.requires.pid_value.0 at low)) in
    let there = ap (λ (x : ProcessResult). x.left.process.there) c.answer_create-served.ensures ∙ created-there c.args.pid c.args.h c.args.reply.now in
    let granted = ap (λ (x : ProcessResult). is_granted x.answer.outcome) c.answer_create-served.ensures ∙ created-granted c.args.pid c.args.h c.args.reply.now in
    let new = asked-new c.args.h string c.args.reply.now st c.requires.cmd_value c.args.pid c.requires.pid_value.0 low (omega (arith, c.requires.pid_bound.2, c.requires.pid_value.1, c.requires.pid_value.2)) in
    rw (c.put_process_at.ensures, c.put_start.ensures, last-bytes c.args.state.now c.args.memory.now bytes formed c.args.pid c.args.start c.answer_create-served.result.process c.answer_create-served.new.bytes low c.requires.pid_value.2 more, slot-back c.args.start c.args.size c.args.memory.now fits c.answer_create-served.new.bytes c.answer_create-served.auto.bytes, c.requires.pid_value.2)
    (finished-last c.args.state.now c.args.memory.now bytes formed c.args.pid _ _ _ _ c.answer_create-served.ensures _ new absent there granted)
