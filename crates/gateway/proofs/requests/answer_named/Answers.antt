-- `gateway::requests::answer_named` meets its contract: that of the request at its process, in the part of memory and the bytes of the state
-- that are the process's; one that is destroyed is taken out. Assumes nothing.
use mathlib.Core.Path.{◌≡◌, ap, sym, ◌∙◌}
use mathlib.Core.Bool.{true}
use native.Mathlib.Omega.{arith}
use Rattle.lists.specs.Buffer.{Bytes}
use Rattle.process.specs.declared.record.Process.{Process}
use Rattle.rules.specs.Tests.{lent, record_of}
use Rattle.rules.specs.Step.{local_of}
use Rattle.rules.specs.Isolation.{is_granted}
use Rattle.state_bytes.specs.State.{state_of}
use Rattle.service.specs.At.{ProcessResult}
use Rattle.service.proofs.AtLaws.{unchanged, granted-there, refused-left, destroyed-gone, others-stay}
use Rattle.gateway.proofs.PartLaws.{part_count, part-begins, part-inside, part-back, part-long, local-part, tested-part, gone-back}
use Rattle.gateway.proofs.AskedLaws.{asked-named}
use Rattle.gateway.proofs.LentLaws.{request-fits}
use Rattle.gateway.proofs.FinishLaws.{finished-served, finished-removed, finished-kept}
use Rattle.gateway.proofs.requests.answer_named.Goals as goal

pub read_process_at-process-requires : goal.read_process_at-process-requires
read_process_at-process-requires c =
    record {
      p_lt_process_count = c.requires.cmd_value.2;
      state_width_in_bounds = omega (arith, (request-fits c.args.state.now c.args.memory.now c.args.reply.now c.requires.reply_value).long);
    }

pub start_of-start-requires : goal.start_of-start-requires
start_of-start-requires c =
    record {
      pid_bound = c.requires.cmd_value.2;
      state_width_in_bounds = omega (arith, (request-fits c.args.state.now c.args.memory.now c.args.reply.now c.requires.reply_value).long);
    }

pub overflow_add-end : goal.overflow_add-end
overflow_add-end c =
    let st = lent (state_of c.args.state.now) c.args.memory.now in
    let ready = (request-fits c.args.state.now c.args.memory.now c.args.reply.now c.requires.reply_value).ready in
    omega (arith, ready.memory, part-inside st ready c.args.pid c.start_of-start.result c.extent-size.result c.read_process_at-process.result c.requires.cmd_value.2 c.start_of-start.ensures c.read_process_at-process.ensures c.extent-size.ensures)

pub slice_bounds-answer_for_process-end : goal.slice_bounds-answer_for_process-end
slice_bounds-answer_for_process-end c =
    let st = lent (state_of c.args.state.now) c.args.memory.now in
    let ready = (request-fits c.args.state.now c.args.memory.now c.args.reply.now c.requires.reply_value).ready in
    part-inside st ready c.args.pid c.start_of-start.result c.extent-size.result c.read_process_at-process.result c.requires.cmd_value.2 c.start_of-start.ensures c.read_process_at-process.ensures c.extent-size.ensures

pub answer_for_process-served-requires : goal.answer_for_process-served-requires
answer_for_process-served-requires c =
    let st = lent (state_of c.args.state.now) c.args.memory.now in
    let ready = (request-fits c.args.state.now c.args.memory.now c.args.reply.now c.requires.reply_value).ready in
    record {
      tested = tested-part st ready c.args.pid c.start_of-start.result c.extent-size.result c.read_process_at-process.result c.requires.cmd_value.2 c.start_of-start.ensures c.read_process_at-process.ensures c.extent-size.ensures;
      string_len_bound = c.requires.string_len_bound;
      message_bytes_in_bounds = (request-fits c.args.state.now c.args.memory.now c.args.reply.now c.requires.reply_value).room;
    }

pub remove-requires : goal.remove-requires
remove-requires c =
    let st = lent (state_of c.args.state.now) c.args.memory.now in
    let ready = (request-fits c.args.state.now c.args.memory.now c.args.reply.now c.requires.reply_value).ready in
    let does = rw (local-part st ready c.args.pid c.start_of-start.result c.extent-size.result c.read_process_at-process.result c.requires.cmd_value.2 c.start_of-start.ensures c.read_process_at-process.ensures c.extent-size.ensures) at c.answer_for_process-served.ensures in
    let there : is_granted c.answer_for_process-served.result.outcome ≡ true → (record_of st c.args.pid).there ≡ true = λ g.
    granted-there c.args.h c.args.string.now c.args.reply.now (local_of st c.args.pid) (ap (λ (z : ProcessResult). is_granted z.answer.outcome) (sym does) ∙ g) in record {
      pid_value = (there, c.requires.cmd_value.2);
      start_value = (λ g. part-begins st ready c.args.pid c.start_of-start.result c.extent-size.result c.read_process_at-process.result c.requires.cmd_value.2 c.start_of-start.ensures c.read_process_at-process.ensures c.extent-size.ensures (ap (λ (z : Process). z.there) c.read_process_at-process.ensures ∙ there g), part_count st ready c.args.pid c.start_of-start.result c.extent-size.result c.read_process_at-process.result c.requires.cmd_value.2 c.start_of-start.ensures c.read_process_at-process.ensures c.extent-size.ensures);
      state_value = ((request-fits c.args.state.now c.args.memory.now c.args.reply.now c.requires.reply_value).sound, part-long st ready c.args.pid c.start_of-start.result c.extent-size.result c.read_process_at-process.result c.requires.cmd_value.2 c.start_of-start.ensures c.read_process_at-process.ensures c.extent-size.ensures c.answer_for_process-served.new.bytes c.answer_for_process-served.auto.bytes ∙ ready.memory);
    }

pub returns-then-h-eq-DESTROY : goal.returns-then-h-eq-DESTROY
returns-then-h-eq-DESTROY c =
    let st = lent (state_of c.args.state.now) c.args.memory.now in
    let ready = (request-fits c.args.state.now c.args.memory.now c.args.reply.now c.requires.reply_value).ready in
    let bytes : Bytes c.args.state.now = λ i. omega (arith, c.slice_known-1.given i) in
    let formed = (request-fits c.args.state.now c.args.memory.now c.args.reply.now c.requires.reply_value).formed in
    let does = rw (local-part st ready c.args.pid c.start_of-start.result c.extent-size.result c.read_process_at-process.result c.requires.cmd_value.2 c.start_of-start.ensures c.read_process_at-process.ensures c.extent-size.ensures) at c.answer_for_process-served.ensures in
    let outcome = ap (λ (z : ProcessResult). is_granted z.answer.outcome) (sym does) in
    let left = local_of st c.args.pid in
    let there : is_granted c.answer_for_process-served.result.outcome ≡ true → (record_of st c.args.pid).there ≡ true = λ g. granted-there c.args.h c.args.string.now c.args.reply.now left (outcome ∙ g) in
    rw (c.remove.ensures.state_after, c.remove.ensures.memory_after)
    (finished-removed c.args.state.now c.args.memory.now bytes formed c.args.pid _ _ _ _ does _ (asked-named c.args.h c.args.string.now c.args.reply.now st c.args.pid c.requires.cmd_value) _ (part-back st ready c.args.pid c.start_of-start.result c.extent-size.result c.read_process_at-process.result c.requires.cmd_value.2 c.start_of-start.ensures c.read_process_at-process.ensures c.extent-size.ensures c.answer_for_process-served.new.bytes c.answer_for_process-served.auto.bytes)
    (λ g. (
      there g,
      ap (λ (z : ProcessResult). z.left.process.there) does ∙ destroyed-gone c.args.h c.args.string.now c.args.reply.now left c.if-h-eq-DESTROY.true (outcome ∙ g),
      gone-back st ready c.args.pid c.start_of-start.result c.extent-size.result c.read_process_at-process.result c.requires.cmd_value.2 c.start_of-start.ensures c.read_process_at-process.ensures c.extent-size.ensures c.answer_for_process-served.new.bytes c.answer_for_process-served.auto.bytes (ap (λ (z : Process). z.there) c.read_process_at-process.ensures ∙ there g) _,
    ))
    (λ g. refused-left c.args.h c.args.string.now c.args.reply.now left (outcome ∙ g)))

pub keep-requires : goal.keep-requires
keep-requires c =
    record {
      pid_bound = c.requires.cmd_value.2;
      state_len = (request-fits c.args.state.now c.args.memory.now c.args.reply.now c.requires.reply_value).long;
    }

pub returns-then-changes : goal.returns-then-changes
returns-then-changes c =
    let st = lent (state_of c.args.state.now) c.args.memory.now in
    let ready = (request-fits c.args.state.now c.args.memory.now c.args.reply.now c.requires.reply_value).ready in
    let bytes : Bytes c.args.state.now = λ i. omega (arith, c.slice_known-1.given i) in
    let formed = (request-fits c.args.state.now c.args.memory.now c.args.reply.now c.requires.reply_value).formed in
    let does = rw (local-part st ready c.args.pid c.start_of-start.result c.extent-size.result c.read_process_at-process.result c.requires.cmd_value.2 c.start_of-start.ensures c.read_process_at-process.ensures c.extent-size.ensures) at c.answer_for_process-served.ensures in
    let stays = ap (λ (z : ProcessResult). z.left.process.there) does ∙ others-stay c.args.h c.args.string.now c.args.reply.now (local_of st c.args.pid) c.if-h-eq-DESTROY.false in
    rw (c.keep.ensures, part-back st ready c.args.pid c.start_of-start.result c.extent-size.result c.read_process_at-process.result c.requires.cmd_value.2 c.start_of-start.ensures c.read_process_at-process.ensures c.extent-size.ensures c.answer_for_process-served.new.bytes c.answer_for_process-served.auto.bytes)
    (finished-served c.args.state.now c.args.memory.now bytes formed c.args.pid _ _ _ _ does _ (asked-named c.args.h c.args.string.now c.args.reply.now st c.args.pid c.requires.cmd_value) c.requires.cmd_value.2 stays)

pub returns-else-changes : goal.returns-else-changes
returns-else-changes c =
    let st = lent (state_of c.args.state.now) c.args.memory.now in
    let ready = (request-fits c.args.state.now c.args.memory.now c.args.reply.now c.requires.reply_value).ready in
    let bytes : Bytes c.args.state.now = λ i. omega (arith, c.slice_known-1.given i) in
    let formed = (request-fits c.args.state.now c.args.memory.now c.args.reply.now c.requires.reply_value).formed in
    let does = rw (local-part st ready c.args.pid c.start_of-start.result c.extent-size.result c.read_process_at-process.result c.requires.cmd_value.2 c.start_of-start.ensures c.read_process_at-process.ensures c.extent-size.ensures) at c.answer_for_process-served.ensures in
    let same = unchanged c.args.h c.args.string.now c.args.reply.now (local_of st c.args.pid) (sym c.changes.ensures ∙ c.if-changes.false) in
    rw (part-back st ready c.args.pid c.start_of-start.result c.extent-size.result c.read_process_at-process.result c.requires.cmd_value.2 c.start_of-start.ensures c.read_process_at-process.ensures c.extent-size.ensures c.answer_for_process-served.new.bytes c.answer_for_process-served.auto.bytes)
    (finished-kept c.args.state.now c.args.memory.now bytes formed c.args.pid _ _ _ _ does _ (asked-named c.args.h c.args.string.now c.args.reply.now st c.args.pid c.requires.cmd_value) same)
