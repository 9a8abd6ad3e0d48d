-- `gateway::requests::request` meets its contract, stage by stage. Assumes nothing.
use mathlib.Core.Path.{◌≡◌, sym, ◌∙◌}
use Rattle.rules.specs.Tests.{lent, no_room}
use Rattle.rules.specs.Step.{request, step}
use Rattle.rules.specs.Turn.{single}
use Rattle.state_bytes.specs.State.{state_of}
use Rattle.gateway.specs.Called.{Did}
use Rattle.gateway.proofs.AskedLaws.{request-found, refused-found}
use Rattle.gateway.proofs.StageLaws.{request-read, request-asked}
use Rattle.std.proofs.Common.{rules, Err}
use Rattle.format.proofs.OutcomeLaws.{unless-ok}
use Rattle.gateway.proofs.LentLaws.{lent-passes, finished-refused, request-fits, request-unfit, call-fit}
use Rattle.gateway.proofs.requests.request.Goals as goal

pub returns-in_err-check_buffers_and_state : goal.returns-in_err-check_buffers_and_state
unfolding Did
returns-in_err-check_buffers_and_state c =
    let failed = sym c.check_buffers_and_state.ensures ∙ c.in_err-check_buffers_and_state.was in
    let given = c.from_residual.ensures in
    let same : c.from_residual.result ≡ Err c.in_err-check_buffers_and_state.field-0.0 = search rules in
    rw same
    (request-unfit c.args.state.now c.args.memory.now c.args.message.now c.args.reply.now _ failed)

pub answer-requires : goal.answer-requires
answer-requires c =
    record {
      form_value = sym c.in_ok-h.was ∙ c.read_request.ensures;
      reply_value = unless-ok _ _ _ (sym c.check_buffers_and_state.ensures ∙ c.in_ok-check_buffers_and_state.was);
    }

pub returns : goal.returns
unfolding Did step
returns c =
    let zero = unless-ok _ _ _ (sym c.check_buffers_and_state.ensures ∙ c.in_ok-check_buffers_and_state.was) in
    let st = lent (state_of c.args.state.now) c.args.memory.now in
    let passes = lent-passes c.args.state.now (no_room c.args.memory.now c.args.reply.now) c.args.memory.now zero in
    let read = request-found c.args.message.now _ _ (sym c.in_ok-h.was ∙ c.read_request.ensures) in
    rw (call-fit c.args.state.now c.args.memory.now (request-fits c.args.state.now c.args.memory.now c.args.reply.now zero).formed (request c.args.message.now c.args.reply.now), request-asked st c.args.message.now c.args.reply.now _ passes (sym read.0))
    c.answer.ensures

pub returns-in_err-h : goal.returns-in_err-h
unfolding Did step
returns-in_err-h c =
    let zero = unless-ok _ _ _ (sym c.check_buffers_and_state.ensures ∙ c.in_ok-check_buffers_and_state.was) in
    let st = lent (state_of c.args.state.now) c.args.memory.now in
    let passes = lent-passes c.args.state.now (no_room c.args.memory.now c.args.reply.now) c.args.memory.now zero in
    let read = refused-found c.args.message.now _ (sym c.in_err-h.was ∙ c.read_request.ensures) in
    let given = c.from_residual-in_err-h.ensures in
    let same : c.from_residual-in_err-h.result ≡ Err c.in_err-h.field-0.0 = search rules in
    rw (same, call-fit c.args.state.now c.args.memory.now (request-fits c.args.state.now c.args.memory.now c.args.reply.now zero).formed (request c.args.message.now c.args.reply.now), request-read st c.args.message.now c.args.reply.now c.in_err-h.field-0.0.0 passes (sym read))
    (sym (finished-refused c.args.state.now c.args.memory.now (single c.args.reply.now) _))
