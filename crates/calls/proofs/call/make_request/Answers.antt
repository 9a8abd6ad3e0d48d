-- `calls::call::make_request` meets its contract: the line is the answer of the call. Assumes nothing.
use Rattle.rules.specs.Step.{request}
use Rattle.gateway.specs.Called.{call_on, Did}
use Rattle.calls.specs.Meaning.{request_made}
use Rattle.calls.proofs.MeaningLaws.{does-answer}
use Rattle.calls.proofs.call.make_request.Goals as goal

pub returns : goal.returns
unfolding request_made Did
returns c =
    rw (← c.zero_buffer-reply.ensures)
    (does-answer c.request-outcome.result c.request-outcome.new.state c.request-outcome.new.memory c.request-outcome.new.reply (call_on c.args.state.now c.args.memory.now (request c.args.message.now c.zero_buffer-reply.result)) c.request-outcome.ensures c.number_of.result c.reply_length.result c.at_most-n.result c.put_answer.result c.args.out.now c.put_answer.new.out c.number_of.ensures c.reply_length.ensures c.at_most-n.ensures.0 (record { size = c.put_answer.ensures.value; fits = c.put_answer.ensures.upper_bound; laid = c.put_answer.ensures.out_after }))
