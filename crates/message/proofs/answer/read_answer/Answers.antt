-- `message::answer::read_answer` meets its contract: under ten bytes there is no message, and else the form found is that of the CMD in the message. Assumes nothing.
use mathlib.Core.Path.{ap, ◌∙◌}
use Rattle.format.specs.declared.header.Header.{Header}
use Rattle.ops.specs.Table.{answer_form}
use Rattle.message.specs.Exchange.{reads}
use Rattle.message.proofs.ExchangeLaws.{reads_short}
use Rattle.message.proofs.answer.read_answer.Goals as goal

pub returns-then-message-lt-HEADER_BYTES : goal.returns-then-message-lt-HEADER_BYTES
returns-then-message-lt-HEADER_BYTES c = reads_short answer_form c.args.message.now c.if-message-lt-HEADER_BYTES.true

pub returns : goal.returns
unfolding reads
returns c =
    let e = c.answer_form.ensures ∙ ap (λ (h : Header). answer_form h.cmd) c.of-h.ensures in
    rw (← e) c.read.ensures
