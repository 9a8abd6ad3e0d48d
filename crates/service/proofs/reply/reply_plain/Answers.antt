-- `service::reply::reply_plain` meets its contract: the message is sent. Assumes nothing.
use mathlib.Core.Path.{ap}
use Rattle.message.specs.Exchange.{Written, sends}
use Rattle.service.specs.At.{answer}
use Rattle.service.proofs.reply.reply_plain.Goals as goal

pub returns : goal.returns
unfolding sends
returns c = ap (λ (w : Written). answer w.outcome w.buffer) c.write_reply.ensures
