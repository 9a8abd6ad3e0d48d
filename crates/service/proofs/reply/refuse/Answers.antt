-- `service::reply::refuse` meets its contract: the CAN'T is sent, and the number returned. Assumes nothing.
use mathlib.Core.Path.{ap₂}
use Rattle.format.specs.Outcome.{Outcome}
use Rattle.format.proofs.OutcomeLaws.{outcome-other}
use Rattle.message.specs.Exchange.{Written, sends}
use Rattle.service.specs.At.{answer, cant_by}
use Rattle.service.proofs.reply.refuse.Goals as goal

pub returns : goal.returns
unfolding sends cant_by
returns c =
    rw (← c.cant.ensures) (ap₂ (λ (o : Outcome) (w : Written). answer o w.buffer) (outcome-other c.args.refusal.0 0 c.requires.fact) c.write_reply.ensures)
