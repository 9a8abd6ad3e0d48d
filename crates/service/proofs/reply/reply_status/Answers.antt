-- `service::reply::reply_status` meets its contract: the reply that carries no string, with the two numbers. Assumes nothing.
use Rattle.service.proofs.reply.reply_status.Goals as goal

pub returns : goal.returns
returns c = rw (← c.number.ensures, ← c.with_args.ensures) c.reply_plain.ensures
