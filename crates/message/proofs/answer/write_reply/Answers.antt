-- `message::answer::write_reply` meets its contract: a message with no string is its header. Assumes nothing.
use mathlib.Core.Path.{ap}
use Rattle.std.proofs.Common.{Ok}
use Rattle.format.specs.Layout.{written}
use Rattle.message.specs.Exchange.{wrote, sends}
use Rattle.message.proofs.answer.write_reply.Goals as goal

pub returns : goal.returns
unfolding sends written
returns c = ap (wrote (Ok 10)) c.put.ensures
