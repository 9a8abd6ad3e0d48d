-- `message::answer::write_contents` meets its contract: its header goes in front of the string. Assumes nothing.
use mathlib.Core.Path.{ap}
use native.Mathlib.Omega.{arith}
use Rattle.format.specs.Outcome.{Outcome}
use Rattle.std.proofs.Common.{Ok}
use Rattle.format.specs.Layout.{header}
use Rattle.lists.specs.Buffer.{overlay}
use Rattle.message.specs.Exchange.{wrote, sends_head}
use Rattle.message.proofs.answer.write_contents.Goals as goal

pub returns : goal.returns
unfolding sends_head
returns c =
    rw c.put.ensures (ap (λ (o : Outcome). wrote o (overlay (header c.args.answer) c.args.buffer.now)) (ap Ok (omega arith)))
