-- `packets::block::block_to_send` meets its contract: what was asked for, its length to send, halved until it fits. Assumes nothing.
use mathlib.Core.Path.{ap, ◌∙◌}
use Rattle.packets.specs.Block.{length_to_send, halved_to_fit, block_for}
use Rattle.packets.proofs.LengthLaws.{to-send-none-or}
use Rattle.packets.proofs.block.block_to_send.Goals as goal

pub halve_to_fit-requires : goal.halve_to_fit-requires
halve_to_fit-requires c = rw c.length_to_send-longest.ensures (to-send-none-or c.asked.result)

pub returns : goal.returns
unfolding block_for
returns c =
    c.halve_to_fit.ensures ∙ ap (halved_to_fit 6 c.args.size c.args.at) (c.length_to_send-longest.ensures ∙ ap length_to_send c.asked.ensures)
