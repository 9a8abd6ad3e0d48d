-- `packets::block::length_to_send` meets its contract, by the two tests. Assumes nothing.
use Rattle.std.proofs.Common.{arith, sym, ◌∙◌}
use Rattle.std.proofs.lemmas.Bool.Decides.{nat_tests}
use Rattle.packets.specs.Block.{length_to_send}
use Rattle.packets.proofs.block.length_to_send.Goals as goal

pub returns-then-may_ask : goal.returns-then-may_ask
unfolding length_to_send
returns-then-may_ask c = rw (sym c.may_ask.ensures ∙ c.if-may_ask.true, c.min.ensures) (grind (arith, nat_tests))

pub returns-else-may_ask : goal.returns-else-may_ask
unfolding length_to_send
returns-else-may_ask c = rw (sym c.may_ask.ensures ∙ c.if-may_ask.false)
