-- `packets::block::may_ask` meets its contract: each test is one of the nine. Assumes nothing.
use Rattle.std.proofs.Common.{arith}
use Rattle.std.proofs.lemmas.Bool.Decides.{nat_tests}
use Rattle.packets.specs.Block.{sendable, may_ask}
use Rattle.packets.proofs.block.may_ask.Goals as goal

pub returns-in-1 : goal.returns-in-1
unfolding sendable may_ask
returns-in-1 c = grind (arith, nat_tests)

pub returns-in-1-2 : goal.returns-in-1-2
unfolding sendable may_ask
returns-in-1-2 c = grind (arith, nat_tests)

pub returns-in_default : goal.returns-in_default
unfolding sendable may_ask
returns-in_default c = grind (arith, nat_tests)

pub returns-in_default-2 : goal.returns-in_default-2
unfolding sendable may_ask
returns-in_default-2 c = grind (arith, nat_tests)
