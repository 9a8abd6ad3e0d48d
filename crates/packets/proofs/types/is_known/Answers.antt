-- `packets::types::is_known` meets its contract, by the type. Assumes nothing.
use Rattle.std.proofs.Common.{arith}
use Rattle.std.proofs.lemmas.Bool.Decides.{nat_tests}
use Rattle.packets.specs.Types.{known_type}
use Rattle.packets.proofs.types.is_known.Goals as goal

pub returns-in-128 : goal.returns-in-128
unfolding known_type
returns-in-128 c = grind (arith, nat_tests)

pub returns-in_default : goal.returns-in_default
unfolding known_type
returns-in_default c = grind (arith, nat_tests)

pub returns-in_default-2 : goal.returns-in_default-2
unfolding known_type
returns-in_default-2 c = grind (arith, nat_tests)
