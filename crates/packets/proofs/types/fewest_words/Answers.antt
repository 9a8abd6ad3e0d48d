-- `packets::types::fewest_words` meets its contract, by the type. Assumes nothing.
use Rattle.std.proofs.Common.{arith}
use Rattle.std.proofs.lemmas.Bool.Decides.{nat_tests}
use Rattle.packets.specs.Types.{fewest_words}
use Rattle.packets.proofs.types.fewest_words.Goals as goal

pub returns-in-128 : goal.returns-in-128
unfolding fewest_words
returns-in-128 c = grind (arith, nat_tests)

pub returns-in-129 : goal.returns-in-129
unfolding fewest_words
returns-in-129 c = grind (arith, nat_tests)

pub returns-in_default : goal.returns-in_default
unfolding fewest_words
returns-in_default c = grind (arith, nat_tests)
