use Rattle.std.proofs.Common.{rules}
use Rattle.format.specs.Layout.{fixed_right}
use Rattle.format.proofs.header.fixed_right.Goals as goal

pub returns-then-message : goal.returns-then-message
unfolding fixed_right
returns-then-message c = search rules

pub returns-else-message : goal.returns-else-message
unfolding fixed_right
returns-else-message c = search rules
