use Rattle.std.proofs.Common.{rules}
use Rattle.format.specs.Refusal.{fields_right}
use Rattle.format.proofs.refusal.fields_right.Goals as goal

pub returns-then-arg_fits : goal.returns-then-arg_fits
unfolding fields_right
returns-then-arg_fits c = search rules

pub returns-else-arg_fits : goal.returns-else-arg_fits
unfolding fields_right
returns-else-arg_fits c = search rules
