-- `checks::rights::watches` meets its contract. Assumes nothing.
use Rattle.std.proofs.Common.{rules}
use Rattle.rules.specs.Rule.{public}
use Rattle.checks.proofs.rights.watches.Goals as goal

pub returns : goal.returns
unfolding public
returns c = search rules
