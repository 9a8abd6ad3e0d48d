-- `checks::rights::another_debugs` meets its contract. Assumes nothing.
use Rattle.std.proofs.Common.{rules}
use Rattle.rules.specs.Rule.{public}
use Rattle.checks.proofs.rights.another_debugs.Goals as goal

pub returns-then-process-ne0 : goal.returns-then-process-ne0
unfolding public
returns-then-process-ne0 c = search rules

pub returns-else-process-ne0 : goal.returns-else-process-ne0
unfolding public
returns-else-process-ne0 c = search rules
