-- `checks::rights::may_look` meets its contract. Assumes nothing.
use Rattle.std.proofs.Common.{rules}
use Rattle.rules.specs.Rule.{public, insider}
use Rattle.checks.proofs.rights.may_look.Goals as goal

pub returns-then-debugs : goal.returns-then-debugs
unfolding public insider
returns-then-debugs c = search rules

pub returns-else-debugs : goal.returns-else-debugs
unfolding public insider
returns-else-debugs c = search rules

pub returns-else-host-ne0 : goal.returns-else-host-ne0
unfolding public insider
returns-else-host-ne0 c = search rules
