-- `checks::rights::no_other_watches` meets its contract. Assumes nothing.
use Rattle.std.proofs.Common.{rules}
use Rattle.rules.specs.Rule.{public}
use Rattle.checks.proofs.rights.no_other_watches.Goals as goal

pub returns-then-process-eq0 : goal.returns-then-process-eq0
unfolding public
returns-then-process-eq0 c = search rules

pub returns-else-process-eq0 : goal.returns-else-process-eq0
unfolding public
returns-else-process-eq0 c = search rules
