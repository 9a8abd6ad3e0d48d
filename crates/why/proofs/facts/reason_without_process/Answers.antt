-- `why::facts::reason_without_process` meets its contract, by the number. Assumes nothing.
use Rattle.std.proofs.Common.{rules}
use Rattle.rules.specs.Why.{reason_without_process}
use Rattle.why.proofs.facts.reason_without_process.Goals as goal

pub returns-then-number-eq3 : goal.returns-then-number-eq3
unfolding reason_without_process
returns-then-number-eq3 c = search rules

pub returns-else-number-eq3 : goal.returns-else-number-eq3
unfolding reason_without_process
returns-else-number-eq3 c = search rules
