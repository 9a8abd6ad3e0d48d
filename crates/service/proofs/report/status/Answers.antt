-- `service::report::status` meets its contract, by the kind. Assumes nothing.
use Rattle.std.proofs.Common.{rules}
use Rattle.rules.specs.TextRule.{status_of}
use Rattle.service.proofs.report.status.Goals as goal

pub returns-in-1 : goal.returns-in-1
unfolding status_of
returns-in-1 c = search rules

pub returns-in-0 : goal.returns-in-0
unfolding status_of
returns-in-0 c = search rules

pub returns-in_default : goal.returns-in_default
unfolding status_of
returns-in_default c = search rules
