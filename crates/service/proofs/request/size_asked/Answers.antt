-- `service::request::size_asked` meets its contract, by whether ARG1 is 0. Assumes nothing.
use Rattle.std.proofs.Common.{rules}
use Rattle.rules.specs.Rule.{size_asked}
use Rattle.service.proofs.request.size_asked.Goals as goal

pub returns-then-h-eq0 : goal.returns-then-h-eq0
unfolding size_asked
returns-then-h-eq0 c = search rules

pub returns-else-h-eq0 : goal.returns-else-h-eq0
unfolding size_asked
returns-else-h-eq0 c = search rules
