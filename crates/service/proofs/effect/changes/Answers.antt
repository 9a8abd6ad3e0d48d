-- `service::effect::changes` meets its contract, by the op code. Assumes nothing.
use Rattle.std.proofs.Common.{rules}
use Rattle.service.specs.At.{changes}
use Rattle.service.proofs.effect.changes.Goals as goal

pub returns-then-cmd-ne-STATUS : goal.returns-then-cmd-ne-STATUS
unfolding changes
returns-then-cmd-ne-STATUS c = search rules

pub returns-else-cmd-ne-STATUS : goal.returns-else-cmd-ne-STATUS
unfolding changes
returns-else-cmd-ne-STATUS c = search rules
