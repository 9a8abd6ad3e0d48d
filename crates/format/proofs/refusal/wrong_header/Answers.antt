use Rattle.std.proofs.Common.{rules}
use Rattle.format.specs.Refusal.{wrong_header}
use Rattle.format.proofs.refusal.wrong_header.Goals as goal

pub returns-then-not-fixed : goal.returns-then-not-fixed
unfolding wrong_header
returns-then-not-fixed c = search rules

pub returns-else-not-fixed : goal.returns-else-not-fixed
unfolding wrong_header
returns-else-not-fixed c = search rules
