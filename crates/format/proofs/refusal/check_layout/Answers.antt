use Rattle.std.proofs.Common.{rules}
use Rattle.format.specs.Outcome.{first_failing}
use Rattle.format.proofs.refusal.check_layout.Goals as goal

pub returns-then-wrong_length : goal.returns-then-wrong_length
unfolding first_failing
returns-then-wrong_length c = search rules

pub returns-then-wrong_header : goal.returns-then-wrong_header
unfolding first_failing
returns-then-wrong_header c = search rules

pub returns-in_default : goal.returns-in_default
unfolding first_failing
returns-in_default c = search rules

pub returns-then-misfits : goal.returns-then-misfits
unfolding first_failing
returns-then-misfits c = search rules

pub returns : goal.returns
unfolding first_failing
returns c = search rules
