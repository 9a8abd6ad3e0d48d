-- `why::decided::number_for_process` meets its contract: that of `decide`. Assumes nothing.
use Rattle.std.proofs.Common.{arith}
use Rattle.std.proofs.lemmas.Bool.Decides.{nat_tests}
use Rattle.format.proofs.OutcomeLaws.{number_of-outcome}
use Rattle.checks.specs.Decision.{decision_by, decision_of}
use Rattle.why.proofs.decided.number_for_process.Goals as goal

pub returns : goal.returns
unfolding decision_of decision_by
returns c = grind (arith, nat_tests, number_of-outcome)
