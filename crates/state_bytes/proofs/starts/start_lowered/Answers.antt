-- `state_bytes::starts::start_lowered` meets its contract, by its cases. Assumes nothing.
use Rattle.std.proofs.Common.{arith}
use Rattle.std.proofs.lemmas.Bool.Decides.{nat_tests}
use Rattle.state_bytes.specs.Layout.{start_lowered}
use Rattle.state_bytes.proofs.starts.start_lowered.Goals as goal

pub returns-then-is_there : goal.returns-then-is_there
unfolding start_lowered
returns-then-is_there c = grind (arith, nat_tests)

pub returns-else-start-own : goal.returns-else-start-own
unfolding start_lowered
returns-else-start-own c = grind (arith, nat_tests)
