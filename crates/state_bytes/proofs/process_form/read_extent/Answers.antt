-- `state_bytes::process_form::read_extent` meets its contract, by the two cases. Assumes nothing.
use Rattle.std.proofs.Common.{arith}
use Rattle.std.proofs.lemmas.Bool.Decides.{nat_tests}
use Rattle.state_bytes.specs.Process.{process_of}
use Rattle.state_bytes.proofs.process_form.read_extent.Goals as goal

pub returns-then-bytes-eq0 : goal.returns-then-bytes-eq0
unfolding process_of
returns-then-bytes-eq0 c = grind (arith, nat_tests)

pub returns-else-bytes-eq0 : goal.returns-else-bytes-eq0
unfolding process_of
returns-else-bytes-eq0 c = rw c.read_size.ensures (grind (arith, nat_tests))
