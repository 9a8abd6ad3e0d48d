-- `state_bytes::process_form::head_sound` meets its contract, test by test. Assumes nothing.
use Rattle.std.proofs.Common.{arith}
use Rattle.std.proofs.lemmas.Bool.Decides.{nat_tests}
use Rattle.state_bytes.specs.Process.{head_sound}
use Rattle.state_bytes.proofs.process_form.head_sound.Goals as goal

pub returns-then-bytes-eq1 : goal.returns-then-bytes-eq1
unfolding head_sound
returns-then-bytes-eq1 c = grind (arith, nat_tests)

pub returns-then-bytes-eq0 : goal.returns-then-bytes-eq0
unfolding head_sound
returns-then-bytes-eq0 c = grind (arith, nat_tests)

pub returns-else-bytes-eq0 : goal.returns-else-bytes-eq0
unfolding head_sound
returns-else-bytes-eq0 c = grind (arith, nat_tests)

pub returns-else-session_fits : goal.returns-else-session_fits
unfolding head_sound
returns-else-session_fits c = grind (arith, nat_tests)
