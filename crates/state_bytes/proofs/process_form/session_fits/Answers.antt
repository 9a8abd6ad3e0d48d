-- `state_bytes::process_form::session_fits` meets its contract: whether there is one, whether it is formed, then whether the host may have it. Assumes nothing.
use Rattle.std.proofs.Common.{arith}
use Rattle.std.proofs.lemmas.Bool.Decides.{nat_tests}
use Rattle.session.specs.Session.{owed_of, owed_sound, watcher_sound, go_sound, session_sound}
use Rattle.state_bytes.specs.Session.{session_fits}
use Rattle.state_bytes.proofs.process_form.session_fits.Goals as goal

pub returns-then-bytes-eq0-3 : goal.returns-then-bytes-eq0-3
unfolding session_fits owed_of session_sound owed_sound watcher_sound go_sound
returns-then-bytes-eq0-3 c =
    rw (c.if-bytes-eq0.true, c.if-bytes-eq0-2.true, c.if-bytes-eq0-3.true)

pub returns-then-bytes-le1 : goal.returns-then-bytes-le1
unfolding session_fits
returns-then-bytes-le1 c = rw (c.sound.ensures, c.read_session.ensures) (grind (arith, nat_tests))

pub returns-else-bytes-le1 : goal.returns-else-bytes-le1
unfolding session_fits
returns-else-bytes-le1 c = grind (arith, nat_tests)
