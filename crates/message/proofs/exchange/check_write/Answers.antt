-- `message::exchange::check_write` meets its contract: at each `return` the tests before it did not fail. Assumes nothing.
use Prim.Native.Nat.{◌<◌, ◌≤◌, ◌+◌}
use native.Mathlib.Omega.{arith}
use borrow.Author.Tests.{lt-ltb, le-ltb}
use lib.ListN.{length}
use Rattle.format.specs.Refusal.{wrong_length}
use Rattle.format.specs.Outcome.{first_failing}
use Rattle.message.specs.Exchange.{write_number}
use Rattle.message.proofs.exchange.check_write.Goals as goal

pub returns-then-buffer-lt-MESSAGE_BYTES : goal.returns-then-buffer-lt-MESSAGE_BYTES
unfolding write_number first_failing
returns-then-buffer-lt-MESSAGE_BYTES c = let short : length c.args.buffer.now < 266 = omega arith in rw (lt-ltb _ _ short)

pub returns-then-carried-gt-STRING_BYTES : goal.returns-then-carried-gt-STRING_BYTES
unfolding write_number first_failing wrong_length
returns-then-carried-gt-STRING_BYTES c =
    let n = c.args.carried in
    let room : 266 ≤ length c.args.buffer.now = omega arith in
    let long : 266 < 10 + n = omega arith in
    let enough : 10 ≤ 10 + n = omega arith in
    rw (le-ltb _ _ room, le-ltb _ _ enough, lt-ltb _ _ long)

pub returns : goal.returns
unfolding write_number first_failing
returns c =
    let room : 266 ≤ length c.args.buffer.now = omega arith in
    rw (le-ltb _ _ room) c.check_layout.ensures
