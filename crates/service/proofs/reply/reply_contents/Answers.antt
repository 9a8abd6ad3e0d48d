-- `service::reply::reply_contents` meets its contract: the header in front of the bytes examined. Assumes nothing.
use mathlib.Core.Path.{◌≡◌, ap, ◌∙◌}
use Prim.Native.Nat.{◌+◌, ◌≤◌, ℕ, ◌-◌}
use native.Mathlib.Omega.{arith}
use lib.ListN.{length, take, drop}
use Rattle.lists.proofs.Part.{length_part}
use Rattle.message.specs.Exchange.{Written, sends}
use Rattle.process.specs.Local.{local}
use Rattle.process.specs.Request.{examined}
use Rattle.service.specs.At.{answer}
use Rattle.service.proofs.ReplyLaws.{length-examined, contents-sent}
use Rattle.service.proofs.reply.reply_contents.Goals as goal

pub returns : goal.returns
unfolding sends
returns c =
    let at = c.args.h.arg1 in
    let n = c.args.h.arg2 in
    let l = local c.args.process c.args.bytes.now in
    let size : 10 + n - 10 ≡ n = omega arith in
    let room : 10 + n ≤ length c.args.reply.now = omega (arith, c.requires.arg2_in_bounds.1, c.requires.message_bytes_in_bounds) in
    let long : length (take (10 + n - 10) (drop 10 c.args.reply.now)) ≡ n = rw size (length_part 10 n c.args.reply.now room) in
    let r = contents-sent c.args.h c.examine.new.out (examined at n l) c.args.reply.now (10 + n - 10) size
    (c.examine.ensures ∙ ap (λ (k : ℕ). examined at k l) long) (length-examined at n l c.requires.arg2_in_bounds.0) (omega (arith, room)) in
    ap (λ (x : Written). answer x.outcome x.buffer) (c.write_contents.ensures ∙ r)
