-- `message::exchange::write` meets its contract: where the tests pass the buffer has room, and header and string are then laid over its start; else nothing is written. Assumes nothing.
use mathlib.Core.Path.{sym, ap, ◌∙◌}
use Prim.Native.Nat.{◌≤◌, ◌+◌}
use native.Mathlib.Omega.{arith}
use lib.ListN.{length}
use Rattle.std.proofs.Common.{rules, Ok}
use Rattle.format.specs.Layout.{header, written}
use Rattle.format.proofs.OutcomeLaws.{unless-ok, unless-err, unless-else}
use Rattle.lists.proofs.Buffer.{length-overlay, paste-overlay}
use Rattle.message.proofs.ExchangeLaws.{write_number-room, answered-refused, answered-granted}
use Rattle.message.specs.Exchange.{answered}
use Rattle.message.proofs.exchange.write.Goals as goal

pub returns-in_err-check_write : goal.returns-in_err-check_write
unfolding answered
returns-in_err-check_write c =
    let failed = sym c.check_write.ensures ∙ c.in_err-check_write.was in
    let refused = unless-else _ _ (10 + length c.args.string.now) _ failed in
    let kept = (answered-refused _ (length c.args.string.now) (written c.args.h c.args.string.now) c.args.buffer.now (unless-err _ _ _ failed).1).1 in
    let returned = c.from_residual.ensures in
    record { value = search rules; buffer_after = kept }

pub put-requires : goal.put-requires
put-requires c =
    let zero = unless-ok _ _ _ (sym c.check_write.ensures ∙ c.in_ok-check_write.was) in
    let r = write_number-room c.args.found c.args.h (length c.args.string.now) c.args.buffer.now zero in
    omega (arith, r.buffer-long)

pub put_string-requires : goal.put_string-requires
put_string-requires c =
    let zero = unless-ok _ _ _ (sym c.check_write.ensures ∙ c.in_ok-check_write.was) in
    let r = write_number-room c.args.found c.args.h (length c.args.string.now) c.args.buffer.now zero in
    let room : 10 ≤ length c.args.buffer.now = omega (arith, r.buffer-long) in
    let same = ap length c.put.ensures ∙ length-overlay (header c.args.h) c.args.buffer.now room in
    omega (arith, same, r.buffer-long, r.string-short)

pub overflow_add-result : goal.overflow_add-result
overflow_add-result c =
    let zero = unless-ok _ _ _ (sym c.check_write.ensures ∙ c.in_ok-check_write.was) in
    let r = write_number-room c.args.found c.args.h (length c.args.string.now) c.args.buffer.now zero in
    omega (arith, r.string-short)

pub returns : goal.returns
unfolding written
returns c =
    let zero = unless-ok _ _ _ (sym c.check_write.ensures ∙ c.in_ok-check_write.was) in
    let g = answered-granted _ (length c.args.string.now) (written c.args.h c.args.string.now) c.args.buffer.now zero in
    rw (c.put_string.ensures, c.put.ensures, paste-overlay (header c.args.h) c.args.string.now c.args.buffer.now)
    record { value = ap Ok (omega arith) ∙ g.0; buffer_after = g.1 }
