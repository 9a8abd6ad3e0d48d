-- `format::header::string` meets its contract: the part is the whole rest, and a message under ten bytes has none. Assumes nothing.
use mathlib.Core.Path.{sym}
use Prim.Native.Nat.{◌≤◌, ◌-◌}
use native.Mathlib.Omega.{arith}
use lib.Seq.{take_all}
use lib.ListN.{length, drop, length-drop, drop_of_length-le}
use Rattle.format.specs.Layout.{string_of}
use Rattle.format.proofs.header.string.Goals as goal

pub returns-then-message-ge-HEADER_BYTES : goal.returns-then-message-ge-HEADER_BYTES
unfolding string_of
returns-then-message-ge-HEADER_BYTES c =
    let m = c.args.message.now in
    let short : length (drop 10 m) ≤ length m - 10 = simp length-drop (omega arith) in
    take_all (length m - 10) (drop 10 m) short

pub returns-else-message-ge-HEADER_BYTES : goal.returns-else-message-ge-HEADER_BYTES
unfolding string_of
returns-else-message-ge-HEADER_BYTES c =
    let m = c.before.before.args.message.now in
    let short : length m ≤ 10 = omega arith in
    sym (drop_of_length-le m short)
