-- `process::record::Process::deposit` meets its contract: memory holds what is seen between the two exchanges, and the second one gives every breakpoint the word that is then to be seen. Assumes nothing.
use mathlib.Core.Path.{◌≡◌, ◌∙◌}
use Prim.Native.Nat.{◌+◌, ◌≤◌}
use native.Mathlib.Omega.{arith}
use borrow.Author.Rules.{rules}
use lib.Seq.{paste, length-paste}
use lib.ListN.{length}
use Rattle.breakpoints.specs.Seen.{seen}
use Rattle.process.specs.Request.{sheltered}
use Rattle.process.specs.Request.{deposited}
use Rattle.process.proofs.TestedLaws.{tested-exchanged}
use Rattle.process.proofs.DepositLaws.{map-again}
use Rattle.breakpoints.proofs.SeenLaws.{length_seen}
use Rattle.lists.proofs.Buffer.{paste-lent}
use Rattle.process.proofs.record.Process.deposit.Goals as goal

pub exchange-requires : goal.exchange-requires
exchange-requires c =
    let p = c.args.self in
    let m = c.args.bytes.now in
    let string = c.args.string.now in
    let eight : length c.args.self.breaks ≡ 8 = search rules in
    let whole = length_seen c.args.self.breaks m in
    let fits : c.args.at + length string ≤ length (seen c.args.self.breaks m) = omega (arith, c.requires.string_in_bounds, whole) in
    let size = length-paste (seen c.args.self.breaks m) c.args.at string (length string) fits (omega arith) ∙ whole in
    rw (c.exchange-p.ensures.value, c.copy_from_slice.ensures.after, paste-lent c.args.at string c.exchange-p.new.bytes, c.exchange-p.ensures.bytes_after)
    (tested-exchanged p m (paste (seen c.args.self.breaks m) c.args.at string (length string)) c.requires.tested eight size)

pub returns : goal.returns
unfolding deposited sheltered
returns c =
    let m = c.args.bytes.now in
    let string = c.args.string.now in
    let pasted = paste-lent c.args.at string c.exchange-p.new.bytes in
    let after = paste (seen c.args.self.breaks m) c.args.at string (length string) in record {
      value = rw (c.exchange-p.ensures.value, c.copy_from_slice.ensures.after, pasted, c.exchange-p.ensures.bytes_after, map-again after m c.args.self.breaks) at c.exchange.ensures.value;
      bytes_after = rw (c.exchange-p.ensures.value, c.copy_from_slice.ensures.after, pasted, c.exchange-p.ensures.bytes_after) at c.exchange.ensures.bytes_after;
    }
