-- `packet_door::ack::write_seen` meets its contract: the words of the bytes that are examined. Assumes nothing.
use mathlib.Core.Path.{◌≡◌, sym, ap, ◌∙◌}
use mathlib.Core.List.{List}
use Prim.Native.Nat.{ℕ}
use native.Mathlib.Omega.{arith}
use lib.ListN.{replicate}
use lib.Seq.{length-take-le}
use Rattle.lists.specs.Buffer.{overlay}
use Rattle.packets.specs.declared.units.ByteAddress.{ByteAddress}
use Rattle.packets.specs.declared.units.ByteCount.{ByteCount}
use Rattle.packets.specs.Units.{in_bytes}
use Rattle.process.specs.Local.{local}
use Rattle.process.specs.Request.{examined}
use Rattle.packet_door.proofs.AckLaws.{words-seen}
use Rattle.packet_door.proofs.ack.write_seen.Goals as goal

pub slice_bounds-block-end : goal.slice_bounds-block-end
slice_bounds-block-end c = omega (arith, ap (λ (n : ByteCount). n.0) c.in_bytes-end.ensures)

pub slice_bounds-examine-end : goal.slice_bounds-examine-end
slice_bounds-examine-end c =
    sym (length-take-le {A = ℕ} c.in_bytes-end.result.0 (replicate 64 0) (omega (arith, ap (λ (n : ByteCount). n.0) c.in_bytes-end.ensures)))

pub examine-requires : goal.examine-requires
examine-requires c =
    let long : c.in_bytes-end.result.0 ≡ (in_bytes c.args.count).0 = ap (λ (n : ByteCount). n.0) c.in_bytes-end.ensures in
    let begins = ap (λ (a : ByteAddress). a.0) c.first_byte.ensures in
    omega (arith, length-take-le {A = ℕ} c.in_bytes-end.result.0 (replicate 64 0) (omega arith), begins)

pub returns : goal.returns
returns c =
    let a = c.args in
    let l = local c.args.process c.args.bytes.now in
    let first = c.first_byte.result.0 in
    let size = c.in_bytes-end.result.0 in
    let long : size ≡ (in_bytes c.args.count).0 = ap (λ (n : ByteCount). n.0) c.in_bytes-end.ensures in
    let begins = ap (λ (a : ByteAddress). a.0) c.first_byte.ensures in
    let front = c.examine.ensures ∙ ap (λ (k : ℕ). examined first k l) (length-take-le {A = ℕ} size (replicate 64 0) (omega arith)) in
    c.write_words.ensures
    ∙ ap (λ (words : List ℕ). overlay words c.args.out.now) (words-seen c.args.at c.args.count l first size _ _ begins long front c.requires.count_in_bounds)
