-- `packet_door::ack::word_at` meets its contract: the word of the two bytes that are examined. Assumes nothing.
use mathlib.Core.Path.{ap}
use native.Mathlib.Omega.{arith}
use Rattle.packets.specs.declared.units.ByteAddress.{ByteAddress}
use Rattle.process.specs.Local.{local}
use Rattle.packet_door.proofs.AckLaws.{word-seen}
use Rattle.packet_door.proofs.ack.word_at.Goals as goal

pub examine-requires : goal.examine-requires
examine-requires c = omega (arith, ap (λ (a : ByteAddress). a.0) c.first_byte.ensures, c.requires)

pub returns : goal.returns
returns c =
    word-seen c.args.at (local c.args.process c.args.bytes.now) c.first_byte.result.0 c.word_of.result _
    (ap (λ (b : ByteAddress). b.0) c.first_byte.ensures) c.examine.ensures c.word_of.ensures
