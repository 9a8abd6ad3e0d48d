-- `packets::units::ByteCount::holds` meets its contract. Assumes nothing.
use Rattle.packets.specs.Units.{holds}
use Rattle.packets.proofs.units.ByteCount.holds.Goals as goal

pub returns : goal.returns
unfolding holds
returns c = rw (c.first_byte-first.ensures, c.in_bytes-length.ensures)
