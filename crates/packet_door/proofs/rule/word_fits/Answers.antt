-- `packet_door::rule::word_fits` meets its contract. Assumes nothing.
use Rattle.rules.specs.PacketRule.{word_inside}
use Rattle.packet_door.proofs.rule.word_fits.Goals as goal

pub returns : goal.returns
unfolding word_inside
returns c = rw (← c.address_of.ensures) c.holds.ensures
