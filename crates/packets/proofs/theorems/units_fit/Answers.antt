-- The theorem of `packets::theorems::units_fit`. Assumes nothing.
use Rattle.packets.proofs.UnitLaws.{units-fit}
use Rattle.packets.proofs.theorems.units_fit.Goals as goal

pub returns : goal.returns
returns c = units-fit
