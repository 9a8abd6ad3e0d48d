-- The theorem of `message::theorems::incoming_fits`. Assumes nothing.
use Rattle.message.proofs.IncomingLaws.{incoming-fits}
use Rattle.message.proofs.theorems.incoming_fits.Goals as goal

pub returns : goal.returns
returns c = incoming-fits
