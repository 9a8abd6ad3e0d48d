-- `service::request::grant` meets its contract: that of the reply and of what is done. Assumes nothing.
use mathlib.Core.Path.{ap₂, refl}
use Rattle.service.specs.At.{leaving, named_by}
use Rattle.service.proofs.request.grant.Goals as goal

pub returns : goal.returns
unfolding named_by
returns c = rw (c.perform-next.ensures.value, c.perform-next.ensures.bytes_after) (ap₂ leaving c.reply_to-outcome.ensures refl)
