-- `service::request::answer_create` meets its contract: a new process of the size asked for, and its number in the reply. Assumes nothing.
use mathlib.Core.Path.{ap₂, refl}
use Rattle.service.specs.At.{leaving, created_at}
use Rattle.service.proofs.request.answer_create.Goals as goal

pub returns : goal.returns
unfolding created_at
returns c =
    rw (c.create-created.ensures.value, c.create-created.ensures.bytes_after, ← c.requires.size_value.0) (ap₂ leaving (rw c.created.ensures at c.reply_plain-outcome.ensures) refl)
