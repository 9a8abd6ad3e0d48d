-- `text_door::answer::grant` meets its contract: the answer comes first, and then what the line does. Assumes nothing.
use Rattle.text_door.proofs.answer.grant.Goals as goal

pub returns : goal.returns
returns c = rw (c.perform-next.ensures.value, c.perform-next.ensures.bytes_after, c.reply_to-outcome.ensures)
