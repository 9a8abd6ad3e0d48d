-- `display::record::owed_shown` meets its contract, by whether an answer is owed. Assumes nothing.
use Rattle.display.specs.Line.{owed_shown}
use Rattle.display.proofs.record.owed_shown.Goals as goal

pub returns-then-owes : goal.returns-then-owes
unfolding owed_shown
returns-then-owes c = rw (← c.owes.ensures, c.if-owes.true) c.letter.ensures

pub returns-else-owes : goal.returns-else-owes
unfolding owed_shown
returns-else-owes c = rw (← c.owes.ensures, c.if-owes.false)
