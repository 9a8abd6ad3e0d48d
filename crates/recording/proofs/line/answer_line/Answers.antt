-- `recording::line::answer_line` meets its contract, by the language. Assumes nothing.
use Rattle.recording.specs.Line.{line_effect}
use Rattle.recording.proofs.line.answer_line.Goals as goal

pub returns-in-Bench : goal.returns-in-Bench
unfolding line_effect
returns-in-Bench c = rw c.in-Bench.is c.answer_request.ensures

pub returns-in-Recording : goal.returns-in-Recording
unfolding line_effect
returns-in-Recording c = rw c.in-Recording.is (rw c.command_of.ensures at c.answer_command.ensures)

pub returns-in-TextDoor : goal.returns-in-TextDoor
returns-in-TextDoor c = rw c.in-TextDoor.is c.answer_at_door.ensures
