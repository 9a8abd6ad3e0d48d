-- `recording::line::answer_at_door` meets its contract, by whether the line is a text line. Assumes nothing.
use mathlib.Core.Path.{sym, ◌∙◌}
use Rattle.recording.specs.Line.{line_effect}
use Rattle.recording.proofs.line.answer_at_door.Goals as goal

pub returns-then-begins : goal.returns-then-begins
unfolding line_effect
returns-then-begins c = rw (sym c.begins.ensures ∙ c.if-begins.true) c.answer_text.ensures

pub returns : goal.returns
unfolding line_effect
returns c = rw (sym c.begins.ensures ∙ c.if-begins.false) (rw c.command_of.ensures at c.answer_command.ensures)
