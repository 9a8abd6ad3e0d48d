use Rattle.std.proofs.Common.{rules}
use Rattle.ops.specs.Table.{answer_form}
use Rattle.ops.proofs.table.answer_form.Goals as goal

pub returns-then-cmd-lt-NOTICE : goal.returns-then-cmd-lt-NOTICE
unfolding answer_form
returns-then-cmd-lt-NOTICE c = search rules

pub returns-then-cmd-lt-CANT : goal.returns-then-cmd-lt-CANT
unfolding answer_form
returns-then-cmd-lt-CANT c = search rules

pub returns : goal.returns
unfolding answer_form
returns c = search rules
