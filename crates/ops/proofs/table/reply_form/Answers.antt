use Rattle.std.proofs.Common.{rules}
use Rattle.ops.specs.Table.{reply_form}
use Rattle.ops.proofs.table.reply_form.Goals as goal

pub returns-in_err-row : goal.returns-in_err-row
unfolding reply_form
returns-in_err-row c = search rules

pub returns : goal.returns
unfolding reply_form
returns c = search rules
