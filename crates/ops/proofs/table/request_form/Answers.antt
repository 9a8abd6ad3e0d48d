-- `ops::table::request_form` meets its contract: the first form of the row, if there is one. Assumes nothing.
use Rattle.std.proofs.Common.{rules}
use Rattle.ops.specs.Table.{request_form}
use Rattle.ops.proofs.table.request_form.Goals as goal

pub returns-in_err-row : goal.returns-in_err-row
unfolding request_form
returns-in_err-row c = search rules

pub returns : goal.returns
unfolding request_form
returns c = search rules
