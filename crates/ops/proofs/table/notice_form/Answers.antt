use Rattle.std.proofs.Common.{rules}
use Rattle.ops.specs.Table.{notice_form}
use Rattle.ops.proofs.table.notice_form.Goals as goal

pub returns : goal.returns
unfolding notice_form
returns c = search rules
