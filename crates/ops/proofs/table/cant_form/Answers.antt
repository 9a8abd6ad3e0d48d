use Rattle.std.proofs.Common.{rules}
use Rattle.ops.specs.Table.{cant_form}
use Rattle.ops.proofs.table.cant_form.Goals as goal

pub returns-then-cmd-eq-NOP : goal.returns-then-cmd-eq-NOP
unfolding cant_form
returns-then-cmd-eq-NOP c = search rules

pub returns-in_err-form : goal.returns-in_err-form
unfolding cant_form
returns-in_err-form c = search rules

pub returns : goal.returns
unfolding cant_form
returns c = search rules
