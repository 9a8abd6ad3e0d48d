-- `ops::table::row_of` meets its contract: the code's table and the definition's are one list. Assumes nothing.
use borrow.Author.Tests.{lt-ltb, le-ltb}
use Rattle.ops.specs.Table.{row_of}
use Rattle.ops.proofs.table.row_of.Goals as goal

pub returns-then-i-lt17 : goal.returns-then-i-lt17
unfolding row_of
returns-then-i-lt17 c = rw (lt-ltb _ _ c.if-i-lt17.true)

pub returns-else-i-lt17 : goal.returns-else-i-lt17
unfolding row_of
returns-else-i-lt17 c = rw (le-ltb _ _ c.if-i-lt17.false)
