-- `text_door::rule::check_line` meets its contract: at each `return` the tests before it have passed. Assumes nothing.
use Rattle.format.specs.Outcome.{first_failing}
use Rattle.text_door.specs.At.{text_number_at}
use Rattle.text_door.proofs.RowLaws.{row-of}
use Rattle.text_door.proofs.rule.check_line.Goals as goal

pub returns-then-not-process : goal.returns-then-not-process
unfolding text_number_at first_failing
returns-then-not-process c = rw c.if-not-process.true

pub returns-then-not-right : goal.returns-then-not-right
unfolding text_number_at first_failing
returns-then-not-right c = rw (c.if-not-process.false, row-of c.args.line.letter, ← c.requires, ← c.right.ensures, c.if-not-right.true)

pub returns-then-owes : goal.returns-then-owes
unfolding text_number_at first_failing
returns-then-owes c =
    rw (c.if-not-process.false, row-of c.args.line.letter, ← c.requires, ← c.right.ensures, c.if-not-right.false, ← c.owes.ensures, c.if-owes.true)

pub returns-then-not-state_fits : goal.returns-then-not-state_fits
unfolding text_number_at first_failing
returns-then-not-state_fits c =
    rw (c.if-not-process.false, row-of c.args.line.letter, ← c.requires, ← c.right.ensures, c.if-not-right.false, ← c.owes.ensures, c.if-owes.false, ← c.state_fits.ensures, c.if-not-state_fits.true)

pub returns-then-not-range : goal.returns-then-not-range
unfolding text_number_at first_failing
returns-then-not-range c =
    rw (c.if-not-process.false, row-of c.args.line.letter, ← c.requires, ← c.right.ensures, c.if-not-right.false, ← c.owes.ensures, c.if-owes.false, ← c.state_fits.ensures, c.if-not-state_fits.false, ← c.range.ensures, c.if-not-range.true)

pub returns : goal.returns
unfolding text_number_at first_failing
returns c =
    rw (c.if-not-process.false, row-of c.args.line.letter, ← c.requires, ← c.right.ensures, c.if-not-right.false, ← c.owes.ensures, c.if-owes.false, ← c.state_fits.ensures, c.if-not-state_fits.false, ← c.range.ensures, c.if-not-range.false)
