-- `decimal::number::Number::ends` meets its contract. Assumes nothing.
use Rattle.decimal.specs.Read.{ends_line}
use Rattle.decimal.proofs.number.Number.ends.Goals as goal

pub returns-then-self : goal.returns-then-self
unfolding ends_line
returns-then-self c = rw c.if-self.true

pub returns-else-self : goal.returns-else-self
unfolding ends_line
returns-else-self c = rw c.if-self.false
