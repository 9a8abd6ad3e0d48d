-- `packet_door::rule::check_packet` meets its contract: at each `return` the tests before it have passed. Assumes nothing.
use Rattle.format.specs.Outcome.{first_failing}
use Rattle.packet_door.specs.At.{number_of}
use Rattle.packet_door.proofs.rule.check_packet.Goals as goal

pub returns-then-not-process : goal.returns-then-not-process
unfolding number_of first_failing
returns-then-not-process c = rw c.if-not-process.true

pub returns-then-not-right : goal.returns-then-not-right
unfolding number_of first_failing
returns-then-not-right c = rw (c.if-not-process.false, ← c.right.ensures, c.if-not-right.true)

pub returns-then-not-runs : goal.returns-then-not-runs
unfolding number_of first_failing
returns-then-not-runs c = rw (c.if-not-process.false, ← c.right.ensures, c.if-not-right.false, ← c.runs.ensures, c.if-not-runs.true)

pub returns-then-not-range : goal.returns-then-not-range
unfolding number_of first_failing
returns-then-not-range c =
    rw (c.if-not-process.false, ← c.right.ensures, c.if-not-right.false, ← c.runs.ensures, c.if-not-runs.false, ← c.range.ensures, c.if-not-range.true)

pub returns : goal.returns
unfolding number_of first_failing
returns c =
    rw (c.if-not-process.false, ← c.right.ensures, c.if-not-right.false, ← c.runs.ensures, c.if-not-runs.false, ← c.range.ensures, c.if-not-range.false)
