-- `gateway::lent::check_state` meets its contract: at each `return` the tests before it have passed. Assumes nothing.
use Rattle.gateway.specs.Called.{lent_on}
use Rattle.gateway.proofs.lent.check_state.Goals as goal

pub returns-then-short : goal.returns-then-short
unfolding lent_on
returns-then-short c = rw c.if-short.true

pub returns-then-not-state_sound : goal.returns-then-not-state_sound
unfolding lent_on
returns-then-not-state_sound c = rw (c.if-short.false, ← c.state_sound.ensures, c.if-not-state_sound.true)

pub returns : goal.returns
unfolding lent_on
returns c = rw (c.if-short.false, ← c.state_sound.ensures, c.if-not-state_sound.false)
