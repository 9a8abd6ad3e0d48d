-- `gateway::queries::why_new` meets its contract, by whether there is a place. Assumes nothing.
use Rattle.gateway.specs.Stage.{create_reason}
use Rattle.gateway.proofs.queries.why_new.Goals as goal

pub returns-then-no_place_for : goal.returns-then-no_place_for
unfolding create_reason
returns-then-no_place_for c = rw (← c.no_place_for.ensures, c.if-no_place_for.true)

pub returns : goal.returns
unfolding create_reason
returns c = rw (← c.no_place_for.ensures, c.if-no_place_for.false)
