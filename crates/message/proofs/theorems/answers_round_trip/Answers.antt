-- The theorem of `message::theorems::answers_round_trip`: the round trip over any table, at the answers'. Assumes nothing.
use Rattle.ops.specs.Table.{answer_form}
use Rattle.message.proofs.RoundTripLaws.{round_trip}
use Rattle.message.proofs.theorems.answers_round_trip.Goals as goal

pub returns : goal.returns
returns c = round_trip answer_form
