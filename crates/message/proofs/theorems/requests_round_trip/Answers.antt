-- The theorem of `message::theorems::requests_round_trip`: the round trip over any table, at the requests'. Assumes nothing.
use Rattle.ops.specs.Table.{request_form}
use Rattle.message.proofs.RoundTripLaws.{round_trip}
use Rattle.message.proofs.theorems.requests_round_trip.Goals as goal

pub returns : goal.returns
returns c = round_trip request_form
