-- `calls::packet::ack_length` meets its contract, by the cases. Assumes nothing.
use Rattle.std.proofs.Common.{rules}
use Rattle.format.specs.Outcome.{length_of}
use Rattle.calls.proofs.packet.ack_length.Goals as goal

pub returns : goal.returns
unfolding length_of
returns c = search rules
