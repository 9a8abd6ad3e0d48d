-- `gateway::lengths::notice_length` meets its contract, by the cases. Assumes nothing.
use Rattle.std.proofs.Common.{rules}
use Rattle.format.specs.Outcome.{length_of}
use Rattle.gateway.specs.Lengths.{notice_length}
use Rattle.gateway.proofs.lengths.notice_length.Goals as goal

pub returns : goal.returns
unfolding notice_length length_of
returns c = search rules
