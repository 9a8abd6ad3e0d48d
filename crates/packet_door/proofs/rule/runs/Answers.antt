-- `packet_door::rule::runs` meets its contract, by what is asked for. Assumes nothing.
use Rattle.packet_door.specs.At.{row_of}
use Rattle.packet_door.proofs.rule.runs.Goals as goal

pub returns-in-Store : goal.returns-in-Store
unfolding row_of
returns-in-Store c = rw c.in-Store.is

pub returns-in-Fetch : goal.returns-in-Fetch
unfolding row_of
returns-in-Fetch c = rw c.in-Fetch.is

pub returns-in-Go : goal.returns-in-Go
unfolding row_of
returns-in-Go c = rw c.in-Go.is c.stopped_or_at_break.ensures

pub returns-in-GoReply : goal.returns-in-GoReply
unfolding row_of
returns-in-GoReply c = rw c.in-GoReply.is
