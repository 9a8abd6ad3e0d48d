-- `packet_door::rule::right` meets its contract, by what is asked for. Assumes nothing.
use Rattle.packet_door.specs.At.{row_of}
use Rattle.packet_door.proofs.rule.right.Goals as goal

pub returns-in-Store : goal.returns-in-Store
unfolding row_of
returns-in-Store c = rw c.in-Store.is c.debugs.ensures

pub returns-in-Fetch : goal.returns-in-Fetch
unfolding row_of
returns-in-Fetch c = rw c.in-Fetch.is c.may_look.ensures

pub returns-in-Go : goal.returns-in-Go
unfolding row_of
returns-in-Go c = rw c.in-Go.is c.debugs-in-Go.ensures

pub returns-in-GoReply : goal.returns-in-GoReply
unfolding row_of
returns-in-GoReply c = rw c.in-GoReply.is c.debugs-in-GoReply.ensures
