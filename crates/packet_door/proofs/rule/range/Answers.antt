-- `packet_door::rule::range` meets its contract, by what is asked for. Assumes nothing.
use native.Mathlib.Omega.{arith}
use Rattle.packet_door.specs.At.{row_of, fewest_of}
use Rattle.packet_door.proofs.rule.range.Goals as goal

pub word_fits-requires : goal.word_fits-requires
unfolding fewest_of
word_fits-requires c = let h = rw c.in-Store.is at c.requires in omega arith

pub word_fits-requires-in-Fetch : goal.word_fits-requires-in-Fetch
unfolding fewest_of
word_fits-requires-in-Fetch c = let h = rw c.in-Fetch.is at c.requires in omega arith

pub returns-in-Store : goal.returns-in-Store
unfolding row_of
returns-in-Store c = rw c.in-Store.is c.word_fits.ensures

pub returns-in-Fetch : goal.returns-in-Fetch
unfolding row_of
returns-in-Fetch c = rw c.in-Fetch.is c.word_fits-in-Fetch.ensures

pub returns-in-Go : goal.returns-in-Go
unfolding row_of
returns-in-Go c = rw c.in-Go.is

pub returns-in-GoReply : goal.returns-in-GoReply
unfolding row_of
returns-in-GoReply c = rw c.in-GoReply.is
