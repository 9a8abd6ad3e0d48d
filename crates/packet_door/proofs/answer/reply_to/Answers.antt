-- `packet_door::answer::reply_to` meets its contract, by what is asked for. Assumes nothing.
use mathlib.Core.Path.{refl}
use native.Mathlib.Omega.{arith}
use Rattle.lists.specs.Buffer.{overlay}
use Rattle.packet_door.specs.At.{row_of, fewest_of}
use Rattle.packet_door.proofs.answer.reply_to.Goals as goal

pub write_ack-requires : goal.write_ack-requires
unfolding row_of fewest_of
write_ack-requires c =
    let enough = rw c.in-Store.is at c.requires.passed.enough in
    record {
      bytes_len = c.requires.bytes_len;
      in_bounds = (omega arith, rw c.in-Store.is at c.requires.passed.range);
      ack_words_in_bounds = c.requires.ack_words_in_bounds;
    }

pub write_ack-requires-in-Fetch : goal.write_ack-requires-in-Fetch
unfolding row_of fewest_of
write_ack-requires-in-Fetch c =
    let enough = rw c.in-Fetch.is at c.requires.passed.enough in
    record {
      bytes_len = c.requires.bytes_len;
      in_bounds = (omega arith, rw c.in-Fetch.is at c.requires.passed.range);
      ack_words_in_bounds = c.requires.ack_words_in_bounds;
    }

pub returns-in-Store : goal.returns-in-Store
unfolding row_of
returns-in-Store c = rw (c.in-Store.is, ← c.write_ack.ensures.value, ← c.write_ack.ensures.out_after)

pub returns-in-Fetch : goal.returns-in-Fetch
unfolding row_of
returns-in-Fetch c = rw (c.in-Fetch.is, ← c.write_ack-in-Fetch.ensures.value, ← c.write_ack-in-Fetch.ensures.out_after)

pub returns-in-Go : goal.returns-in-Go
unfolding row_of overlay
returns-in-Go c = rw c.in-Go.is refl

pub returns-in-GoReply : goal.returns-in-GoReply
unfolding row_of overlay
returns-in-GoReply c = rw c.in-GoReply.is refl
