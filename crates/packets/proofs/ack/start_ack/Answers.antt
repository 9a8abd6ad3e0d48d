-- `packets::ack::start_ack` meets its contract, by the block. Assumes nothing.
use mathlib.Core.Path.{sym, ap}
use native.Mathlib.Omega.{arith}
use Rattle.packets.specs.Ack.{ack_start, ack_length}
use Rattle.packets.proofs.AckLaws.{length-with, start-with, two-set, three-set}
use Rattle.packets.proofs.ack.start_ack.Goals as goal

pub overflow_add-result : goal.overflow_add-result
overflow_add-result c = omega (arith, length-with c.in-Some.is, c.requires.block_bound)

pub returns-in-None : goal.returns-in-None
unfolding ack_length ack_start
returns-in-None c =
    let none = c.in-None.is in record {
      result_value = sym (ap ack_length none);
      out_after = rw none (two-set c.args.out.now c.args.at.0 c.args.second (omega (arith, c.requires.ack_words_in_bounds)));
    }

pub returns-in-Some : goal.returns-in-Some
returns-in-Some c =
    let some = c.in-Some.is in record {
      result_value = omega (arith, length-with some);
      out_after = rw (start-with c.args.at c.args.second some) (three-set c.args.out.now c.args.at.0 c.args.second _ (omega (arith, c.requires.ack_words_in_bounds)));
    }
