-- `sentence::sentence::put_run_state` meets its contract: the one text, then the other. Assumes nothing.
use native.Mathlib.Omega.{arith}
use Rattle.lines.proofs.PutLaws.{put_then}
use Rattle.sentence.specs.Sentence.{state_text, want_text, run_state_text}
use Rattle.sentence.proofs.sentence.put_run_state.Goals as goal

pub returns : goal.returns
unfolding run_state_text
returns c =
    record {
      put = put_then c.args.from c.put_state-at.result c.put_want.result (state_text c.args.run) (want_text c.args.h) c.args.out.now c.put_state-at.new.out c.put_want.new.out c.put_state-at.ensures.put c.put_want.ensures.put;
      upper_bound = omega (arith, c.put_state-at.ensures.upper_bound, c.put_want.ensures.upper_bound);
    }
