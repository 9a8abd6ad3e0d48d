-- `display::answer::put_reply` meets its contract: what is laid into the rest of the buffer is put there. Assumes nothing.
use native.Mathlib.Omega.{arith}
use Rattle.lines.proofs.PrintLaws.{body-short}
use Rattle.display.proofs.AnswerLaws.{put-part}
use Rattle.display.proofs.answer.put_reply.Goals as goal

pub returns : goal.returns
returns c =
    let short = body-short c.args.bytes.now in record {
      put = put-part c.args.from c.put_bytes.result _ c.args.out.now c.put_bytes.new.out (omega arith) c.put_bytes.ensures.value c.put_bytes.ensures.out_after;
      upper_bound = omega arith;
    }

pub overflow_add-result : goal.overflow_add-result
overflow_add-result c = let short = body-short c.args.bytes.now in omega arith
