-- `display::record::put_waiting` meets its contract: the ID, then the ticks. Assumes nothing.
use native.Mathlib.Omega.{arith}
use Rattle.lines.proofs.PutLaws.{put_then}
use Rattle.decimal.specs.Numeral.{numeral, field}
use Rattle.display.specs.Line.{waiting_text}
use Rattle.display.proofs.record.put_waiting.Goals as goal

pub returns : goal.returns
unfolding waiting_text
returns c =
    let out1 = c.put_number-at.new.out in
    let out2 = c.put_field.new.out in record {
      put = put_then c.args.from c.put_number-at.result c.put_field.result (numeral c.args.go.id) (field 58 c.args.go.ticks) c.args.out.now out1 out2 c.put_number-at.ensures.put c.put_field.ensures.put;
      upper_bound = omega (arith, c.put_number-at.ensures.upper_bound, c.put_field.ensures.upper_bound);
    }
