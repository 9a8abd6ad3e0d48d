-- `display::reason::put_past` meets its contract: the name of the limit, then the excess. Assumes nothing.
use native.Mathlib.Omega.{arith}
use Rattle.lines.proofs.PutLaws.{put_then}
use Rattle.decimal.specs.Numeral.{field}
use Rattle.display.specs.Reason.{limit_name, past_text}
use Rattle.display.proofs.reason.put_past.Goals as goal

pub returns : goal.returns
unfolding past_text
returns c =
    let out1 = c.put_limit-at.new.out in
    let out2 = c.put_field.new.out in record {
      put = put_then c.args.from c.put_limit-at.result c.put_field.result (limit_name c.args.limit) (field 32 c.args.excess) c.args.out.now out1 out2 c.put_limit-at.ensures.put c.put_field.ensures.put;
      upper_bound = omega (arith, c.put_limit-at.ensures.upper_bound, c.put_field.ensures.upper_bound);
    }
