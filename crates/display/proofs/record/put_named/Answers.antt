-- `display::record::put_named` meets its contract: the name, then the number. Assumes nothing.
use native.Mathlib.Omega.{arith}
use Rattle.lines.proofs.PutLaws.{put_then}
use Rattle.display.specs.Line.{named}
use Rattle.display.proofs.record.put_named.Goals as goal

pub returns : goal.returns
unfolding named
returns g c =
    let out1 = c.put-at.new.out in
    let out2 = c.put_field.new.out in record {
      put = put_then c.args.from c.put-at.result c.put_field.result c.args.name.now _ c.args.out.now out1 out2 c.put-at.ensures c.put_field.ensures.put;
      upper_bound = omega (arith, c.put-at.ensures.0, c.put_field.ensures.upper_bound);
    }
