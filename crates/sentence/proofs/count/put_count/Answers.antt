-- `sentence::count::put_count` meets its contract: the number, then the word. Assumes nothing.
use native.Mathlib.Omega.{arith}
use borrow.Author.Tests.{eq-eqb, ne_eqb}
use Rattle.lines.proofs.PutLaws.{put_then}
use Rattle.decimal.specs.Numeral.{numeral}
use Rattle.sentence.specs.Text.{text}
use Rattle.sentence.specs.Count.{count_text}
use Rattle.sentence.proofs.count.put_count.Goals as goal

pub returns-then-n-eq1 : goal.returns-then-n-eq1
unfolding count_text
returns-then-n-eq1 c =
    let out1 = c.put_number-at.new.out in
    let out2 = c.put.new.out in
    let both = put_then c.args.from c.put_number-at.result c.put.result (numeral c.args.n) (text " byte") c.args.out.now out1 out2 c.put_number-at.ensures.put c.put.ensures in
    record {
      put = rw (eq-eqb c.args.n 1 c.if-n-eq1.true) both;
      upper_bound = omega (arith, c.put_number-at.ensures.upper_bound, c.put.ensures.0);
    }

pub returns-else-n-eq1 : goal.returns-else-n-eq1
unfolding count_text
returns-else-n-eq1 c =
    let out1 = c.put_number-at.new.out in
    let out2 = c.put-else-n-eq1.new.out in
    let both = put_then c.args.from c.put_number-at.result c.put-else-n-eq1.result (numeral c.args.n) (text " bytes") c.args.out.now out1 out2 c.put_number-at.ensures.put c.put-else-n-eq1.ensures in
    record {
      put = rw (ne_eqb c.args.n 1 c.if-n-eq1.false) both;
      upper_bound = omega (arith, c.put_number-at.ensures.upper_bound, c.put-else-n-eq1.ensures.0);
    }
