-- `display::reason::put_text` meets its contract, by whether the number is 0. Assumes nothing.
use mathlib.Core.Path.{◌≡◌}
use native.Mathlib.Omega.{arith}
use borrow.Author.Tests.{eq-eqb, ne_eqb}
use Rattle.lines.proofs.PutLaws.{put_then}
use Rattle.decimal.specs.Numeral.{numeral}
use Rattle.display.specs.Reason.{facts_text, reason_text}
use Rattle.display.proofs.reason.put_text.Goals as goal

pub returns-in-0 : goal.returns-in-0
unfolding reason_text
returns-in-0 c =
    rw (← c.number.ensures, eq-eqb _ 0 c.in-0.is) record { put = c.put.ensures; upper_bound = omega (arith, c.put.ensures.0) }

pub returns-in_default : goal.returns-in_default
unfolding reason_text
returns-in_default c =
    let other : c.number.result ≡ 0 → ⊥ = λ e. omega arith in
    let out1 = c.put_number-at.new.out in
    let out2 = c.put_facts.new.out in
    rw (← c.number.ensures, ne_eqb _ 0 other) record {
      put = put_then 0 c.put_number-at.result c.put_facts.result (numeral c.number.result) (facts_text c.args.reason) c.args.out.now out1 out2 c.put_number-at.ensures.put c.put_facts.ensures.put;
      upper_bound = omega (arith, c.put_number-at.ensures.upper_bound, c.put_facts.ensures.upper_bound);
    }
