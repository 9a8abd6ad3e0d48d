-- `fields::write::digit_count` meets its contract. The loop's invariant: the digits counted and those left are all, and one more. Assumes nothing.
use native.Mathlib.Omega.{arith}
use Rattle.fields.proofs.HexLaws.{some-digits, one-digit, one_less, eight-digits}
use Rattle.fields.proofs.write.digit_count.Goals as goal

pub returns-then-rest-lt16-clause-value : goal.returns-then-rest-lt16-clause-value
returns-then-rest-lt16-clause-value c = omega (arith, c.loop-count.invariant, one-digit c.loop-count.rest (omega arith))

pub loop-count-preserved : goal.loop-count-preserved
loop-count-preserved c = omega (arith, c.loop-count.invariant, one_less c.loop-count.rest (omega arith))

pub returns-clause-value : goal.returns-clause-value
returns-clause-value c =
    omega (arith, c.loop-count.invariant, some-digits c.loop-count.rest, eight-digits c.args.n (omega arith))
