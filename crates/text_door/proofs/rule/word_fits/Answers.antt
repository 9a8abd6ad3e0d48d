-- `text_door::rule::word_fits` meets its contract: an address past 65,535 is past every size. Assumes nothing.
use Prim.Native.Nat.{◌+◌}
use native.Mathlib.Omega.{arith}
use borrow.Author.Tests.{eq-eqb, ne_eqb, lt-leb}
use Rattle.rules.specs.TextRule.{word_range}
use Rattle.text_door.proofs.rule.word_fits.Goals as goal

pub returns-then-address-ne0 : goal.returns-then-address-ne0
unfolding word_range
returns-then-address-ne0 c = rw (ne_eqb _ _ c.if-address-ne0.true)

pub returns-then-address-gt65535 : goal.returns-then-address-gt65535
unfolding word_range
returns-then-address-gt65535 c = rw (eq-eqb _ _ c.if-address-ne0.false, lt-leb (c.args.line.third + 4) c.args.size (omega arith))

pub returns : goal.returns
unfolding word_range
returns c = rw (eq-eqb _ _ c.if-address-ne0.false)
