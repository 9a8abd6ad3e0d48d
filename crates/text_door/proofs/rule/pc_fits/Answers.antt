-- `text_door::rule::pc_fits` meets its contract: an address past 65,535 is past every size. Assumes nothing.
use mathlib.Core.Path.{sym}
use borrow.Author.Tests.{eq-eqb, ne_eqb}
use native.Mathlib.Omega.{arith}
use Rattle.rules.specs.TextRule.{pc_range}
use Rattle.text_door.proofs.RowLaws.{far}
use Rattle.text_door.proofs.rule.pc_fits.Goals as goal

pub returns-then-address-eq1 : goal.returns-then-address-eq1
unfolding pc_range
returns-then-address-eq1 c = rw (eq-eqb _ _ c.if-address-eq1.true)

pub returns-then-address-gt65535 : goal.returns-then-address-gt65535
unfolding pc_range
returns-then-address-gt65535 c = rw (ne_eqb _ _ c.if-address-eq1.false) (sym (far c.args.size c.args.line.third (omega arith)))

pub returns : goal.returns
unfolding pc_range
returns c = rw (ne_eqb _ _ c.if-address-eq1.false) c.valid_break_address.ensures
