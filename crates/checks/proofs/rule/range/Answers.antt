-- `checks::rule::range` meets its contract, by the op code. Assumes nothing.
use Rattle.std.proofs.Common.{rules}
use Rattle.checks.proofs.OpLaws.{coded}
use Rattle.checks.proofs.rule.range.Goals as goal

pub returns-in-4 : goal.returns-in-4
returns-in-4 c = let law = (coded c.args.h.cmd).range c.args.h c.args.size in search rules

pub returns-in-6 : goal.returns-in-6
returns-in-6 c = let law = (coded c.args.h.cmd).range c.args.h c.args.size in search rules

pub returns-in-7 : goal.returns-in-7
returns-in-7 c = let law = (coded c.args.h.cmd).range c.args.h c.args.size in search rules

pub returns-in-8 : goal.returns-in-8
returns-in-8 c = let law = (coded c.args.h.cmd).range c.args.h c.args.size in search rules

pub returns-in_default : goal.returns-in_default
returns-in_default c = let law = (coded c.args.h.cmd).range c.args.h c.args.size in search rules
