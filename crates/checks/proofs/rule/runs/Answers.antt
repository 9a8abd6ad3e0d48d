-- `checks::rule::runs` meets its contract, by the op code. Assumes nothing.
use Rattle.std.proofs.Common.{rules}
use Rattle.checks.proofs.OpLaws.{coded}
use Rattle.checks.proofs.rule.runs.Goals as goal

pub returns-in-5 : goal.returns-in-5
returns-in-5 c = let law = (coded c.args.cmd).runs c.args.run in search rules

pub returns-in-11 : goal.returns-in-11
returns-in-11 c = let law = (coded c.args.cmd).runs c.args.run in search rules

pub returns-in_default : goal.returns-in_default
returns-in_default c = let law = (coded c.args.cmd).runs c.args.run in search rules
