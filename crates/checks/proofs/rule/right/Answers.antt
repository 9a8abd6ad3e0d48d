-- `checks::rule::right` meets its contract, by the op code. Assumes nothing.
use Rattle.std.proofs.Common.{rules}
use Rattle.rules.specs.Rule.{public}
use Rattle.checks.proofs.OpLaws.{coded}
use Rattle.checks.proofs.rule.right.Goals as goal

pub returns-then-process-eq0 : goal.returns-then-process-eq0
unfolding public
returns-then-process-eq0 c = let law = (coded c.args.cmd).right (public c.args.process) c.args.asker in search rules

pub returns-else-process-eq0 : goal.returns-else-process-eq0
unfolding public
returns-else-process-eq0 c = let law = (coded c.args.cmd).right (public c.args.process) c.args.asker in search rules

pub returns-in-14 : goal.returns-in-14
unfolding public
returns-in-14 c = let law = (coded c.args.cmd).right (public c.args.process) c.args.asker in search rules

pub returns-in-15 : goal.returns-in-15
unfolding public
returns-in-15 c = let law = (coded c.args.cmd).right (public c.args.process) c.args.asker in search rules

pub returns-in_default : goal.returns-in_default
unfolding public
returns-in_default c = let law = (coded c.args.cmd).right (public c.args.process) c.args.asker in search rules

pub returns-in-6 : goal.returns-in-6
unfolding public
returns-in-6 c = let law = (coded c.args.cmd).right (public c.args.process) c.args.asker in search rules
