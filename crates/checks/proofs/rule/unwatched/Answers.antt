-- `checks::rule::unwatched` meets its contract, by the op code. Assumes nothing.
use Rattle.std.proofs.Common.{rules}
use Rattle.rules.specs.Rule.{public}
use Rattle.checks.proofs.OpLaws.{coded}
use Rattle.checks.proofs.rule.unwatched.Goals as goal

pub returns-then-cmd-ne-WATCH : goal.returns-then-cmd-ne-WATCH
returns-then-cmd-ne-WATCH c = let law = (coded c.args.cmd).unwatched (public c.args.process) c.args.asker in search rules

pub returns-else-cmd-ne-WATCH : goal.returns-else-cmd-ne-WATCH
returns-else-cmd-ne-WATCH c = let law = (coded c.args.cmd).unwatched (public c.args.process) c.args.asker in search rules
