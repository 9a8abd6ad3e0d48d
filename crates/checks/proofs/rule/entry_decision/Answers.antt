-- `checks::rule::entry_decision` meets its contract, by the op code. Assumes nothing.
use mathlib.Core.Path.{◌∙◌}
use Rattle.std.proofs.Common.{rules}
use Rattle.format.specs.Outcome.{first_failing}
use Rattle.checks.specs.Decision.{decision_by, entry_of, entry_decision}
use Rattle.checks.proofs.OpLaws.{coded}
use Rattle.checks.proofs.DecisionLaws.{break-decides, unbreak-decides}
use Rattle.checks.proofs.rule.entry_decision.Goals as goal

pub returns-in-8 : goal.returns-in-8
returns-in-8 c = c.break_decision.ensures ∙ break-decides _ _ c.in-8.is

pub returns-in-9 : goal.returns-in-9
returns-in-9 c = c.unbreak_decision.ensures ∙ unbreak-decides _ _ c.in-9.is

pub returns-in_default : goal.returns-in_default
unfolding entry_decision entry_of decision_by first_failing
returns-in_default c =
    let r = coded c.args.h.cmd in
    let room = r.room c.args.h c.args.process in
    let found = r.found c.args.h c.args.process in
    let his = r.his c.args.h c.args.process in
    search rules
