-- `text_door::rule::register_fits` meets its contract. Assumes nothing.
use Rattle.rules.specs.TextRule.{register_range}
use borrow.Author.Rules.{rules}
use Rattle.text_door.proofs.rule.register_fits.Goals as goal

pub returns : goal.returns
unfolding register_range
returns c = search rules
