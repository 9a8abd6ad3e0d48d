-- `text_door::word::register_bytes` meets its contract: two stores. Assumes nothing.
use Rattle.rules.specs.TextRule.{register_bytes}
use borrow.Author.Rules.{rules}
use Rattle.text_door.proofs.word.register_bytes.Goals as goal

pub returns : goal.returns
unfolding register_bytes
returns c = search rules
