-- `text_door::word::word_bytes` meets its contract: four stores. Assumes nothing.
use Rattle.rules.specs.TextRule.{word_bytes}
use borrow.Author.Rules.{rules}
use Rattle.text_door.proofs.word.word_bytes.Goals as goal

pub returns : goal.returns
unfolding word_bytes
returns c = search rules
