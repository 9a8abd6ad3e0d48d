-- `text_door::effect::read_word` meets its contract: the word of the four bytes that are examined. Assumes nothing.
use mathlib.Core.Path.{ap, ◌∙◌}
use Rattle.rules.specs.TextRule.{word_of, word_at}
use Rattle.text_door.proofs.effect.read_word.Goals as goal

pub returns : goal.returns
unfolding word_at
returns c = c.word_of.ensures ∙ ap word_of c.examine.ensures
