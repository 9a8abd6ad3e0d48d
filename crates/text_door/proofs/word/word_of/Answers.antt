-- `text_door::word::word_of` meets its contract: a byte is below 256. Assumes nothing.
use native.Mathlib.Omega.{arith}
use Rattle.rules.specs.TextRule.{word_of}
use Rattle.text_door.proofs.word.word_of.Goals as goal

pub returns : goal.returns
unfolding word_of
returns c = omega arith
