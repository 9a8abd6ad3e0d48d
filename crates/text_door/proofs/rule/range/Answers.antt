-- `text_door::rule::range` meets its contract, by what is asked for. Assumes nothing.
use Rattle.text_door.specs.At.{row_of}
use Rattle.text_door.proofs.rule.range.Goals as goal

pub returns-in-ReadWord : goal.returns-in-ReadWord
unfolding row_of
returns-in-ReadWord c = rw c.in-ReadWord.is c.word_fits.ensures

pub returns-in-WriteWord : goal.returns-in-WriteWord
unfolding row_of
returns-in-WriteWord c = rw c.in-WriteWord.is c.word_fits-in-WriteWord.ensures

pub returns-in-ReadRegister : goal.returns-in-ReadRegister
unfolding row_of
returns-in-ReadRegister c = rw c.in-ReadRegister.is c.register_fits.ensures

pub returns-in-WriteRegister : goal.returns-in-WriteRegister
unfolding row_of
returns-in-WriteRegister c = rw c.in-WriteRegister.is c.register_fits-in-WriteRegister.ensures

pub returns-in-Continue : goal.returns-in-Continue
unfolding row_of
returns-in-Continue c = rw c.in-Continue.is c.pc_fits.ensures

pub returns-in-Step : goal.returns-in-Step
unfolding row_of
returns-in-Step c = rw c.in-Step.is c.pc_fits-in-Step.ensures
