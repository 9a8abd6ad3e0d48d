-- `text_door::effect::write_word` meets its contract: the bytes of the word are deposited. Assumes nothing.
use Rattle.text_door.proofs.effect.write_word.Goals as goal

pub returns : goal.returns
returns c = rw (← c.word_bytes-word.ensures) c.deposit.ensures
