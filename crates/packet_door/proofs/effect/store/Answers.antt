-- `packet_door::effect::store` meets its contract. Assumes nothing.
use Rattle.packet_door.proofs.effect.store.Goals as goal

pub store_word-requires : goal.store_word-requires
store_word-requires c =
    rw (c.first_byte-first.ensures, c.address_of-at.ensures) record { tested = c.requires.tested; first_in_bounds = c.requires.words_in_bounds }

pub returns : goal.returns
returns c = rw (c.first_byte-first.ensures, c.value_of-value.ensures, c.address_of-at.ensures) at c.store_word.ensures
