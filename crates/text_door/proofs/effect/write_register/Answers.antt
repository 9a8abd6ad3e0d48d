-- `text_door::effect::write_register` meets its contract: the bytes of the value are deposited. Assumes nothing.
use Rattle.text_door.proofs.effect.write_register.Goals as goal

pub returns : goal.returns
returns c = rw (← c.register_bytes-value.ensures) c.deposit_vector.ensures
