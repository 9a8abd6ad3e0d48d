-- `text_door::answer::reply_to` meets its contract, by what is asked for. Assumes nothing.
use mathlib.Core.Path.{refl}
use Rattle.lists.specs.Buffer.{overlay}
use Rattle.rules.specs.TextRule.{register_at}
use Rattle.service.proofs.EffectLaws.{whole}
use Rattle.text_door.specs.At.{row_of}
use Rattle.text_door.proofs.RowLaws.{word-within, register-low}
use Rattle.text_door.proofs.answer.reply_to.Goals as goal

pub read_word-requires : goal.read_word-requires
unfolding row_of
read_word-requires c =
    rw (whole c.args.process c.args.bytes.now c.requires.present) (word-within c.args.line c.args.process.size (rw c.in-ReadWord.is at c.requires.passed.range))

pub read_word-requires-in-WriteWord : goal.read_word-requires-in-WriteWord
unfolding row_of
read_word-requires-in-WriteWord c =
    rw (whole c.args.process c.args.bytes.now c.requires.present) (word-within c.args.line c.args.process.size (rw c.in-WriteWord.is at c.requires.passed.range))

pub read_register-requires : goal.read_register-requires
unfolding row_of
read_register-requires c =
    register-low c.args.line c.args.process.size (rw c.in-ReadRegister.is at c.requires.passed.range)

pub read_register-requires-in-WriteRegister : goal.read_register-requires-in-WriteRegister
unfolding row_of
read_register-requires-in-WriteRegister c =
    register-low c.args.line c.args.process.size (rw c.in-WriteRegister.is at c.requires.passed.range)

pub returns-in-ReadWord : goal.returns-in-ReadWord
unfolding row_of
returns-in-ReadWord c = rw (c.in-ReadWord.is, ← c.read_word.ensures) c.respond.ensures

pub returns-in-WriteWord : goal.returns-in-WriteWord
unfolding row_of
returns-in-WriteWord c = rw (c.in-WriteWord.is, ← c.read_word-in-WriteWord.ensures) c.respond-in-WriteWord.ensures

pub returns-in-ReadRegister : goal.returns-in-ReadRegister
unfolding row_of register_at
returns-in-ReadRegister c = rw (c.in-ReadRegister.is, ← c.read_register.ensures) c.respond-in-ReadRegister.ensures

pub returns-in-WriteRegister : goal.returns-in-WriteRegister
unfolding row_of register_at
returns-in-WriteRegister c = rw (c.in-WriteRegister.is, ← c.read_register-in-WriteRegister.ensures) c.respond-in-WriteRegister.ensures

pub returns-in-Continue : goal.returns-in-Continue
unfolding row_of overlay
returns-in-Continue c = rw c.in-Continue.is refl

pub returns-in-Step : goal.returns-in-Step
unfolding row_of overlay
returns-in-Step c = rw c.in-Step.is refl
