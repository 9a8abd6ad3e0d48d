-- `text_door::effect::perform` meets its contract, by what is asked for. Assumes nothing.
use mathlib.Core.Path.{refl}
use native.Mathlib.Omega.{arith}
use borrow.Author.Tests.{leb-true}
use Rattle.process.proofs.TestedLaws.{tested-sound}
use Rattle.service.proofs.EffectLaws.{whole}
use Rattle.text_door.specs.At.{row_of}
use Rattle.text_door.proofs.RowLaws.{word-within, register-low, pc-low}
use Rattle.text_door.proofs.effect.perform.Goals as goal

pub write_word-requires : goal.write_word-requires
unfolding row_of
write_word-requires c =
    record {
      tested = c.requires.present.tested;
      third_in_bounds = rw (whole c.args.process c.args.bytes.now c.requires.present) (word-within c.args.line c.args.process.size (rw c.in-WriteWord.is at c.requires.passed.range));
    }

pub write_register-requires : goal.write_register-requires
unfolding row_of
write_register-requires c =
    (register-low c.args.line c.args.process.size (rw c.in-WriteRegister.is at c.requires.passed.range), leb-true c.args.line.fourth 65535 (rw c.in-WriteRegister.is at c.requires.passed.state))

pub overflow_cast-line : goal.overflow_cast-line
unfolding row_of
overflow_cast-line c =
    omega (arith, pc-low c.args.line c.args.process.size (tested-sound c.args.process c.args.bytes.now c.requires.present.tested).sized.most (rw c.in-Continue.is at c.requires.passed.range))

pub overflow_cast-line-in-Step : goal.overflow_cast-line-in-Step
unfolding row_of
overflow_cast-line-in-Step c =
    omega (arith, pc-low c.args.line c.args.process.size (tested-sound c.args.process c.args.bytes.now c.requires.present.tested).sized.most (rw c.in-Step.is at c.requires.passed.range))

pub returns-in-ReadWord : goal.returns-in-ReadWord
unfolding row_of
returns-in-ReadWord c = rw c.in-ReadWord.is record { value = refl; bytes_after = refl }

pub returns-in-WriteWord : goal.returns-in-WriteWord
unfolding row_of
returns-in-WriteWord c = rw c.in-WriteWord.is c.write_word.ensures

pub returns-in-ReadRegister : goal.returns-in-ReadRegister
unfolding row_of
returns-in-ReadRegister c = rw c.in-ReadRegister.is record { value = refl; bytes_after = refl }

pub returns-in-WriteRegister : goal.returns-in-WriteRegister
unfolding row_of
returns-in-WriteRegister c = rw c.in-WriteRegister.is record { value = c.write_register.ensures; bytes_after = refl }

pub returns-in-Continue : goal.returns-in-Continue
unfolding row_of
returns-in-Continue c = rw c.in-Continue.is c.continue_from.ensures

pub returns-in-Step : goal.returns-in-Step
unfolding row_of
returns-in-Step c = rw c.in-Step.is c.step_from.ensures
