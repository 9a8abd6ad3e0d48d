-- `format::header::Header::cant` meets its contract, by the two cases of the sum. Assumes nothing.
use mathlib.Core.Path.{refl}
use native.Mathlib.Omega.{arith}
use borrow.Author.Tests.{lt-ltb, le-ltb}
use Rattle.format.specs.Answer.{cant_of}
use Rattle.format.proofs.LayoutLaws.{same-fields}
use Rattle.format.proofs.header.Header.cant.Goals as goal

pub returns-then-self-lt-CANT : goal.returns-then-self-lt-CANT
unfolding cant_of
returns-then-self-lt-CANT c = same-fields refl (rw (lt-ltb _ _ c.if-self-lt-CANT.true) (omega arith)) refl refl refl

pub returns-else-self-lt-CANT : goal.returns-else-self-lt-CANT
unfolding cant_of
returns-else-self-lt-CANT c = rw (le-ltb _ _ c.if-self-lt-CANT.false)
