-- `format::header::Header::of` meets its contract: the words are those of their two bytes. Assumes nothing.
use mathlib.Core.Path.{refl}
use native.Mathlib.Omega.{arith}
use Rattle.format.specs.Layout.{header_of}
use Rattle.format.proofs.LayoutLaws.{same-fields}
use Rattle.format.proofs.header.Header.of.Goals as goal

pub returns : goal.returns
unfolding header_of
returns c = same-fields refl refl refl (omega (arith, c.word_of.ensures)) (omega (arith, c.word_of-2.ensures))
