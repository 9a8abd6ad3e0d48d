-- `format::header::Header::notice` meets its contract, by the two cases of the sum. Assumes nothing.
use mathlib.Core.Path.{refl}
use native.Mathlib.Omega.{arith}
use borrow.Author.Tests.{lt-ltb, le-ltb}
use Rattle.format.specs.Answer.{notice_of}
use Rattle.format.proofs.LayoutLaws.{same-fields}
use Rattle.format.proofs.header.Header.notice.Goals as goal

pub returns-then-kind-lt4 : goal.returns-then-kind-lt4
unfolding notice_of
returns-then-kind-lt4 c = same-fields refl (rw (lt-ltb _ _ c.if-kind-lt4.true) (omega arith)) refl refl refl

pub returns-else-kind-lt4 : goal.returns-else-kind-lt4
unfolding notice_of
returns-else-kind-lt4 c = rw (le-ltb _ _ c.if-kind-lt4.false)
