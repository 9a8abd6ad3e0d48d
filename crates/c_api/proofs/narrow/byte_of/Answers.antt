-- `c_api::narrow::byte_of` meets its contract, by its test. Assumes nothing.
use borrow.Author.Tests.{lt-ltb, le-ltb}
use Rattle.c_api.specs.Called.{byte_of}
use Rattle.c_api.proofs.narrow.byte_of.Goals as goal

pub returns-then-n-lt256 : goal.returns-then-n-lt256
unfolding byte_of
returns-then-n-lt256 c = rw (lt-ltb _ _ c.if-n-lt256.true)

pub returns-else-n-lt256 : goal.returns-else-n-lt256
unfolding byte_of
returns-else-n-lt256 c = rw (le-ltb _ _ c.if-n-lt256.false)
