-- `c_api::narrow::type_of` meets its contract, by its test. Assumes nothing.
use borrow.Author.Tests.{lt-ltb, le-ltb}
use Rattle.c_api.specs.Called.{type_of}
use Rattle.c_api.proofs.narrow.type_of.Goals as goal

pub returns-then-id-lt4294967296 : goal.returns-then-id-lt4294967296
unfolding type_of
returns-then-id-lt4294967296 c = rw (lt-ltb _ _ c.if-id-lt4294967296.true) c.byte_of.ensures

pub returns-else-id-lt4294967296 : goal.returns-else-id-lt4294967296
unfolding type_of
returns-else-id-lt4294967296 c = rw (le-ltb _ _ c.if-id-lt4294967296.false)
