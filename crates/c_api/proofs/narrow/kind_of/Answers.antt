-- `c_api::narrow::kind_of` meets its contract, by its test. Assumes nothing.
use borrow.Author.Tests.{lt-ltb, le-ltb}
use Rattle.c_api.specs.Called.{kind_of}
use Rattle.c_api.proofs.narrow.kind_of.Goals as goal

pub returns-then-reason-lt65536 : goal.returns-then-reason-lt65536
unfolding kind_of
returns-then-reason-lt65536 c = rw (lt-ltb _ _ c.if-reason-lt65536.true)

pub returns-else-reason-lt65536 : goal.returns-else-reason-lt65536
unfolding kind_of
returns-else-reason-lt65536 c = rw (le-ltb _ _ c.if-reason-lt65536.false)
