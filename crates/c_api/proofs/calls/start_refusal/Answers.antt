-- `c_api::calls::start_refusal` meets its contract, by its tests. Assumes nothing.
use mathlib.Core.Path.{◌≡◌, sym, ◌∙◌}
use mathlib.Core.Bool.{true, false}
use borrow.Author.Tests.{eq-eqb, ne_eqb, le-ltb}
use lib.ListN.{length}
use Rattle.format.specs.Outcome.{first_failing}
use Rattle.state.specs.Fresh.{sizes_right}
use Rattle.state_bytes.specs.Widths.{process_count, state_width}
use Rattle.c_api.specs.Called.{bits_of, start_number}
use Rattle.c_api.proofs.calls.start_refusal.Goals as goal

pub returns-then-state-ne-STATE_BYTES : goal.returns-then-state-ne-STATE_BYTES
unfolding start_number first_failing
returns-then-state-ne-STATE_BYTES c =
    rw (eq-eqb (length c.args.sizes.now) process_count c.requires.sizes_len, ne_eqb (length c.args.state.now) state_width c.if-state-ne-STATE_BYTES.true)

pub returns-then-sizes_right : goal.returns-then-sizes_right
unfolding start_number first_failing
returns-then-sizes_right c =
    let right : sizes_right (bits_of c.args.there) c.args.sizes.now ≡ true = rw (c.bits.ensures, c.eight.ensures) at (sym c.sizes_right.ensures ∙ c.if-sizes_right.true) in
    rw (eq-eqb (length c.args.sizes.now) process_count c.requires.sizes_len, eq-eqb (length c.args.state.now) state_width c.if-state-ne-STATE_BYTES.false, right, le-ltb c.args.there 256 c.requires.le_there)

pub returns-else-sizes_right : goal.returns-else-sizes_right
unfolding start_number first_failing
returns-else-sizes_right c =
    let wrong : sizes_right (bits_of c.args.there) c.args.sizes.now ≡ false = rw (c.bits.ensures, c.eight.ensures) at (sym c.sizes_right.ensures ∙ c.if-sizes_right.false) in
    rw (eq-eqb (length c.args.sizes.now) process_count c.requires.sizes_len, eq-eqb (length c.args.state.now) state_width c.if-state-ne-STATE_BYTES.false, wrong)
