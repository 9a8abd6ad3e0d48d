-- `gateway::fresh::fresh_start` meets its contract, by the length of the buffer. Assumes nothing.
use mathlib.Core.Path.{refl, sym, ap, ◌∙◌}
use lib.ListN.{length}
use borrow.Author.Tests.{eq-eqb, ne_eqb}
use Rattle.format.specs.Outcome.{outcome}
use Rattle.state_bytes.specs.Widths.{state_width}
use Rattle.gateway.specs.Called.{started, start_on}
use borrow.Author.Rules.{rules}
use Rattle.gateway.proofs.fresh.fresh_start.Goals as goal

pub returns-then-state-ne-STATE_BYTES : goal.returns-then-state-ne-STATE_BYTES
unfolding start_on
returns-then-state-ne-STATE_BYTES c = rw (ne_eqb (length c.args.state.now) state_width c.if-state-ne-STATE_BYTES.true) refl

pub returns-then-not-sizes_right : goal.returns-then-not-sizes_right
unfolding start_on
returns-then-not-sizes_right c =
    rw (eq-eqb (length c.args.state.now) state_width c.if-state-ne-STATE_BYTES.false, ← c.sizes_right.ensures, c.if-not-sizes_right.true) refl

pub put_fresh_start-requires : goal.put_fresh_start-requires
put_fresh_start-requires c =
    record {
      sizes_value = sym c.sizes_right.ensures ∙ c.if-not-sizes_right.false;
      state_len = search rules;
    }

pub returns : goal.returns
unfolding start_on
returns c =
    rw (eq-eqb (length c.args.state.now) state_width c.if-state-ne-STATE_BYTES.false, ← c.sizes_right.ensures, c.if-not-sizes_right.false) (ap (started (outcome 0 0)) c.put_fresh_start.ensures)
