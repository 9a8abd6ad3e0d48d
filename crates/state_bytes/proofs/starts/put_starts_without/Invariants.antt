-- `state_bytes::starts::put_starts_without` meets its contract. The loop's invariant: the starts passed are written, and the others are as they
-- were. Assumes nothing.
use mathlib.Core.Path.{◌≡◌}
use lib.ListN.{length}
use Rattle.lists.specs.Buffer.{overlay}
use Rattle.lists.specs.Elements.{elements}
use Rattle.state_bytes.specs.Layout.{start_lowered}
use Rattle.state_bytes.specs.State.{state_of, with_starts_bytes}
use Rattle.state_bytes.specs.Widths.{state_width}
use Rattle.state_bytes.proofs.starts.put_starts_without.Given as goal

abbrev pub invariant-loop-q : goal.invariant-loop-q
invariant-loop-q l = (length l.state ≡ state_width) × (l.state ≡ with_starts_bytes (overlay (elements (start_lowered (state_of l.initial.state) l.start l.count) l.q) (state_of l.initial.state).starts) l.initial.state)
