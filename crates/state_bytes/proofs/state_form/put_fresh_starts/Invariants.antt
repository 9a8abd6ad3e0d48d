-- `state_bytes::state_form::put_fresh_starts` meets its contract. The loop's invariant: the starts passed are written, and the next process begins
-- where those passed end. Assumes nothing.
use mathlib.Core.Path.{◌≡◌}
use Prim.Native.Nat.{ℕ}
use lib.ListN.{length, get_or}
use Rattle.lists.specs.Buffer.{overlay}
use Rattle.lists.specs.Elements.{elements}
use Rattle.lists.specs.Sum.{total}
use Rattle.state.specs.Fresh.{fresh_starts}
use Rattle.state_bytes.specs.State.{state_of, with_starts_bytes}
use Rattle.state_bytes.specs.Widths.{process_count}
use Rattle.state_bytes.proofs.StartLaws.{size_if}
use Rattle.state_bytes.proofs.state_form.put_fresh_starts.Given as goal

abbrev pub invariant-loop-p : goal.invariant-loop-p
invariant-loop-p l = (length l.there ≡ process_count) × (length l.state ≡ length l.initial.state) × (l.start ≡ total (size_if l.there l.sizes) l.p) × (l.state ≡ with_starts_bytes (overlay (elements (λ (k : ℕ). get_or (fresh_starts 0 l.there l.sizes) k 0) l.p) (state_of l.initial.state).starts) l.initial.state)
