-- `state_bytes::starts::put_starts_without` meets its contract. The loop's invariant: the starts passed are written, and the others are as they
-- were. Assumes nothing.
use mathlib.Core.Path.{◌≡◌, sym, ap, ◌∙◌}
use mathlib.Core.List.{List}
use Prim.Native.Nat.{ℕ, ◌+◌}
use native.Mathlib.Omega.{arith}
use lib.ListN.{length}
use Rattle.lists.specs.Buffer.{Bytes, overlay}
use Rattle.state_bytes.specs.State.{with_start_bytes}
use Rattle.state_bytes.specs.Widths.{process_count}
use Rattle.state_bytes.proofs.StartLaws.{same-starts, lowered-more, length-lowered, lowered-all}
use Rattle.state_bytes.proofs.starts.put_starts_without.Goals as goal

pub loop-q-init : goal.loop-q-init
unfolding overlay
loop-q-init c =
    let bytes : Bytes c.args.state.now = λ i. omega (arith, c.slice_known-1.given i) in
    (c.requires.state_len, sym (same-starts c.args.state.now bytes c.requires.state_len))

pub start_lowered-lowered-requires : goal.start_lowered-lowered-requires
start_lowered-lowered-requires c = record { q_lt_process_count = omega arith; state_width_in_bounds = omega (arith, c.loop-q.invariant.0) }

pub put_start-requires : goal.put_start-requires
put_start-requires c = record { p_lt_process_count = omega arith; state_len = c.loop-q.invariant.0 }

pub loop-q-preserved : goal.loop-q-preserved
loop-q-preserved c =
    let m = c.args.state.now in
    let q = c.loop-q.q in
    let start = c.read_start-start.result in
    let count = c.read_extent_at-count.result in
    let laid = lowered-more m c.requires.state_len start count q c.start_lowered-lowered.result c.loop-q.state c.put_start.new.state (omega arith) c.loop-q.invariant.1 c.start_lowered-lowered.ensures c.put_start.ensures in
    (ap (λ (b : List ℕ). length b) laid ∙ length-lowered m c.requires.state_len start count (q + 1) (omega arith), laid)

pub put_start-requires-2 : goal.put_start-requires-2
put_start-requires-2 c = record { p_lt_process_count = omega arith; state_len = c.loop-q.invariant.0 }

pub returns : goal.returns
returns c =
    let m = c.args.state.now in
    let end : c.loop-q.q ≡ process_count = omega arith in
    let all = rw end at c.loop-q.invariant.1 in
    c.put_start-2.ensures
    ∙ ap (with_start_bytes c.args.p 0) all
    ∙ lowered-all m c.requires.state_len c.read_start-start.result c.read_extent_at-count.result c.args.p c.requires.p_lt_process_count c.read_start-start.ensures c.read_extent_at-count.ensures
