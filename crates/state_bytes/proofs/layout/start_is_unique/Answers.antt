-- `state_bytes::layout::start_is_unique` meets its contract. The loop's invariant: none of the processes passed begins there. Assumes nothing.
use mathlib.Core.Path.{◌≡◌, refl, sym, ap, ◌∙◌}
use mathlib.Core.Bool.{not}
use Prim.Native.Nat.{ℕ}
use native.Mathlib.Omega.{arith}
use Rattle.lists.proofs.Every.{below_more, below_fails}
use Rattle.state.specs.Layout.{start_is_unique}
use Rattle.state_bytes.specs.Layout.{begins_at}
use Rattle.state_bytes.specs.State.{state_of}
use Rattle.state_bytes.proofs.layout.start_is_unique.Goals as goal

pub loop-q-init : goal.loop-q-init
loop-q-init c = refl

pub begins_at-requires : goal.begins_at-requires
begins_at-requires c =
    record { q_lt_process_count = omega (arith, c.requires.p_lt_process_count) }

pub returns-then-begins_at : goal.returns-then-begins_at
unfolding start_is_unique
returns-then-begins_at c =
    let g = state_of c.args.state.now in
    let fails = below_fails (λ (k : ℕ). not (begins_at g c.read_start-start.result k)) c.args.p c.loop-q.q (omega arith) (ap not (sym c.begins_at.ensures ∙ c.if-begins_at.true)) in
    sym (rw c.read_start-start.ensures at fails)

pub loop-q-preserved : goal.loop-q-preserved
loop-q-preserved c =
    let g = state_of c.args.state.now in
    below_more (λ (k : ℕ). not (begins_at g c.read_start-start.result k)) c.loop-q.q c.loop-q.invariant (ap not (sym c.begins_at.ensures ∙ c.if-begins_at.false))

pub returns : goal.returns
unfolding start_is_unique
returns c =
    let p = c.args.p in
    let end : c.loop-q.q ≡ p = omega arith in
    sym (rw c.read_start-start.ensures at (rw end at c.loop-q.invariant))
