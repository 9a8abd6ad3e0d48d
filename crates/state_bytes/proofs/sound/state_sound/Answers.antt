-- `state_bytes::sound::state_sound` meets its contract. The loop's invariant: the processes passed are sound. Assumes nothing.
use mathlib.Core.Path.{◌≡◌, sym, ap, ◌∙◌}
use mathlib.Core.Bool.{true, false}
use Prim.Native.Nat.{◌/◌}
use native.Mathlib.Omega.{arith}
use borrow.Author.Rules.{rules}
use lib.ListN.{length}
use borrow.Author.Tests.{ne_eqb}
use Rattle.state_bytes.specs.Chunk.{every_chunk}
use Rattle.state_bytes.specs.Process.{process_sound}
use Rattle.state_bytes.specs.State.{state_formed, state_sound}
use Rattle.state_bytes.specs.Widths.{process_count, process_width, state_width}
use Rattle.state_bytes.proofs.ChunkLaws.{length-piece, test-piece, every-fails}
use Rattle.state_bytes.proofs.StateLaws.{each-record, each-sound, sound-next}
use Rattle.state_bytes.proofs.sound.state_sound.Goals as goal

pub returns-in_default : goal.returns-in_default
unfolding state_sound state_formed
returns-in_default c =
    let other : length c.args.state.now ≡ state_width → ⊥ = search rules in
    rw (ne_eqb _ _ other)

pub loop-next-init : goal.loop-next-init
loop-next-init c = c.plain_before-next.ensures

pub slice_bounds-process_sound-end : goal.slice_bounds-process_sound-end
slice_bounds-process_sound-end c = omega (arith, c.loop-next.invariant.0, c.loop-next.invariant.2)

pub process_sound-requires : goal.process_sound-requires
process_sound-requires c =
    let m = c.in-Some.whole.now in
    omega (arith, length-piece process_width c.loop-next.next m (omega (arith, c.loop-next.invariant.0, c.loop-next.invariant.2)))

pub returns-then-not-process_sound : goal.returns-then-not-process_sound
returns-then-not-process_sound c =
    let p = c.loop-next.next / process_width in
    let m = c.in-Some.whole.now in
    let fails = test-piece process_width p c.loop-next.next process_sound m false c.loop-next.invariant.0 (sym c.process_sound.ensures ∙ c.if-not-process_sound.true) in
    sym (each-sound m c.loop-next.invariant.2 ∙ rw (every-fails process_width process_sound process_count p m (omega (arith, c.loop-next.invariant.0)) fails))
    ∙ ap state_sound c.in-Some.ensures.cases.same

pub loop-next-preserved : goal.loop-next-preserved
loop-next-preserved c =
    let next = c.loop-next.next in
    let m = c.in-Some.whole.now in
    let holds = test-piece process_width (next / process_width) next process_sound m true c.loop-next.invariant.0 (sym c.process_sound.ensures ∙ c.if-not-process_sound.false) in
    sound-next next m c.loop-next.invariant (omega arith) holds

pub layout_sound-requires : goal.layout_sound-requires
layout_sound-requires c =
    let m = c.in-Some.whole.now in
    let end : c.loop-next.next / process_width ≡ process_count = omega (arith, c.loop-next.invariant.0, c.loop-next.invariant.1) in
    record { state_value = each-record m (rw end at c.loop-next.invariant.3) }

pub returns : goal.returns
returns c =
    let m = c.in-Some.whole.now in
    let end : c.loop-next.next / process_width ≡ process_count = omega (arith, c.loop-next.invariant.0, c.loop-next.invariant.1) in
    let all : every_chunk process_width process_sound process_count m ≡ true = rw end at c.loop-next.invariant.3 in
    c.layout_sound.ensures ∙ sym (each-sound m c.loop-next.invariant.2 ∙ rw all) ∙ ap state_sound c.in-Some.ensures.cases.same
