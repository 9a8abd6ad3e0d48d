-- `recording::feeding::feed` meets its contract. The loop's invariant: what is left of the block leads where all of it leads, and the text so far
-- stands in front of the buffer. Assumes nothing.
use mathlib.Core.Path.{◌≡◌, refl, sym, ◌∙◌}
use Prim.Native.Nat.{◌-◌}
use native.Mathlib.Omega.{arith}
use lib.ListN.{length, take, drop, length-drop}
use lib.Seq.{length-take-le}
use Rattle.recording.specs.Session.{reading, session}
use Rattle.recording.proofs.SessionLaws.{turn, feeds-wait, feeds-all}
use Rattle.recording.proofs.feeding.feed.Goals as goal

pub loop-at-init : goal.loop-at-init
loop-at-init c = (omega arith, refl, refl, refl)

pub overflow_sub-out : goal.overflow_sub-out
overflow_sub-out c = omega (arith, c.loop-at.invariant.0)

pub shape_of-out-then-must_wait : goal.shape_of-out-then-must_wait
shape_of-out-then-must_wait c = c.loop-at.invariant.1

pub returns-then-must_wait : goal.returns-then-must_wait
returns-then-must_wait c =
    feeds-wait c.args.language c.args.block.now c.loop-at.at c.loop-at.len (session (reading c.loop-at.now c.loop-at.line) c.loop-at.state c.loop-at.memory) c.loop-at.out c.args.out.now c.loop-at.invariant.0 c.loop-at.invariant.1 c.loop-at.invariant.2 c.loop-at.now c.loop-at.line c.loop-at.state c.loop-at.memory _ refl (omega arith) (sym c.must_wait.ensures ∙ c.if-must_wait.true) c.loop-at.invariant.3

pub slice_bounds-read_character-count : goal.slice_bounds-read_character-count
slice_bounds-read_character-count c = omega (arith, c.loop-at.invariant.0)

pub slice_bounds-read_character-start : goal.slice_bounds-read_character-start
slice_bounds-read_character-start c = omega (arith, c.loop-at.invariant.0)

pub slice_bounds-read_character-end : goal.slice_bounds-read_character-end
slice_bounds-read_character-end c = omega (arith, c.loop-at.invariant.0)

pub read_character-step-requires : goal.read_character-step-requires
read_character-step-requires c =
    let size : length (take (length c.loop-at.out - c.loop-at.len) (drop c.loop-at.len c.loop-at.out)) ≡ length c.loop-at.out - c.loop-at.len = length-take-le _ (drop c.loop-at.len c.loop-at.out) (omega (arith, length-drop c.loop-at.len c.loop-at.out)) in
    rw size (sym c.must_wait.ensures ∙ c.if-must_wait.false)

pub overflow_add-len : goal.overflow_add-len
overflow_add-len c =
    let size : length (take (length c.loop-at.out - c.loop-at.len) (drop c.loop-at.len c.loop-at.out)) ≡ length c.loop-at.out - c.loop-at.len = length-take-le _ (drop c.loop-at.len c.loop-at.out) (omega (arith, length-drop c.loop-at.len c.loop-at.out)) in
    omega (arith, c.read_character-step.ensures.text.fits, size, c.loop-at.invariant.0, c.loop-at.invariant.1, c.well_formed.1.1.1.1.1.1)

pub loop-at-preserved : goal.loop-at-preserved
loop-at-preserved c =
    let done = turn c.args.language c.args.block.now c.loop-at.at c.loop-at.len (session (reading c.loop-at.now c.loop-at.line) c.loop-at.state c.loop-at.memory) c.loop-at.out c.args.out.now c.loop-at.invariant.0 c.loop-at.invariant.1 c.loop-at.invariant.2 c.read_character-step.result _ _ _ _ (omega arith) (sym c.must_wait.ensures ∙ c.if-must_wait.false) c.read_character-step.ensures _ c.loop-at.invariant.3 in
    done

pub shape_of-out : goal.shape_of-out
shape_of-out c = c.loop-at.invariant.1

pub returns : goal.returns
returns c =
    feeds-all c.args.language c.args.block.now c.loop-at.at c.loop-at.len (session (reading c.loop-at.now c.loop-at.line) c.loop-at.state c.loop-at.memory) c.loop-at.out c.args.out.now c.loop-at.invariant.0 c.loop-at.invariant.1 c.loop-at.invariant.2 c.loop-at.now c.loop-at.line c.loop-at.state c.loop-at.memory _ refl (omega arith) c.loop-at.invariant.3
