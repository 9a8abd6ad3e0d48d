-- `state_bytes::sound::plain_before` meets its contract. The loop's invariant: the processes passed are sound. Assumes nothing.
use mathlib.Core.Path.{◌≡◌, refl, sym, ◌∙◌}
use mathlib.Core.Bool.{true}
use Prim.Native.Nat.{◌*◌, ◌/◌}
use native.Mathlib.Omega.{arith}
use borrow.Author.Rules.{rules}
use lib.ListN.{take, drop}
use Rattle.state_bytes.specs.Chunk.{every_chunk}
use Rattle.state_bytes.specs.Process.{process_plain}
use Rattle.state_bytes.specs.Widths.{process_width, starts_at}
use Rattle.state_bytes.proofs.ChunkLaws.{length-piece, test-piece}
use Rattle.state_bytes.proofs.ProcessLaws.{plain-sound}
use Rattle.state_bytes.proofs.StateLaws.{sound-next}
use Rattle.state_bytes.proofs.sound.plain_before.Goals as goal

pub loop-at-init : goal.loop-at-init
unfolding every_chunk
loop-at-init c = (refl, omega arith, search rules, refl)

pub slice_bounds-process_plain-end : goal.slice_bounds-process_plain-end
slice_bounds-process_plain-end c = omega (arith, c.loop-at.invariant.0, c.loop-at.invariant.2)

pub process_plain-requires : goal.process_plain-requires
process_plain-requires c =
    let m = c.args.state.now in
    omega (arith, length-piece process_width c.loop-at.at m (omega (arith, c.loop-at.invariant.0, c.loop-at.invariant.2)))

pub returns-then-not-process_plain : goal.returns-then-not-process_plain
returns-then-not-process_plain c = c.loop-at.invariant

pub loop-at-preserved : goal.loop-at-preserved
loop-at-preserved c =
    let at = c.loop-at.at in
    let m = c.args.state.now in
    let plain = test-piece process_width (at / process_width) at process_plain m true c.loop-at.invariant.0 (sym c.process_plain.ensures ∙ c.if-not-process_plain.false) in
    sound-next at m c.loop-at.invariant (omega arith) (plain-sound (take process_width (drop (process_width * (at / process_width)) m)) plain)

pub returns : goal.returns
returns c =
    let end : c.loop-at.at ≡ starts_at = omega (arith, c.loop-at.invariant.1) in
    rw end at c.loop-at.invariant
