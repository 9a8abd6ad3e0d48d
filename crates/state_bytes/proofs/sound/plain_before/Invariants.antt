-- `state_bytes::sound::plain_before` meets its contract. The loop's invariant: the processes passed are sound. Assumes nothing.
use Prim.Native.Nat.{◌-◌}
use Rattle.state_bytes.specs.State.{SoundBefore}
use Rattle.state_bytes.specs.Widths.{starts_at}
use Rattle.state_bytes.proofs.sound.plain_before.Given as goal

abbrev pub invariant-loop-at : goal.invariant-loop-at
invariant-loop-at l = SoundBefore l.at l.state

abbrev pub decreases-loop-at : goal.decreases-loop-at
decreases-loop-at l = starts_at - l.at
