-- `state_bytes::sound::state_sound` meets its contract. The loop's invariant: the processes passed are sound. Assumes nothing.
use Prim.Native.Nat.{◌-◌}
use Rattle.state_bytes.specs.State.{SoundBefore}
use Rattle.state_bytes.specs.Widths.{starts_at}
use Rattle.state_bytes.proofs.sound.state_sound.Given as goal

abbrev pub invariant-loop-next : goal.invariant-loop-next
invariant-loop-next l = SoundBefore l.next l.whole

abbrev pub decreases-loop-next : goal.decreases-loop-next
decreases-loop-next l = starts_at - l.next
