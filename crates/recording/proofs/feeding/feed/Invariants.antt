-- `recording::feeding::feed` meets its contract. The loop's invariant: what is left of the block leads where all of it leads, and the text so far
-- stands in front of the buffer. Assumes nothing.
use mathlib.Core.Path.{◌≡◌}
use mathlib.Core.List.{[]}
use Prim.Native.Nat.{◌≤◌}
use lib.ListN.{length, take, drop}
use Rattle.recording.specs.Session.{reading, session, fed}
use Rattle.recording.proofs.feeding.feed.Given as goal

abbrev pub invariant-loop-at : goal.invariant-loop-at
invariant-loop-at l = (l.len ≤ length l.out) × (length l.out ≡ length l.initial.out) × (drop l.len l.out ≡ drop l.len l.initial.out) × (fed l.language (length l.initial.out) (session (reading l.now l.line) l.state l.memory) (take l.len l.out) (drop l.at l.block) ≡ fed l.language (length l.initial.out) (session (reading l.initial.now l.initial.line) l.initial.state l.initial.memory) [] l.block)
