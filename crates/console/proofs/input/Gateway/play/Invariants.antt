-- The loop: what is left of the block leads where all of it leads.
use Rattle.std.proofs.Common.{length, ◌≡◌}
use Rattle.recording.specs.Session.{through}
use Rattle.console.specs.Gateway.{session_of}
use Rattle.console.proofs.input.Gateway.play.Given as goal

abbrev pub invariant-loop-rest : goal.invariant-loop-rest
invariant-loop-rest g l =
    through l.language (session_of l.self) l.rest ≡ through l.language (session_of l.fn.self) l.block

abbrev pub decreases-loop-rest : goal.decreases-loop-rest
decreases-loop-rest g l = length l.rest
