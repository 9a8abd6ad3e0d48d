-- The theorem of `rules::theorems::one_memory`. Assumes nothing.
use Rattle.rules.proofs.FreeLaws.{free_bytes}
use Rattle.rules.proofs.CreateLaws.{create-rule}
use Rattle.rules.proofs.DestroyLaws.{destroy-rule, nothing-is-left}
use Rattle.rules.proofs.theorems.one_memory.Goals as goal

pub returns : goal.returns
returns c = record { free_bytes = free_bytes; create = create-rule; destroy = destroy-rule; nothing-is-left = nothing-is-left }
