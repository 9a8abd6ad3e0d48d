use Rattle.std.proofs.Common.{rules}
use Rattle.format.specs.Refusal.{wrong_length}
use Rattle.format.proofs.refusal.wrong_length.Goals as goal

pub returns-then-length-lt-HEADER_BYTES : goal.returns-then-length-lt-HEADER_BYTES
unfolding wrong_length
returns-then-length-lt-HEADER_BYTES c = search rules

pub returns-else-length-lt-HEADER_BYTES : goal.returns-else-length-lt-HEADER_BYTES
unfolding wrong_length
returns-else-length-lt-HEADER_BYTES c = search rules
