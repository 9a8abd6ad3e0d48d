-- `state_bytes::sound::process_plain` meets its contract, test by test. Assumes nothing.
use Rattle.std.proofs.Common.{arith, ap, ◌∙◌}
use Rattle.std.proofs.lemmas.Bool.Decides.{nat_tests}
use Rattle.state_bytes.specs.Entry.{entries_bits}
use Rattle.state_bytes.specs.Process.{process_plain}
use Rattle.state_bytes.specs.Widths.{entries_at}
use Rattle.state_bytes.proofs.ChunkLaws.{tail-part}
use Rattle.state_bytes.proofs.sound.process_plain.Goals as goal
use Rattle.state_bytes.proofs.sound.process_plain.Goals.{then-head_sound, else-head_sound}

pub returns-then-entries_bits-eq0 : goal.returns-then-entries_bits-eq0
unfolding process_plain
returns-then-entries_bits-eq0 c =
    elim c.if-head_sound.branch [
      | then-head_sound w ↦ let bits = w.entries_bits.ensures ∙ ap entries_bits (tail-part entries_at c.args.bytes.now) in grind (arith, nat_tests)
      | else-head_sound w ↦ grind (arith, nat_tests)
    ]

pub returns-else-entries_bits-eq0 : goal.returns-else-entries_bits-eq0
unfolding process_plain
returns-else-entries_bits-eq0 c =
    elim c.if-head_sound.branch [
      | then-head_sound w ↦ let bits = w.entries_bits.ensures ∙ ap entries_bits (tail-part entries_at c.args.bytes.now) in grind (arith, nat_tests)
      | else-head_sound w ↦ grind (arith, nat_tests)
    ]
