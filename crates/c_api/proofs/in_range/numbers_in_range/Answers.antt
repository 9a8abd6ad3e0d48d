-- The theorem of `c_api::in_range::numbers_in_range`, number by number. Assumes nothing.
use mathlib.Core.Path.{◌≡◌, ap, ◌∙◌}
use mathlib.Core.List.{List}
use Prim.Native.Nat.{ℕ, ◌<◌}
use borrow.Author.Tests.{lt-ltb, eq-eqb}
use lib.ListN.{length}
use Rattle.lists.specs.Word.{vector_of}
use Rattle.rules.specs.Step.{report, packet}
use Rattle.state_bytes.specs.State.{door_of}
use Rattle.gateway.specs.Called.{call_on, start_on}
use Rattle.c_api.specs.Called.{bits_of, kind_of, report_on, type_of, packet_on}
use Rattle.c_api.proofs.DeskLaws.{all_fit, fit-writes}
use native.Mathlib.Nat.{mod-eq_of_lt}
use Rattle.c_api.proofs.NarrowLaws.{same_byte}
use Rattle.c_api.proofs.StartLaws.{start-same}
use Rattle.c_api.proofs.in_range.numbers_in_range.Goals as goal

report-same : (state memory : List ℕ) (pid kind reason : ℕ) (words notice line : List ℕ) → length words ≡ 18 → reason < 65536
    → report_on state memory pid kind reason words notice line ≡ call_on state memory (report pid kind reason (vector_of words) notice line)
unfolding report_on kind_of
report-same state memory pid kind reason words notice line n r = rw (eq-eqb (length words) 18 n, lt-ltb reason 65536 r)

packet-same : (state memory : List ℕ) (kind id : ℕ) (words ack : List ℕ) → kind < 256 → id < 4294967296
    → packet_on state memory kind id words ack ≡ call_on state memory (packet (door_of state) kind id words ack)
unfolding packet_on type_of
packet-same state memory kind id words ack k i = rw (lt-ltb id 4294967296 i, same_byte kind k, mod-eq_of_lt i)

pub returns : goal.returns
returns c =
    record {
      reports = report-same;
      starts = λ there door sizes state low byte eight. start-same there sizes door state low eight ∙ ap (λ (d : ℕ). start_on (bits_of there) sizes d state) (same_byte door byte);
      packets = packet-same;
      writes-same = λ h string buffer f. fit-writes h string buffer (all_fit h f);
    }
