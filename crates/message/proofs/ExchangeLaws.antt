-- Laws of writing and reading a message. Assumes nothing.
use mathlib.Core.Path.{◌≡◌}
use mathlib.Core.List.{List}
use Prim.Native.Nat.{ℕ, ◌+◌, ◌≤◌, ◌<◌}
use native.Mathlib.Omega.{arith}
use borrow.Author.Tests.{ltb-false, lt-ltb, eq-eqb, ne_eqb}
use lib.ListN.{length}
use Rattle.lists.specs.Buffer.{overlay}
use Rattle.format.specs.declared.header.Header.{Header}
use Rattle.std.proofs.Common.{Option, Ok, Err}
use Rattle.ops.specs.declared.table.Form.{Form}
use Rattle.message.specs.Exchange.{Forms, write_number, answered, read_number, reads}
use Rattle.format.specs.Outcome.{refusal_by, first_failing}
use Rattle.format.specs.Refusal.{wrong_length}
use Rattle.format.proofs.OutcomeLaws.{outcome-zero, outcome-other, first_passes, rest-passes}
use Rattle.format.proofs.TestLaws.{zero-passed, sized-between}

-- where no test fails the buffer has room, and the string is at most 256 bytes long
pub record Room (carried : ℕ) (buffer : List ℕ) : Type 0 where
  pub buffer-long : 266 ≤ length buffer
  pub string-short : carried ≤ 256

pub write_number-room : (found : Option Form) (h : Header) (carried : ℕ) (buffer : List ℕ) → write_number found h carried buffer ≡ 0 → Room carried buffer
unfolding write_number
write_number-room found h carried buffer e =
    let p = zero-passed _ found h (10 + carried) (rest-passes 0 _ _ e) in
    let s = sized-between (10 + carried) p.sized in
    record {
      buffer-long = ltb-false _ _ (first_passes 0 _ _ e);
      string-short = omega arith;
    }

module _ (number carried : ℕ) (bytes buffer : List ℕ) where
  -- a refusal writes nothing
  pub answered-refused : (number ≡ 0 → ⊥) → (Err (refusal_by number) ≡ (answered number carried bytes buffer).outcome) × (buffer ≡ (answered number carried bytes buffer).buffer)
  unfolding answered
  answered-refused e = (outcome-other number (10 + carried) e, rw (ne_eqb number 0 e))

  -- a grant lays the bytes over the buffer's start
  pub answered-granted : number ≡ 0 → (Ok (10 + carried) ≡ (answered number carried bytes buffer).outcome) × (overlay bytes buffer ≡ (answered number carried bytes buffer).buffer)
  unfolding answered
  answered-granted e = (outcome-zero number (10 + carried) e, rw (eq-eqb number 0 e))

-- under ten bytes there is no message
pub reads_short : (forms : Forms) (m : List ℕ) → length m < 10 → Err (refusal_by 3) ≡ reads forms m
unfolding reads read_number first_failing wrong_length
reads_short forms m h = rw (lt-ltb (length m) 10 h)
