-- Writing and reading a message, for any table of forms: that of the requests, or that of the answers.
use Rattle.std.specs.Prelude.{Option, true, cond, List, ◌∷◌, ℕ, ◌+◌, length, ltb, eqb}
use Rattle.lists.specs.Buffer.{overlay}
use Rattle.format.specs.declared.header.Header.{Header}
use Rattle.ops.specs.declared.table.Form.{Form}
use Rattle.format.specs.Outcome.{Outcome, Reading, outcome, reading, test, first_failing}
use Rattle.format.specs.Layout.{header, written, header_of, fixed_right}
use Rattle.format.specs.Refusal.{layout_tests}
use Rattle.format.specs.Sizes.{header_bytes, message_bytes}

-- what a writer returns, and its output buffer after it
pub record Written : Type 0 where
  pub outcome : Outcome
  pub buffer : List ℕ

-- the two together
abbrev pub wrote : Outcome → List ℕ → Written
wrote o buffer = record { outcome = o; buffer = buffer }

-- 'The desk writer uses 1 (output buffer under 266), 3, 4, 5, 6': the first that fails for a string of this length
unfoldable pub write_number : Option Form → Header → ℕ → List ℕ → ℕ
write_number found h carried buffer =
    first_failing (test 1 (ltb (length buffer) message_bytes) ∷ layout_tests true found h (header_bytes + carried))

-- bytes go to the buffer's start where the number is 0; 'write nothing when they refuse'; 'buffer bytes past those written are never touched'
unfoldable pub answered : ℕ → ℕ → List ℕ → List ℕ → Written
answered number carried bytes buffer =
    record {
      outcome = outcome number (header_bytes + carried);
      buffer = cond (eqb number 0) (overlay bytes buffer) buffer;
    }

-- a message of this form
abbrev pub write_as : Option Form → Header → List ℕ → List ℕ → Written
write_as found h string buffer = answered (write_number found h (length string) buffer) (length string) (written h string) buffer

-- 'the desk reader uses 3 to 6', and so does the gateway's: the first that fails
unfoldable pub read_number : Option Form → List ℕ → ℕ
read_number found m = first_failing (layout_tests (fixed_right m) found (header_of m) (length m))

-- the fields of any bytes that are a message of this form, or the number of the first test that fails
abbrev pub read_as : Option Form → List ℕ → Reading
read_as found m = reading (read_number found m) (header_of m)

-- a table gives the form that belongs to a CMD
abbrev pub Forms : Type 0
Forms = ℕ → Option Form

-- what writing these fields and this string does
unfoldable pub writes : Forms → Header → List ℕ → List ℕ → Written
writes forms h string buffer = write_as (forms h.cmd) h string buffer

-- an answer of the gateway goes to the start of the buffer, with no test
unfoldable pub sends : Header → List ℕ → List ℕ → Written
sends h string buffer = wrote (outcome 0 (header_bytes + length string)) (overlay (written h string) buffer)

-- the same where a string of this length stands after the tenth byte of the buffer already
unfoldable pub sends_head : Header → ℕ → List ℕ → Written
sends_head h carried buffer = wrote (outcome 0 (header_bytes + carried)) (overlay (header h) buffer)

-- what reading any bytes finds
unfoldable pub reads : Forms → List ℕ → Reading
reads forms m = read_as (forms (header_of m).cmd) m
