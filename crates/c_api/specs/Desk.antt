-- What the exported functions of the desk's end return and leave.
use Rattle.std.specs.Prelude.{Ok, Err, ◌≡◌, Bool, true, not, cond, ◌&&◌, ◌||◌, List, [], ◌∷◌, ℕ, ◌+◌, ℤ, length, eqb, ltb}
use Rattle.ops.specs.Table.{request_form, answer_form}
use Rattle.format.specs.declared.header.Header.{Header}
use Rattle.format.specs.Outcome.{Reading, Test, test, outcome, first_failing}
use Rattle.format.specs.Layout.{written, string_of}
use Rattle.format.specs.Refusal.{wrong_length, unknown, malformed}
use Rattle.format.specs.Sizes.{header_bytes, message_bytes}
use Rattle.message.specs.Exchange.{Written, wrote, answered, reads}
use Rattle.c_api.specs.Called.{signed}

-- a call returned this number, and left this in its output buffer
pub record Leaves (x : Written) (result : ℤ) (buffer : List ℕ) : Type 0 where
  pub result-is : result ≡ signed x.outcome
  pub buffer-is : buffer ≡ x.buffer

-- the fields of a message, as numbers of any size
abbrev pub fields : ℕ → ℕ → ℕ → ℕ → ℕ → Header
fields host cmd pid arg1 arg2 = record { host = host; cmd = cmd; pid = pid; arg1 = arg1; arg2 = arg2 }

-- 'One byte each: .. PID; then ARG1 and ARG2, two bytes each': these three have room for their numbers
unfoldable pub arguments_fit : Header → Bool
arguments_fit h = ltb h.pid 256 && ltb h.arg1 65536 && ltb h.arg2 65536

-- and so have HOST and CMD
unfoldable pub fields_fit : Header → Bool
fields_fit h = ltb h.host 256 && ltb h.cmd 256 && arguments_fit h

-- 'The desk writer uses 1 (output buffer under 266), 3, 4, 5, 6'; of numbers of any size, 4 refuses a HOST that is not one of 'hosts 1 to 255'
abbrev pub write_tests : ℕ → ℕ → ℕ → List ℕ → Bool → List Test
write_tests host cmd carried buffer misfit =
    test 1 (ltb (length buffer) message_bytes)
    ∷ test 3 (wrong_length (header_bytes + carried))
    ∷ test 4 (eqb host 0 || not (ltb host 256))
    ∷ test 5 (unknown (request_form cmd))
    ∷ test 6 misfit
    ∷ []

-- the number of the first that fails; 6 refuses a field that has no room for its number too
unfoldable pub write_number : Header → ℕ → List ℕ → ℕ
write_number h carried buffer =
    first_failing (write_tests h.host h.cmd carried buffer (not (arguments_fit h) || malformed (request_form h.cmd) h (header_bytes + carried)))

-- the same where some field has no room for its number
unfoldable pub misfit_number : ℕ → ℕ → ℕ → List ℕ → ℕ
misfit_number host cmd carried buffer = first_failing (write_tests host cmd carried buffer true)

-- what writing a request with these fields and this string does
unfoldable pub write_on : Header → List ℕ → List ℕ → Written
write_on h string buffer = answered (write_number h (length string) buffer) (length string) (written h string) buffer

-- the five fields, as they are handed over
abbrev pub handed : Header → List ℕ
handed h = h.host ∷ h.cmd ∷ h.pid ∷ h.arg1 ∷ h.arg2 ∷ []

-- of an answer that was read, the fields are handed over and the length of its string is returned; 'write nothing when they refuse'
unfoldable pub hand_over : Reading → ℕ → List ℕ → Written
hand_over (Ok h) carried buffer = wrote (Ok carried) (handed h)
hand_over (Err refusal) carried buffer = wrote (Err refusal) buffer

-- what reading any bytes as an answer does; a buffer of other than five words is a lent buffer of the wrong length, test 1
unfoldable pub read_on : List ℕ → List ℕ → Written
read_on m buffer = cond (eqb (length buffer) 5) (hand_over (reads answer_form m) (length (string_of m)) buffer) (wrote (outcome 1 0) buffer)
