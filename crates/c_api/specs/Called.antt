-- What the exported functions return and leave.
use Rattle.std.specs.Prelude.{Ok, Err, ◌≡◌, Bool, not, cond, List, [], ◌∷◌, ℕ, ◌+◌, ◌*◌, ◌<◌, ◌/◌, ◌%◌, ℤ, pos, ◌-ℤ◌, length, eqb, ltb}
use Rattle.lists.specs.Word.{vector_of}
use Rattle.format.specs.Outcome.{Outcome}
use Rattle.format.specs.Outcome.{outcome, number_of, length_of, is_granted, test, first_failing}
use Rattle.state.specs.Fresh.{fresh_start, sizes_right}
use Rattle.rules.specs.Step.{report, packet}
use Rattle.state_bytes.specs.Widths.{process_count, state_width}
use Rattle.state_bytes.specs.State.{state_bytes, door_of}
use Rattle.reasons.specs.Reason.{reason_number, two_facts}
use Rattle.rules.specs.Turn.{single}
use Rattle.gateway.specs.Called.{Called, StartResult, called, refused_by, call_on, why_on, started}

-- minus this number
abbrev pub minus : ℕ → ℤ
minus n = pos 0 -ℤ pos n

-- the length granted, 0 or more, or minus the number of the refusal
unfoldable pub signed : Outcome → ℤ
signed o = cond (is_granted o) (pos (length_of o)) (minus (number_of o))

-- a length that a signed number of 64 bits holds
abbrev pub Short : Outcome → Type 0
Short o = length_of o < 9223372036854775808

-- a call returned this number, and left these bytes in state, memory and output buffer
pub record Returns (x : Called) (result : ℤ) (state memory buffer : List ℕ) : Type 0 where
  pub result-is : result ≡ signed x.outcome
  pub state-is : state ≡ x.state
  pub memory-is : memory ≡ x.memory
  pub buffer-is : buffer ≡ x.buffer

-- of a report 'both lengths told', as one: that of the notice and 256 times that of the line
unfoldable pub both_lengths : Outcome → ℕ → Outcome
both_lengths (Ok n) line = Ok (n + 256 * line)
both_lengths (Err refusal) line = Err refusal

-- a report returned this number, and left these bytes in state, memory and its two buffers
pub record Reports (x : Called) (result : ℤ) (state memory notice line : List ℕ) : Type 0 where
  pub result-is : result ≡ signed (both_lengths x.outcome x.line_length)
  pub state-is : state ≡ x.state
  pub memory-is : memory ≡ x.memory
  pub notice-is : notice ≡ x.buffer
  pub line-is : line ≡ x.line

-- a number as a byte; 255 stands for every number that a byte has no room for
unfoldable pub byte_of : ℕ → ℕ
byte_of n = cond (ltb n 256) n 255

-- 'reason in ARG1', which has two bytes: a report with a reason over 65,535 is of no kind, and so test 14 refuses it
unfoldable pub kind_of : ℕ → ℕ → ℕ
kind_of kind reason = cond (ltb reason 65536) kind 4

-- a report of numbers of any size; its nine words are 18 bytes, low byte first, and words of another length a lent buffer of the wrong length, test 1
unfoldable pub report_on : List ℕ → List ℕ → ℕ → ℕ → ℕ → List ℕ → List ℕ → List ℕ → Called
report_on state memory pid kind reason words notice line =
    cond (eqb (length words) 18) (call_on state memory (report pid (kind_of kind reason) reason (vector_of words) notice line))
    (refused_by 1 state memory (record { own = notice; line = line }))

-- 'a 32-bit ID': a packet with a greater one is of no type, and so test 5 refuses it
unfoldable pub type_of : ℕ → ℕ → ℕ
type_of kind id = cond (ltb id 4294967296) (byte_of kind) 255

-- a packet of numbers of any size, to the process of the door
unfoldable pub packet_on : List ℕ → List ℕ → ℕ → ℕ → List ℕ → List ℕ → Called
packet_on state memory kind id words ack = call_on state memory (packet (door_of state) (type_of kind id) (id % 4294967296) words ack)

-- a query hands over minus the number, and the facts in two numbers; a buffer for other than two is one of the wrong length, test 1
unfoldable pub why_with : List ℕ → List ℕ → List ℕ → List ℕ → Called
why_with state memory m facts =
    cond (eqb (length facts) 2) (called (outcome (reason_number (why_on state m)) 0) state memory (two_facts (why_on state m)))
    (refused_by 1 state memory (single facts))

-- process p is there where bit p is set
unfoldable pub bits_of : ℕ → List Bool
bits_of n =
    eqb (n % 2) 1
    ∷ eqb (n / 2 % 2) 1
    ∷ eqb (n / 4 % 2) 1
    ∷ eqb (n / 8 % 2) 1
    ∷ eqb (n / 16 % 2) 1
    ∷ eqb (n / 32 % 2) 1
    ∷ eqb (n / 64 % 2) 1
    ∷ eqb (n / 128 % 2) 1
    ∷ []

-- 1 refuses sizes that are not eight and a state's buffer of the wrong length; 2 'a bad size (at fresh start too, of a process then there)' and
-- 'also more than that at fresh start', which is the memory's 16,384 bytes; and 7 a process over 7, which a bit above the eighth is
unfoldable pub start_number : ℕ → List ℕ → List ℕ → ℕ
start_number there sizes state =
    first_failing
    (test 1 (not (eqb (length sizes) process_count))
    ∷ test 1 (not (eqb (length state) state_width))
    ∷ test 2 (not (sizes_right (bits_of there) sizes))
    ∷ test 7 (not (ltb there 256))
    ∷ [])

-- a fresh start with the processes whose bits are set, each with its size, and this process of the Pup door; a refused one leaves the bytes
unfoldable pub start_with : ℕ → List ℕ → ℕ → List ℕ → StartResult
start_with there sizes door state =
    started (outcome (start_number there sizes state) 0)
    (cond (eqb (start_number there sizes state) 0) (state_bytes (byte_of door) (fresh_start (bits_of there) sizes)) state)

-- a fresh start returned this number, and left these bytes of the state
pub record Starts (x : StartResult) (result : ℤ) (state : List ℕ) : Type 0 where
  pub result-is : result ≡ signed x.outcome
  pub state-is : state ≡ x.state
