-- Calls of the library, one after another on the bytes of a state, as the contracts of the exported functions promise them.
use Rattle.std.specs.Prelude.{◌≡◌, List, [], ◌∷◌, ◌++◌, map, ℕ, suc, ◌<◌, ◌/◌, ◌%◌, ℤ, pos, negsuc, length, take}
use Rattle.lists.specs.Word.{vector_of}
use Rattle.format.specs.Outcome.{Outcome}
use Rattle.format.specs.Outcome.{outcome, number_of}
use Rattle.reasons.specs.Reason.{fact_count}
use Rattle.state.specs.Layout.{capacity, extent_at}
use Rattle.rules.specs.Step.{Answer, plain_answer, Call, request, report, store, text_line, packet, tick, query}
use Rattle.rules.specs.Run.{TraceItem}
use Rattle.state_bytes.specs.State.{state_of, door_of}
use Rattle.gateway.specs.Called.{call_on, machine_stored}
use Rattle.gateway.specs.Sequence.{Begins, read_from}
use Rattle.gateway.specs.Demands.{ListsOnBytes}
use Rattle.c_api.specs.Called.{Returns, Reports, Starts, kind_of, report_on, type_of, packet_on, why_with, start_with}

-- a call of the library, or a store by the machine between two; a packet and a tick carry the process of the door, which the state tells
pub data LibraryCall : Type 0 where
  requested : (message reply : List ℕ) → LibraryCall
  reported : (process kind reason : ℕ) (words notice line : List ℕ) → LibraryCall
  stored : (process address value : ℕ) → LibraryCall
  line_sent : (text line : List ℕ) → LibraryCall
  packet_sent : (door kind id : ℕ) (words ack : List ℕ) → LibraryCall
  ticked : (door : ℕ) → LibraryCall
  queried : (message facts : List ℕ) → LibraryCall

-- what it returned, and the bytes that it left; a report also in its line buffer
pub record Returned : Type 0 where
  pub result : ℤ
  pub state : List ℕ
  pub memory : List ℕ
  pub buffer : List ℕ
  pub line : List ℕ

-- by its contract, or by what the machine does: it 'stores only within a process's own bytes'
unfoldable pub DidReturn : List ℕ → List ℕ → LibraryCall → Returned → Type 0
DidReturn state memory (requested m reply) y = Returns (call_on state memory (request m reply)) y.result y.state y.memory y.buffer
DidReturn state memory (reported p kind reason words notice line) y =
    Reports (report_on state memory p kind reason words notice line) y.result y.state y.memory y.buffer y.line
DidReturn state memory (stored p a v) y =
    (a < extent_at (state_of state) p) × Returns (machine_stored p a v state memory) y.result y.state y.memory y.buffer
DidReturn state memory (line_sent text line) y = Returns (call_on state memory (text_line text line)) y.result y.state y.memory y.buffer
DidReturn state memory (packet_sent door kind id words ack) y =
    (door ≡ door_of state) × Returns (packet_on state memory kind id words ack) y.result y.state y.memory y.buffer
DidReturn state memory (ticked door) y = (door ≡ door_of state) × Returns (call_on state memory (tick door)) y.result y.state y.memory y.buffer
DidReturn state memory (queried m facts) y = Returns (why_with state memory m facts) y.result y.state y.memory y.buffer

-- each on the bytes that the one before it left
unfoldable pub DoneByLibrary : List ℕ → List ℕ → List LibraryCall → List Returned → Type 0
DoneByLibrary state memory [] [] = Unit {0}
DoneByLibrary state memory [] (y ∷ ys) = ⊥
DoneByLibrary state memory (c ∷ cs) [] = ⊥
DoneByLibrary state memory (c ∷ cs) (y ∷ ys) = DidReturn state memory c y × DoneByLibrary y.state y.memory cs ys

-- ---- as a run of the rules

-- the call of the rules
unfoldable pub call_of : LibraryCall → Call
call_of (requested m reply) = request m reply
call_of (reported p kind reason words notice line) = report p (kind_of kind reason) reason (vector_of words) notice line
call_of (stored p a v) = store p a v
call_of (line_sent text line) = text_line text line
call_of (packet_sent door kind id words ack) = packet door (type_of kind id) (id % 4294967296) words ack
call_of (ticked door) = tick door
call_of (queried m facts) = query m

-- the nine words of a report are 18 bytes, and the facts of a query two; with others it is refused with 1, and no call of the rules
unfoldable pub Whole : LibraryCall → Type 0
Whole (requested m reply) = Unit {0}
Whole (reported p kind reason words notice line) = length words ≡ 18
Whole (stored p a v) = Unit {0}
Whole (line_sent text line) = Unit {0}
Whole (packet_sent door kind id words ack) = Unit {0}
Whole (ticked door) = Unit {0}
Whole (queried m facts) = length facts ≡ 2

-- each of a list
unfoldable pub AllWhole : List LibraryCall → Type 0
AllWhole [] = Unit {0}
AllWhole (c ∷ cs) = Whole c × AllWhole cs

-- the outcome that a returned number tells: the length granted, or minus the number of the refusal
unfoldable pub outcome_of : ℤ → Outcome
outcome_of (pos n) = outcome 0 n
outcome_of (negsuc n) = outcome (suc n) 0

-- the outcome that the number of a report tells: under 256 is the length of the notice
unfoldable pub notice_told : ℤ → Outcome
notice_told (pos n) = outcome 0 (n % 256)
notice_told (negsuc n) = outcome (suc n) 0

-- and the length of its line
unfoldable pub line_told : ℤ → ℕ
line_told (pos n) = n / 256
line_told (negsuc n) = 0

-- the answer of a call but a report
abbrev pub plain_told : Returned → Answer
plain_told y = plain_answer (outcome_of y.result) y.buffer

-- the answer of a query: as many of the two as go with the number
abbrev pub query_told : Returned → Answer
query_told y = plain_answer (outcome_of y.result) (take (fact_count (number_of (outcome_of y.result))) y.buffer)

-- the answer that the returned number and the buffers tell
unfoldable pub answer_told : LibraryCall → Returned → Answer
answer_told (requested m reply) y = plain_told y
answer_told (reported p kind reason words notice line) y =
    record { outcome = notice_told y.result; buffer = y.buffer; line_length = line_told y.result; line = y.line }
answer_told (stored p a v) y = plain_told y
answer_told (line_sent text line) y = plain_told y
answer_told (packet_sent door kind id words ack) y = plain_told y
answer_told (ticked door) y = plain_told y
answer_told (queried m facts) y = query_told y

-- a call with what it returned, and the state that the bytes after it stand for
abbrev pub returned_item : LibraryCall → Returned → TraceItem
returned_item c y = record { call = call_of c; answer = answer_told c y; after = read_from y.state y.memory }

-- the same of a list
unfoldable pub returned_items : List LibraryCall → List Returned → List TraceItem
returned_items [] ys = []
returned_items (c ∷ cs) [] = []
returned_items (c ∷ cs) (y ∷ ys) = returned_item c y ∷ returned_items cs ys

-- a list of calls of the rules was made by the library on these bytes, and this came of it
pub record MadeByLibrary (state memory : List ℕ) (l : List Call) (es : List TraceItem) : Type 0 where
  pub calls : List LibraryCall
  pub whole : AllWhole calls
  pub are : l ≡ map call_of calls
  pub returned : List Returned
  pub done : DoneByLibrary state memory calls returned
  pub trace : es ≡ returned_items calls returned

-- ---- the theorem

-- calls of the library in a row are a run of the rules, from a fresh start of its own that returned 0, and the demands hold of them
pub record LibraryDemands : Type 0 where
  pub fresh : (there door : ℕ) (sizes before state memory : List ℕ) (r : ℤ) → Starts (start_with there sizes door before) r state → r ≡ pos 0
      → length memory ≡ capacity → Begins state memory
  pub lists : ListsOnBytes MadeByLibrary
  -- beside the facts that go with its number, a query hands over nothing but zeros
  pub only-facts : (state memory m facts : List ℕ) (y : Returned) → length facts ≡ 2 → DidReturn state memory (queried m facts) y
      → y.buffer ≡ take 2 ((query_told y).buffer ++ (0 ∷ 0 ∷ []))
