-- A call on a state that is kept as bytes: what it answers, and state, memory and output buffer after it.
use Rattle.std.specs.Prelude.{◌≡◌, Bool, false, cond, List, [], ℕ, ◌+◌, ◌<◌, length, set, eqb}
use Rattle.format.specs.Outcome.{Outcome}
use Rattle.format.specs.Outcome.{outcome}
use Rattle.state.specs.Records.{start_of}
use Rattle.state.specs.Layout.{extent_at}
use Rattle.state.specs.Fresh.{fresh_start, sizes_right}
use Rattle.rules.specs.Tests.{lent, no_room, no_report_room, no_line_room, no_ack_room}
use Rattle.rules.specs.Window.{Buffers}
use Rattle.reasons.specs.declared.Reason.{Reason}
use Rattle.reasons.specs.declared.Reason.TheVariants.{Other}
use Rattle.reasons.specs.Reason.{reason_number, facts_of}
use Rattle.rules.specs.Why.{why_of}
use Rattle.rules.specs.Step.{StepResult, Call, request, report, store, text_line, packet, tick, query, step}
use Rattle.rules.specs.Turn.{buffers_of}
use Rattle.rules.specs.Isolation.{is_granted}
use Rattle.state_bytes.specs.Widths.{state_width}
use Rattle.state_bytes.specs.State.{state_bytes, state_of, door_of, state_formed, state_sound}

-- what a call answered, and the bytes that it left in state, memory and output buffers; of a report also the length of its line
pub record Called : Type 0 where
  pub outcome : Outcome
  pub state : List ℕ
  pub memory : List ℕ
  pub buffer : List ℕ
  pub line_length : ℕ
  pub line : List ℕ

-- of a call that has no line buffer
abbrev pub called : Outcome → List ℕ → List ℕ → List ℕ → Called
called o state memory buffer = record { outcome = o; state = state; memory = memory; buffer = buffer; line_length = 0; line = [] }

-- of a report
abbrev pub report_called : Outcome → ℕ → List ℕ → List ℕ → List ℕ → List ℕ → Called
report_called o n state memory buffer line = record { outcome = o; state = state; memory = memory; buffer = buffer; line_length = n; line = line }

-- refused with this number, and nothing is written
abbrev pub refused_by : ℕ → List ℕ → List ℕ → Buffers → Called
refused_by number state memory b = report_called (outcome number 0) 0 state memory b.own b.line

-- a step of the rules, on the record that the bytes are the form of; a refused one leaves the bytes, and every one the process of the Pup door
unfoldable pub finished : List ℕ → StepResult → Called
finished state x =
    report_called x.answer.outcome x.answer.line_length (cond (is_granted x.answer.outcome) (state_bytes (door_of state) x.after.records) state)
    x.after.memory x.answer.buffer x.answer.line

-- the test 1 of a call: what it is lent has a wrong length; a store is lent nothing, a tick only the state, and a query the state and its message
unfoldable pub badly_lent : List ℕ → Call → Bool
badly_lent memory (request m buffer) = no_room memory buffer
badly_lent memory (report p kind reason words buffer line) = no_report_room memory buffer line
badly_lent memory (store p a v) = false
badly_lent memory (text_line text buffer) = no_line_room memory buffer
badly_lent memory (packet door kind id words buffer) = no_ack_room memory buffer
badly_lent memory (tick door) = false
badly_lent memory (query m) = false

-- the tests 1 and 2, which every call makes first; a tick and a query make 2 alone
unfoldable pub lent_on : List ℕ → Bool → ℕ
lent_on state short = cond short 1 (cond (state_sound state) 0 2)

-- a call: the step of the rules on the record that the bytes are the form of; where they are no state's, it is refused by the tests 1 and 2
unfoldable pub call_on : List ℕ → List ℕ → Call → Called
call_on state memory c =
    cond (state_formed state) (finished state (step (lent (state_of state) memory) c))
    (refused_by (lent_on state (badly_lent memory c)) state memory (buffers_of c))

-- what the machine leaves when it stores a byte at an address of process p, whose bytes begin where the state says: it changes memory alone
-- and is told nothing
unfoldable pub machine_stored : ℕ → ℕ → ℕ → List ℕ → List ℕ → Called
machine_stored p a v state memory = called (outcome 0 0) state (set memory (start_of (state_of state) p + a) v) []

-- 'Why was I refused?' (K8): what a gateway tool is told from the bytes of a state and of a message; bytes that are no state's fail test 2
unfoldable pub why_on : List ℕ → List ℕ → Reason
why_on state m = cond (state_formed state) (why_of (lent (state_of state) []) m) (Other 2)

-- a query answers the number and the facts, and leaves all as it is
abbrev pub why_called : Reason → List ℕ → List ℕ → Called
why_called r state memory = called (outcome (reason_number r) 0) state memory (facts_of r)

-- a call of the code on these bytes of a state and this memory answered and left this; or the machine stored a byte, 'only within a process's
-- own bytes'. Packets and ticks go to the 'one process set at start', which the bytes tell
unfoldable pub Did : List ℕ → List ℕ → Call → Called → Type 0
Did state memory (request m buffer) x = x ≡ call_on state memory (request m buffer)
Did state memory (report p kind reason words buffer line) x = x ≡ call_on state memory (report p kind reason words buffer line)
Did state memory (store p a v) x = (a < extent_at (state_of state) p) × (x ≡ machine_stored p a v state memory)
Did state memory (text_line text buffer) x = x ≡ call_on state memory (text_line text buffer)
Did state memory (packet door kind id words buffer) x = (door ≡ door_of state) × (x ≡ call_on state memory (packet door kind id words buffer))
Did state memory (tick door) x = (door ≡ door_of state) × (x ≡ call_on state memory (tick door))
Did state memory (query m) x = x ≡ why_called (why_on state m) state memory

-- what a fresh start answers, and the bytes of the state after it
pub record StartResult : Type 0 where
  pub outcome : Outcome
  pub state : List ℕ

-- the two together
abbrev pub started : Outcome → List ℕ → StartResult
started o state = record { outcome = o; state = state }

-- a fresh start with these processes and sizes and this process of the Pup door: refused with 1 where the state's buffer has not its length, and
-- with 2 for a bad size 'of a process then there', and for 'more than' the memory holds
unfoldable pub start_on : List Bool → List ℕ → ℕ → List ℕ → StartResult
start_on there sizes door state =
    cond (eqb (length state) state_width)
    (cond (sizes_right there sizes) (started (outcome 0 0) (state_bytes door (fresh_start there sizes))) (started (outcome 2 0) state))
    (started (outcome 1 0) state)
