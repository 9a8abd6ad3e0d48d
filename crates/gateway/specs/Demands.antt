-- The demands of document 01 on the calls of this crate, over lists of any length and on the bytes that the calls are given.
use Rattle.std.specs.Prelude.{◌≡◌, Bool, true, false, List, [], ◌∷◌, ◌⊎◌, ℕ, ◌<◌, length}
use Rattle.format.specs.Outcome.{number_of}
use Rattle.state.specs.Layout.{capacity}
use Rattle.state.specs.Fresh.{sizes_right}
use Rattle.rules.specs.Tests.{no_room, no_report_room, no_line_room, no_ack_room}
use Rattle.rules.specs.Step.{Call, request, report, text_line, packet, tick, query, local_of}
use Rattle.rules.specs.Turn.{buffers_of}
use Rattle.rules.specs.Ready.{Typed}
use Rattle.rules.specs.Run.{TraceItem, run, leave}
use Rattle.rules.specs.Total.{Total, one_of, numbers_of}
use Rattle.rules.specs.Rights.{Rights, MayChange}
use Rattle.rules.specs.Isolation.{Hosts, Processes, Alike, Apart, heard, theirs, public_of}
use Rattle.rules.specs.Outsider.{only, Differ, Never}
use Rattle.rules.specs.Together.{Away, AlikeRuns, without_theirs, calls_of, Isolation}
use Rattle.rules.specs.OneMemory.{OneMemory}
use Rattle.rules.specs.Ledger.{Ledger}
use Rattle.rules.specs.Loops.{Loops}
use Rattle.rules.specs.Owed.{OwedAnswers}
use Rattle.rules.specs.Watch.{Watching}
use Rattle.rules.specs.Status.{HowManySet}
use Rattle.rules.specs.Waiting.{Waiting}
use Rattle.rules.specs.WhyRight.{Shaped, told_number, told_facts, WhyRight}
use Rattle.state_bytes.specs.Widths.{state_width}
use Rattle.state_bytes.specs.State.{door_of}
use Rattle.gateway.specs.Called.{Called, Did, lent_on, refused_by, start_on}
use Rattle.gateway.specs.Sequence.{Begins, Made, read_from}

-- where lists begin
pub record Starts : Type 0 where
  -- after a fresh start with right sizes, with a memory of its length
  pub fresh : (there : List Bool) (sizes : List ℕ) (door : ℕ) (state memory : List ℕ) → length there ≡ 8 → sizes_right there sizes ≡ true
      → length state ≡ state_width → length memory ≡ capacity → Begins (start_on there sizes door state).state memory
  -- wherever the tests 1 and 2 pass, of a message, of a text line or of a packet
  pub passed : (state memory buffer : List ℕ) → lent_on state (no_room memory buffer) ≡ 0 → Begins state memory
  pub passed-line : (state memory buffer : List ℕ) → lent_on state (no_line_room memory buffer) ≡ 0 → Begins state memory
  pub passed-packet : (state memory buffer : List ℕ) → lent_on state (no_ack_room memory buffer) ≡ 0 → Begins state memory
  -- and after each call of a list
  pub after : (state memory : List ℕ) → Begins state memory → (c : Call) → Typed c → (x : Called) → Did state memory c x → Begins x.state x.memory

-- 'on one process set at start': the process of the Pup door
pub record DoorStays : Type 0 where
  -- a fresh start with right sizes sets it
  pub set : (there : List Bool) (sizes : List ℕ) (door : ℕ) (state : List ℕ) → length there ≡ 8 → sizes_right there sizes ≡ true
      → length state ≡ state_width → door_of (start_on there sizes door state).state ≡ door
  -- and no call changes it
  pub stays : (state memory : List ℕ) → Begins state memory → (c : Call) → Typed c → (x : Called) → Did state memory c x → door_of x.state ≡ door_of state

-- demand 1 of a call, on any bytes at all
pub record TotalOnBytes : Type 0 where
  -- 'Numbers returned': every number is one of the list
  pub listed : (state memory : List ℕ) (c : Call) (x : Called) → Did state memory c x → one_of (numbers_of c) (number_of x.outcome) ≡ true
  -- 'State and memory are unchanged by a refusal'
  pub refused : (state memory : List ℕ) (c : Call) (x : Called) → Did state memory c x → (number_of x.outcome ≡ 0 → ⊥)
      → (x.state ≡ state) × (x.memory ≡ memory)
  -- tests 1 and 2: 'nothing' is written where one fails, and no call does more
  pub unfit-request : (state memory m buffer : List ℕ) (x : Called) → Did state memory (request m buffer) x → (lent_on state (no_room memory buffer) ≡ 0 → ⊥)
      → x ≡ refused_by (lent_on state (no_room memory buffer)) state memory (buffers_of (request m buffer))
  pub unfit-report : (state memory : List ℕ) (p kind reason : ℕ) (words buffer line : List ℕ) (x : Called)
      → Did state memory (report p kind reason words buffer line) x → (lent_on state (no_report_room memory buffer line) ≡ 0 → ⊥)
      → x ≡ refused_by (lent_on state (no_report_room memory buffer line)) state memory (buffers_of (report p kind reason words buffer line))
  pub unfit-line : (state memory text buffer : List ℕ) (x : Called) → Did state memory (text_line text buffer) x
      → (lent_on state (no_line_room memory buffer) ≡ 0 → ⊥)
      → x ≡ refused_by (lent_on state (no_line_room memory buffer)) state memory (buffers_of (text_line text buffer))
  pub unfit-packet : (state memory : List ℕ) (door kind id : ℕ) (words buffer : List ℕ) (x : Called) → Did state memory (packet door kind id words buffer) x
      → (lent_on state (no_ack_room memory buffer) ≡ 0 → ⊥)
      → x ≡ refused_by (lent_on state (no_ack_room memory buffer)) state memory (buffers_of (packet door kind id words buffer))
  pub unfit-tick : (state memory : List ℕ) (door : ℕ) (x : Called) → Did state memory (tick door) x → (lent_on state false ≡ 0 → ⊥)
      → x ≡ refused_by 2 state memory (buffers_of (tick door))
  pub unfit-query : (state memory m : List ℕ) (x : Called) → Did state memory (query m) x → (lent_on state false ≡ 0 → ⊥)
      → x ≡ refused_by 2 state memory (buffers_of (query m))

-- a query names the very test that refuses the request, on any bytes at all, 'test 1 taken as passed'
unfoldable pub SameNumber : Type 0
SameNumber =
    (state memory m buffer : List ℕ) (x y : Called) → no_room memory buffer ≡ false → Did state memory (query m) x → Did state memory (request m buffer) y
    → number_of x.outcome ≡ number_of y.outcome

-- a query of bytes that are a state's says what the rules say of the records that they stand for, whatever the memory, and those have the sizes that
-- `WhyRight` asks for; other bytes fail test 2
unfoldable pub TellsRight : Type 0
TellsRight =
    (state memory m : List ℕ) (x : Called) → Did state memory (query m) x
    → (x ≡ refused_by 2 state memory (buffers_of (query m)))
    ⊎ (Shaped (read_from state memory)
    × ((number_of x.outcome ≡ told_number (read_from state memory) m) × (x.buffer ≡ told_facts (read_from state memory) m)))

-- what holds of lists of calls on bytes, however they are made: `made state memory calls trace` says that they were, and what came of it
pub record ListsOnBytes (made : List ℕ → List ℕ → List Call → List TraceItem → Type 0) : Type 0 where
  -- they are a run of the rules, so that whatever holds of runs holds of them
  pub runs : (state memory : List ℕ) → Begins state memory → (l : List Call) (es : List TraceItem) → made state memory l es
      → es ≡ run (read_from state memory) l
  -- a call changes no process but by the rights
  pub changes : (state memory : List ℕ) → Begins state memory → (c : Call) (e : TraceItem) → made state memory (c ∷ []) (e ∷ []) → (p : ℕ) → p < 8
      → (MayChange p (read_from state memory) c → ⊥) → local_of e.after p ≡ local_of (read_from state memory) p
  -- demand 3, part one: what these hosts are answered is the same in both gateways
  pub same-heard : (H : Hosts) (P : Processes) (state₁ memory₁ state₂ memory₂ : List ℕ) → Begins state₁ memory₁ → Begins state₂ memory₂
      → Apart P (read_from state₁ memory₁) (read_from state₂ memory₂)
      → (l₁ l₂ : List Call) (es₁ es₂ : List TraceItem) → made state₁ memory₁ l₁ es₁ → made state₂ memory₂ l₂ es₂
      → AlikeRuns H P es₁ es₂ → Away H P (read_from state₁ memory₁) es₁ → heard H es₁ ≡ heard H es₂
  -- part two: without some or all of their requests that name a hidden process, every other call answers and leaves the same
  pub left_out : (H : Hosts) (P : Processes) (state memory : List ℕ) → Begins state memory → (l : List Call) (es fewer : List TraceItem)
      → made state memory l es → Away H P (read_from state memory) es → (marks : List Bool)
      → made state memory (calls_of (without_theirs H P marks es)) fewer → fewer ≡ without_theirs H P marks es
  -- both parts for one host and one process, in document 01's words
  pub outsider-heard : (host p : ℕ) → p < 8 → (state₁ memory₁ state₂ memory₂ : List ℕ) → Begins state₁ memory₁ → Begins state₂ memory₂
      → Differ p (read_from state₁ memory₁) (read_from state₂ memory₂)
      → (l₁ l₂ : List Call) (es₁ es₂ : List TraceItem) → made state₁ memory₁ l₁ es₁ → made state₂ memory₂ l₂ es₂
      → Alike (only host) (only p) l₁ l₂ → Never host p (public_of (read_from state₁ memory₁)) es₁ → heard (only host) es₁ ≡ heard (only host) es₂
  pub outsider-left-out : (host p : ℕ) → p < 8 → (state memory : List ℕ) → Begins state memory → (l : List Call) (es fewer : List TraceItem)
      → made state memory l es → Never host p (public_of (read_from state memory)) es → (marks : List Bool)
      → made state memory (leave (theirs (only host) (only p)) marks l) fewer
      → fewer ≡ leave (λ (e : TraceItem). theirs (only host) (only p) e.call) marks es

-- the demands hold of the calls
pub record Demands : Type 0 where
  pub starts : Starts
  pub door-stays : DoorStays
  pub total-on-bytes : TotalOnBytes
  pub lists : ListsOnBytes Made
  -- the rules that the lists are runs of: demand 1
  pub total : Total
  -- no host debugs beside another, and none takes a process from another; a watcher may be beside him
  pub rights : Rights
  -- demand 3, for sets of hosts and processes, and for one host and one process
  pub isolation : Isolation
  -- what CREATE and DESTROY do to the one memory, and that nothing of a destroyed process is left
  pub one-memory : OneMemory
  -- free bytes and sizes always make the whole of it
  pub ledger : Ledger
  -- a breakpoint in a loop comes back
  pub loops : Loops
  -- a granted `c` or `s` is answered at most once, by the first report that stops or ends the process, unless it is cancelled
  pub owed-answers : OwedAnswers
  -- owner and installer together: whose breakpoint is whose, who is told, when a watch begins and ends
  pub watching : Watching
  -- the number in a record is that of its breakpoints after every call, and STATUS answers it
  pub how-many-set : HowManySet
  -- a process with a Go that waits runs at the hundredth tick and no sooner, or on the GoReply of the next ID
  pub waiting : Waiting
  -- 'Prove the test and each fact right': what a query says of a request, and to whom it says it
  pub same_number : SameNumber
  pub tells-right : TellsRight
  pub why-right : WhyRight
