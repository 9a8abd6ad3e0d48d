-- 'Breakpoints in loops' come back, in the words of a user: a breakpoint with a remaining count is passed that many times without a notice,
-- and from then on it stops the process every time. Words in quotation marks are the change request's (K3).
use Rattle.std.specs.Prelude.{◌≡◌, true, List, [], ◌∷◌, ◌++◌, ℕ, zero, suc, ◌≤◌, ◌<◌, length, get_or}
use Rattle.lists.specs.Buffer.{overlay}
use Rattle.lists.specs.Word.{low_first}
use Rattle.ops.specs.Codes.{PROCEED}
use Rattle.format.specs.Sizes.{message_bytes}
use Rattle.format.specs.Outcome.{outcome}
use Rattle.format.specs.Layout.{written}
use Rattle.format.specs.Answer.{notice_of}
use Rattle.run_state.specs.declared.Run.{Run}
use Rattle.run_state.specs.declared.Run.TheVariants.{Running}
use Rattle.run_state.specs.ReportKind.{BPT, TTRAP}
use Rattle.breakpoints.specs.declared.entry_query.EntryQuery.TheVariants.{At}
use Rattle.breakpoints.specs.Seen.{is_planted}
use Rattle.process.specs.declared.record.Process.{Process}
use Rattle.process.specs.Sizes.{entry_count, vector_words}
use Rattle.process.specs.Record.{entry}
use Rattle.process.specs.Find.{find}
use Rattle.process.specs.Request.{has_break}
use Rattle.rules.specs.Tests.{State, record_of}
use Rattle.rules.specs.Step.{Call, request, report, store, text_line, packet, tick, query, step, plain_answer}
use Rattle.rules.specs.Access.{alone, grants}
use Rattle.rules.specs.Turn.{buffers_of}
use Rattle.fields.specs.Written.{line_bytes}
use Rattle.rules.specs.Ready.{Ready}
use Rattle.rules.specs.Run.{TraceItem, trace_item}
use Rattle.breakpoints.specs.Entry.{in_use}

-- ---- the loop

-- what happens at a breakpoint in a loop
pub data Event : Type 0 where
  -- a BPT report there, with a count above 0
  passes : Event
  -- the TTRAP report after 'one instruction'
  goes_on : Event
  -- a BPT report there, with a count of 0
  stops : Event
  -- its host's PROCEED BPT
  proceeds : Event

-- 'BPT, TTRAP, BPT, TTRAP, BPT' at a count of 2, and so at any count
unfoldable pub until_notice : ℕ → List Event
until_notice zero = stops ∷ []
until_notice (suc n) = passes ∷ goes_on ∷ until_notice n

-- and then PROCEED BPT, TTRAP, BPT, any number of times
unfoldable pub after_notice : ℕ → List Event
after_notice zero = []
after_notice (suc m) = proceeds ∷ goes_on ∷ stops ∷ after_notice m

-- ---- their calls

-- the words of a report
unfoldable pub words_of : Call → List ℕ
words_of (request m buffer) = []
words_of (report p kind reason words buffer line) = words
words_of (store p a v) = []
words_of (text_line text buffer) = []
words_of (packet door kind id words buffer) = []
words_of (tick door) = []
words_of (query m) = []

-- a report of this kind about process p, with nine words and room for a notice and a line
pub record ReportOf (p kind : ℕ) (c : Call) : Type 0 where
  pub is : c ≡ report p kind 0 (words_of c) (buffers_of c).own (buffers_of c).line
  pub nine : length (words_of c) ≡ vector_words
  pub room : message_bytes ≤ length (buffers_of c).own
  pub line-room : line_bytes ≤ length (buffers_of c).line

-- a BPT report about process p at address a, the eighth of its words
pub record BptAt (p a : ℕ) (c : Call) : Type 0 where
  pub report : ReportOf p BPT c
  pub at : get_or (words_of c) 7 0 ≡ a

-- the ten bytes of a host's PROCEED BPT of process p
abbrev pub proceed_message : ℕ → ℕ → List ℕ
proceed_message host p = written (record { host = host; cmd = PROCEED; pid = p; arg1 = 0; arg2 = 0 }) []

-- that request, with room for the reply
pub record ProceedOf (host p : ℕ) (c : Call) : Type 0 where
  pub is : c ≡ request (proceed_message host p) (buffers_of c).own
  pub room : message_bytes ≤ length (buffers_of c).own

-- the call of each event, at address a of process p, which this host debugs
abbrev pub CallOf : ℕ → ℕ → ℕ → Event → TraceItem → Type 0
CallOf host p a passes e = BptAt p a e.call
CallOf host p a goes_on e = ReportOf p TTRAP e.call
CallOf host p a stops e = BptAt p a e.call
CallOf host p a proceeds e = ProceedOf host p e.call

-- ---- their answers

-- nothing is sent: granted with length 0 and no line, and the buffers are as they were
abbrev pub NothingSent : TraceItem → Type 0
NothingSent e = e.answer ≡ grants (alone []) (buffers_of e.call)

-- the notice goes to this host: 28 bytes, laid over the buffer; whether a line goes out beside it stands in `Owed`
abbrev pub NoticeSent : ℕ → ℕ → TraceItem → Type 0
NoticeSent host p e =
    (e.answer.outcome ≡ outcome 0 28)
    × (e.answer.buffer ≡ overlay (written (notice_of host BPT p 0) (low_first (words_of e.call))) (buffers_of e.call).own)

-- PROCEED BPT is granted: its ten bytes come back
abbrev pub ProceedGranted : ℕ → ℕ → TraceItem → Type 0
ProceedGranted host p e = e.answer ≡ plain_answer (outcome 0 10) (overlay (proceed_message host p) (buffers_of e.call).own)

-- the answer to each event: the notice goes to the host that set the breakpoint
abbrev pub AnswerOf : ℕ → ℕ → ℕ → Event → TraceItem → Type 0
AnswerOf host setter p passes e = NothingSent e
AnswerOf host setter p goes_on e = NothingSent e
AnswerOf host setter p stops e = NoticeSent setter p e
AnswerOf host setter p proceeds e = ProceedGranted host p e

-- ---- lists

-- so it is of each event, one after another, as far as the list goes
unfoldable pub Each : (Event → TraceItem → Type 0) → List Event → List TraceItem → Type 0
Each R vs [] = Unit {0}
Each R [] (e ∷ es) = ⊥
Each R (v ∷ vs) (e ∷ es) = R v e × Each R vs es

-- these stand among the calls of a list; each of the others leaves the record of process p as it is, whatever it does to memory
pub data Among (p : ℕ) : State → List Call → List TraceItem → Type 0 where
  none : {s : State} → Among p s [] []
  other : {s : State} {c : Call} {l : List Call} {es : List TraceItem} → record_of (step s c).after p ≡ record_of s p
      → Among p (step s c).after l es → Among p s (c ∷ l) es
  event : {s : State} {c : Call} {l : List Call} {es : List TraceItem} → Among p (step s c).after l es → Among p s (c ∷ l) (trace_item s c ∷ es)

-- ---- the theorem

-- a process that this host debugs, in this run state, with a breakpoint at address a that this setter set and that has this remaining count
pub record BreakAt (host setter a count : ℕ) (run : Run) (p : Process) : Type 0 where
  pub hosted : p.host ≡ host
  pub runs : p.run ≡ run
  pub found : has_break a p ≡ true
  pub left : (entry p (find (At a) p)).count ≡ count
  pub set-by : (entry p (find (At a) p)).setter ≡ setter

-- what a user may rely on
pub record Loops : Type 0 where
  -- while a process of a sound state runs, every breakpoint of it is planted
  pub planted : (s : State) → Ready s → (p : ℕ) → p < 8 → (record_of s p).run ≡ Running → (k : ℕ) → k < entry_count
      → in_use (entry (record_of s p) k) ≡ true → is_planted (entry (record_of s p) k) ≡ true
  -- P10 at any count n: the breakpoint is passed n times and nothing is sent; then it sends the notice, and again after each PROCEED BPT
  pub comes_back : (s : State) → Ready s → (p : ℕ) → p < 8 → (host setter a n m : ℕ) → BreakAt host setter a n Running (record_of s p)
      → (l : List Call) (es : List TraceItem) → Among p s l es
      → Each (CallOf host p a) (until_notice n ++ after_notice m) es → Each (AnswerOf host setter p) (until_notice n ++ after_notice m) es
