-- A case: a fresh start, calls, and what each call answers and leaves in its buffer, in memory and in the records.
use Rattle.std.specs.Prelude.{Bool, cond, List, [], ◌∷◌, map, ℕ, length, get_or, replicate}
use Rattle.lists.specs.Buffer.{overlay}
use Rattle.format.specs.Outcome.{Outcome}
use Rattle.format.specs.Outcome.{outcome}
use Rattle.format.specs.Layout.{written}
use Rattle.breakpoints.specs.declared.entry.Breakpoint.{Breakpoint}
use Rattle.run_state.specs.RunState.{run_number}
use Rattle.session.specs.Session.{owed_number}
use Rattle.process.specs.declared.record.Process.{Process}
use Rattle.process.specs.Record.{entry}
use Rattle.state.specs.Records.{Records, process_at, start_of}
use Rattle.state.specs.Fresh.{fresh_start}
use Rattle.rules.specs.Step.{Call, request, text_line}
use Rattle.rules.specs.Run.{TraceItem, run}
use Rattle.format.specs.Sizes.{message_bytes}
use Rattle.fields.specs.Written.{line_bytes}

-- what is seen of a call: its outcome, its whole buffers after it, and what is looked at in memory and in the records after it
pub record Seen : Type 0 where
  pub outcome : Outcome
  pub buffer : List ℕ
  pub line_length : ℕ
  pub line : List ℕ
  pub memory : List ℕ
  pub records : List ℕ

-- a case: how it starts, its calls, and what is to be seen of each
pub record Case : Type 0 where
  -- which processes are there at the start, their sizes, and the lent memory
  pub there : List Bool
  pub sizes : List ℕ
  pub lent : List ℕ
  pub calls : List Call
  -- the places of the lent memory that are looked at after each call
  pub places : List ℕ
  -- what is looked at in the records after each call
  pub looks : Records → List ℕ
  pub seen : List Seen

-- what is seen of a call that was made
abbrev pub seen_of : List ℕ → (Records → List ℕ) → TraceItem → Seen
seen_of places looks e = record {
  outcome = e.answer.outcome;
  buffer = e.answer.buffer;
  line_length = e.answer.line_length;
  line = e.answer.line;
  memory = map (λ (a : ℕ). get_or e.after.memory a 0) places;
  records = looks e.after.records;
}

-- what is seen when the calls of a case are run
abbrev pub outcomes : Case → List Seen
outcomes c = map (seen_of c.places c.looks) (run (record { records = fresh_start c.there c.sizes; memory = c.lent }) c.calls)

-- ---- what to look at in the records

-- nothing
abbrev pub nothing : Records → List ℕ
nothing g = []

-- of each process, the host that debugs it
abbrev pub debuggers : Records → List ℕ
debuggers g = map (λ (p : Process). p.host) g.processes

-- the vector of process 2
abbrev pub vector : Records → List ℕ
vector g = (process_at g 2).vector

-- the remaining count of each entry of process 2
abbrev pub counts : Records → List ℕ
counts g = map (λ (b : Breakpoint). b.count) (process_at g 2).breaks

-- the saved word in the first entry of process 2
abbrev pub saved : Records → List ℕ
saved g = (entry (process_at g 2) 0).low ∷ (entry (process_at g 2) 0).high ∷ []

-- where the bytes of each process begin
abbrev pub begins : Records → List ℕ
begins g = g.starts

-- where those of the processes 0 and 2 begin, and the saved word in the first entry of process 2
abbrev pub moves : Records → List ℕ
moves g = start_of g 0 ∷ start_of g 2 ∷ saved g

-- the run state of process 2, the count of its first entry and whether that is lifted, and its vector
abbrev pub progress : Records → List ℕ
progress g =
    run_number (process_at g 2).run ∷ (entry (process_at g 2) 0).count ∷ cond (entry (process_at g 2) 0).lifted 1 0 ∷ (process_at g 2).vector

-- of process 2, the host that debugs it, its watcher and who set the first entry
abbrev pub parties : Records → List ℕ
parties g = (process_at g 2).host ∷ (process_at g 2).session.watcher ∷ (entry (process_at g 2) 0).setter ∷ []

-- the run state of process 2, and the number of the answer that it owes
abbrev pub owing : Records → List ℕ
owing g = run_number (process_at g 2).run ∷ owed_number (process_at g 2).session.owed ∷ []

-- ---- calls

-- every buffer is lent with these bytes in it
abbrev pub buffer : List ℕ
buffer = replicate message_bytes 170

-- and every line buffer with these
abbrev pub line_buffer : List ℕ
line_buffer = replicate line_bytes 170

-- a request with this message
abbrev pub sent : List ℕ → Call
sent m = request m buffer

-- a request by its fields
abbrev pub asked : ℕ → ℕ → ℕ → ℕ → ℕ → List ℕ → Call
asked host cmd pid arg1 arg2 string = sent (written (record { host = host; cmd = cmd; pid = pid; arg1 = arg1; arg2 = arg2 }) string)

-- a text line
abbrev pub typed : List ℕ → Call
typed text = text_line text line_buffer

-- what is to be seen: granted or refused with this number, these bytes laid over the buffer, and what is looked at
abbrev pub answer : ℕ → List ℕ → List ℕ → List ℕ → Seen
answer number bytes memory records = record {
  outcome = outcome number (length bytes);
  buffer = overlay bytes buffer;
  line_length = 0;
  line = [];
  memory = memory;
  records = records;
}

-- the same of a text line, with the line that answers it
abbrev pub answer_line : ℕ → List ℕ → List ℕ → List ℕ → Seen
answer_line number text memory records = record {
  outcome = outcome number (length text);
  buffer = overlay text line_buffer;
  line_length = 0;
  line = [];
  memory = memory;
  records = records;
}

-- the same of a report that is granted, with this line beside its notice
abbrev pub noticed_beside : List ℕ → List ℕ → List ℕ → List ℕ → Seen
noticed_beside text bytes memory records = record {
  outcome = outcome 0 (length bytes);
  buffer = overlay bytes buffer;
  line_length = length text;
  line = overlay text line_buffer;
  memory = memory;
  records = records;
}

-- the same of a report that is granted, and answers no line
abbrev pub noticed : List ℕ → List ℕ → List ℕ → Seen
noticed bytes memory records = noticed_beside [] bytes memory records

-- the same of a report whose buffers are untouched
abbrev pub silent : List ℕ → List ℕ → Seen
silent memory records = noticed [] memory records

-- the same of a store, which has no buffer
abbrev pub stored : List ℕ → List ℕ → Seen
stored memory records = record { outcome = outcome 0 0; buffer = []; line_length = 0; line = []; memory = memory; records = records }
