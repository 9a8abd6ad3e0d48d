-- Owed answers, in the words of a user: a granted `c` or `s` is answered at most once, by the first report that stops or ends the process, unless
-- it is cancelled before. Words in quotation marks are the change request's (K7).
use Rattle.std.specs.Prelude.{◌≡◌, Bool, true, false, ◌||◌, List, [], ◌∷◌, ℕ, ◌<◌, length, eqb}
use Rattle.lists.specs.Buffer.{overlay}
use Rattle.ops.specs.Codes.{STOP, END-DEBUG, DESTROY}
use Rattle.run_state.specs.RunState.{moving}
use Rattle.session.specs.declared.Owed.{Owed}
use Rattle.session.specs.declared.Owed.TheVariants.{Nothing}
use Rattle.session.specs.Session.{owes, owed_letter}
use Rattle.fields.specs.Read.{line_of}
use Rattle.rules.specs.TextRule.{owed_line}
use Rattle.rules.specs.Tests.{State, record_of}
use Rattle.rules.specs.Access.{alone, grants}
use Rattle.rules.specs.Step.{Call, request, report, store, text_line, packet, tick, query, step}
use Rattle.rules.specs.Turn.{buffers_of}
use Rattle.rules.specs.Ready.{Ready}
use Rattle.rules.specs.Isolation.{subject, fields_of, is_granted}
use Rattle.rules.specs.Outsider.{only}
use Rattle.rules.specs.Loops.{words_of}

-- ---- calls

-- the text of a text line
unfoldable pub text_of : Call → List ℕ
text_of (request m buffer) = []
text_of (report p kind reason words buffer line) = []
text_of (store p a v) = []
text_of (text_line text buffer) = text
text_of (packet door kind id words buffer) = []
text_of (tick door) = []
text_of (query m) = []

-- the kind of a report
unfoldable pub kind_of : Call → ℕ
kind_of (request m buffer) = 0
kind_of (report p kind reason words buffer line) = kind
kind_of (store p a v) = 0
kind_of (text_line text buffer) = 0
kind_of (packet door kind id words buffer) = 0
kind_of (tick door) = 0
kind_of (query m) = 0

-- the reason of a report
unfoldable pub reason_of : Call → ℕ
reason_of (request m buffer) = 0
reason_of (report p kind reason words buffer line) = reason
reason_of (store p a v) = 0
reason_of (text_line text buffer) = 0
reason_of (packet door kind id words buffer) = 0
reason_of (tick door) = 0
reason_of (query m) = 0

-- granted
abbrev pub Granted : State → Call → Type 0
Granted s c = is_granted (step s c).answer.outcome ≡ true

-- the answer that process p owes
abbrev pub owed_at : State → ℕ → Owed
owed_at s p = (record_of s p).session.owed

-- ---- what happens to an owed answer

-- a `c` or an `s` to process p is granted
pub record Asks (p : ℕ) (o : Owed) (s : State) (c : Call) : Type 0 where
  pub is : c ≡ text_line (text_of c) (buffers_of c).own
  pub named : (line_of (text_of c)).pid ≡ p
  pub letter : (line_of (text_of c)).letter ≡ owed_letter o
  pub later : owes o ≡ true
  pub granted : Granted s c

-- a report about process p 'stops or ends the process'
pub record StopsIt (p : ℕ) (s : State) (c : Call) : Type 0 where
  pub is : c ≡ report p (kind_of c) (reason_of c) (words_of c) (buffers_of c).own (buffers_of c).line
  pub granted : Granted s c
  pub stops : moving (record_of (step s c).after p).run ≡ false

-- 'STOP, END DEBUG and DESTROY'
abbrev pub cancelling : ℕ → Bool
cancelling cmd = eqb cmd STOP || (eqb cmd END-DEBUG || eqb cmd DESTROY)

-- one of these, granted at process p: they 'cancel an owed answer'
pub record Cancels (p : ℕ) (s : State) (c : Call) : Type 0 where
  pub op : cancelling (fields_of c).cmd ≡ true
  pub named : (fields_of c).pid ≡ p
  pub granted : Granted s c

-- the report sends this answer: the line of its PID, its letter, no error and the status, laid over the line buffer
pub record Answers (p : ℕ) (o : Owed) (s : State) (c : Call) : Type 0 where
  pub told : (step s c).answer.line_length ≡ length (owed_line p (kind_of c) o)
  pub line : (step s c).answer.line ≡ overlay (owed_line p (kind_of c) o) (buffers_of c).line

-- no line is sent about process p
abbrev pub NoLine : ℕ → State → Call → Type 0
NoLine p s c = subject (only p) c ≡ true → (step s c).answer.line_length ≡ 0

-- ---- lists

-- nothing is owed, and no line is sent about process p, until another `c` or `s` to it is granted
pub data Settled (p : ℕ) : State → List Call → Type 0 where
  ends : {s : State} → owed_at s p ≡ Nothing → Settled p s []
  asks_again : {s : State} {c : Call} {l : List Call} → owed_at s p ≡ Nothing → NoLine p s c → (o : Owed) → Asks p o s c → Settled p s (c ∷ l)
  stays : {s : State} {c : Call} {l : List Call} → owed_at s p ≡ Nothing → NoLine p s c → Settled p (step s c).after l → Settled p s (c ∷ l)

-- what becomes of an answer that process p owes: the first report that stops or ends the process answers it, unless a call before cancels it; no
-- other `c` or `s` is granted until then, and at the end of the list it may be owed still
pub data Fate (p : ℕ) (o : Owed) : State → List Call → Type 0 where
  owed_still : {s : State} → owed_at s p ≡ o → Fate p o s []
  answered : {s : State} {c : Call} {l : List Call} → StopsIt p s c → Answers p o s c → Settled p (step s c).after l → Fate p o s (c ∷ l)
  cancelled : {s : State} {c : Call} {l : List Call} → Cancels p s c → NoLine p s c → Settled p (step s c).after l → Fate p o s (c ∷ l)
  waits : {s : State} {c : Call} {l : List Call} → (StopsIt p s c → ⊥) → (Cancels p s c → ⊥) → ((k : Owed) → Asks p k s c → ⊥) → NoLine p s c
      → Fate p o (step s c).after l → Fate p o s (c ∷ l)

-- ---- the theorem

-- what a user may rely on
pub record OwedAnswers : Type 0 where
  -- a granted `c` or `s` writes nothing at once, and its answer is owed; 'Both are answered when a report next stops or ends the process',
  -- at most once, unless cancelled before
  pub asked : (s : State) → Ready s → (c : Call) (p : ℕ) (o : Owed) → Asks p o s c
      → ((step s c).answer ≡ grants (alone []) (buffers_of c)) × ((l : List Call) → Fate p o (step s c).after l)
  -- so from any sound state in which an answer is owed
  pub fate : (s : State) → Ready s → (p : ℕ) → p < 8 → (o : Owed) → owes o ≡ true → owed_at s p ≡ o → (l : List Call) → Fate p o s l
  -- and where none is owed, no line is sent before a `c` or `s` is granted
  pub settled : (s : State) → Ready s → (p : ℕ) → p < 8 → owed_at s p ≡ Nothing → (l : List Call) → Settled p s l
  -- a line is sent only where an answer was owed, and only by the report that stops or ends the process
  pub only-owed : (s : State) → Ready s → (c : Call) → 0 < (step s c).answer.line_length
      → (p : ℕ) × ((owes (owed_at s p) ≡ true) × (StopsIt p s c × Answers p (owed_at s p) s c))
