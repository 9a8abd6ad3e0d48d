-- 'What an outsider's answers may rest on', and 'The lists of demand 3'.
use Rattle.std.specs.Prelude.{◌≡◌, Bool, true, false, not, cond, ◌&&◌, ◌||◌, List, [], ◌∷◌, ◌++◌, ℕ, ◌<◌, length, take, get_or, set, leb, ltb, eqb}
use Rattle.format.specs.declared.header.Header.{Header}
use Rattle.format.specs.Outcome.{Outcome}
use Rattle.format.specs.Outcome.{length_of}
unfoldable pub use Rattle.format.specs.Outcome.{is_granted}
use Rattle.format.specs.Layout.{header_of}
use Rattle.fields.specs.declared.read.Line.{Line}
use Rattle.fields.specs.declared.write.Fields.{Fields}
use Rattle.fields.specs.Letters.{CONTINUE, STEP, WRITE-CODE, WRITE-DATA, WRITE-REGISTER}
use Rattle.fields.specs.Written.{written}
use Rattle.fields.specs.Read.{line_of}
use Rattle.session.specs.Session.{text_host, pup_host}
use Rattle.packets.specs.Types.{STORE}
use Rattle.process.specs.Sizes.{memory_bytes}
use Rattle.rules.specs.Rule.{Public, public, names, creates, size_asked}
use Rattle.rules.specs.Tests.{State, record_of}
use Rattle.rules.specs.Access.{Asker, nobody, by, insider}
use Rattle.rules.specs.Step.{Answer, Call, request, report, store, text_line, packet, tick, query, step, local_of}
use Rattle.rules.specs.Ready.{Ready}
use Rattle.rules.specs.Run.{TraceItem, run, final, leave}
use Rattle.ops.specs.Codes.{DEBUG, DEPOSIT, DEPOSIT-VECTOR, DESTROY, END-DEBUG, END-WATCH, WATCH}

-- a set of hosts
abbrev pub Hosts : Type 0
Hosts = ℕ → Bool

-- a set of processes
abbrev pub Processes : Type 0
Processes = ℕ → Bool

-- ---- messages

-- 'its second byte, HOST'
abbrev pub host_of : List ℕ → ℕ
host_of m = (header_of m).host

-- a message's CMD
abbrev pub cmd_of : List ℕ → ℕ
cmd_of m = (header_of m).cmd

-- a message's PID
abbrev pub pid_of : List ℕ → ℕ
pid_of m = (header_of m).pid

-- 'It names P if it has ten bytes or more, its CMD uses PID, and PID is P.'
unfoldable pub names_one : Processes → List ℕ → Bool
names_one P m = leb 10 (length m) && (names (cmd_of m) && P (pid_of m))

-- 'DEPOSIT and DEPOSIT STATE VECTOR'
abbrev pub deposits : ℕ → Bool
deposits cmd = eqb cmd DEPOSIT || eqb cmd DEPOSIT-VECTOR

-- ---- text lines

-- a line names a process if its PID, and what is asked, can be read
unfoldable pub line_names_one : Processes → Line → Bool
line_names_one P x = x.headed && P x.pid

-- 'what it .. writes': of `c` and `s` the new PC, of `I`, `D` and `R` the value; what the others carry writes nothing
unfoldable pub without_written : Line → Fields
without_written x =
    cond (eqb x.letter CONTINUE || eqb x.letter STEP)
    (record { pid = x.pid; letter = x.letter; third = 1; fourth = x.fourth })
    (cond (eqb x.letter WRITE-CODE || (eqb x.letter WRITE-DATA || eqb x.letter WRITE-REGISTER))
    (record { pid = x.pid; letter = x.letter; third = x.third; fourth = 0 }) (record { pid = x.pid; letter = x.letter; third = x.third; fourth = x.fourth }))

-- a line that can be read, without what it writes
unfoldable pub without_value : List ℕ → List ℕ
without_value text = cond (line_of text).whole (written (without_written (line_of text))) text

-- ---- packets

-- what 'a Store writes', its second data word, is 0
unfoldable pub without_stored : ℕ → List ℕ → List ℕ
without_stored kind words = cond (eqb kind STORE) (set words 1 0) words

-- ---- calls

-- 'A request is his if its second byte, HOST, is his number.' Nobody asks a report, a store or a tick; 'each line as host 253's request', 'each
-- packet as host 254's request .., whatever its second byte'
unfoldable pub asker : Call → Asker
asker (request m buffer) = by (host_of m)
asker (report p kind reason words buffer line) = nobody
asker (store p x v) = nobody
asker (text_line text buffer) = by text_host
asker (packet door kind id words buffer) = by pup_host
asker (tick door) = nobody
asker (query m) = by (host_of m)

-- the call names one of these processes, or is about it
unfoldable pub subject : Processes → Call → Bool
subject P (request m buffer) = names_one P m
subject P (report p kind reason words buffer line) = P p
subject P (store p x v) = P p
subject P (text_line text buffer) = line_names_one P (line_of text)
subject P (packet door kind id words buffer) = P door
subject P (tick door) = P door
subject P (query m) = names_one P m

-- 'reports .. and stores'; 'a tick' is no event but 'a call', and is never struck
unfoldable pub event : Call → Bool
event (request m buffer) = false
event (report p kind reason words buffer line) = true
event (store p x v) = true
event (text_line text buffer) = false
event (packet door kind id words buffer) = false
event (tick door) = false
event (query m) = false

-- a message up to ARG1: ARG2, which counts the bytes of the string, is zero, and there is no string
abbrev pub without_string : List ℕ → List ℕ
without_string m = take 8 m ++ (0 ∷ 0 ∷ [])

-- the call without 'the strings in .. DEPOSIT and DEPOSIT STATE VECTOR requests', nor how long they are
unfoldable pub passed_over : Call → Call
passed_over (request m buffer) = request (cond (deposits (cmd_of m)) (without_string m) m) buffer
passed_over (report p kind reason words buffer line) = report p kind reason words buffer line
passed_over (store p x v) = store p x v
passed_over (text_line text buffer) = text_line (without_value text) buffer
passed_over (packet door kind id words buffer) = packet door kind id (without_stored kind words) buffer
passed_over (tick door) = tick door
passed_over (query m) = query (cond (deposits (cmd_of m)) (without_string m) m)

-- the fields of a NOP
abbrev pub nop : Header
nop = record { host = 0; cmd = 0; pid = 0; arg1 = 0; arg2 = 0 }

-- the fields of a request; any other call changes who debugs and who watches no more than a NOP does
unfoldable pub fields_of : Call → Header
fields_of (request m buffer) = header_of m
fields_of (report p kind reason words buffer line) = nop
fields_of (store p x v) = nop
fields_of (text_line text buffer) = nop
fields_of (packet door kind id words buffer) = nop
fields_of (tick door) = nop
fields_of (query m) = nop

-- asked by one of these hosts
unfoldable pub is_one : Hosts → Asker → Bool
is_one H nobody = false
is_one H (by host) = H host

-- ---- who debugs and who watches, as the calls and their answers tell it

-- 'from a granted DEBUG .. the asker; from a granted END DEBUG or DESTROY nobody'; 'a cleared record give[s] 4,096'; WATCH 'makes the asker the one
-- watcher', END WATCH 'ends it', and 'END DEBUG and DESTROY end the watch'
unfoldable pub public_then : ℕ → ℕ → Public → Public
public_then cmd asker u =
    cond (eqb cmd DEBUG) (record { there = u.there; host = asker; watcher = u.watcher; size = u.size })
    (cond (eqb cmd END-DEBUG) (record { there = u.there; host = 0; watcher = 0; size = u.size })
    (cond (eqb cmd DESTROY) (record { there = false; host = 0; watcher = 0; size = memory_bytes })
    (cond (eqb cmd WATCH) (record { there = u.there; host = u.host; watcher = asker; size = u.size })
    (cond (eqb cmd END-WATCH) (record { there = u.there; host = u.host; watcher = 0; size = u.size }) u))))

-- 'from a granted .. CREATE the asker', of the process whose number the reply carries; 'Nothing else changes it.'
unfoldable pub told_of : (ℕ → Public) → Call → Answer → ℕ → Public
told_of d c a p =
    cond (is_granted a.outcome)
    (cond (names (fields_of c).cmd && eqb p (fields_of c).pid) (public_then (fields_of c).cmd (fields_of c).host (d p))
    (cond (creates (fields_of c).cmd && eqb p (get_or a.buffer 5 0)) (record { there = true; host = (fields_of c).host; watcher = 0; size = size_asked (fields_of c) }) (d p)))
    (d p)

-- the public part of a process in a state
abbrev pub public_of : State → ℕ → Public
public_of s p = public (record_of s p)

-- which processes are there, who debugs and who watches each, is what the calls and their answers tell
unfoldable pub Debuggers : Type 0
Debuggers = (s : State) → Ready s → (c : Call) (p : ℕ) → public_of (step s c).after p ≡ told_of (public_of s) c (step s c).answer p

-- ---- what goes to the hosts

-- a notice went out, and its HOST byte is one of theirs
unfoldable pub noticed : Hosts → Outcome → List ℕ → Bool
noticed H o buffer = ltb 0 (length_of o) && H (get_or buffer 1 0)

-- the line that answers a `c` or an `s` went out, to host 253
unfoldable pub line_sent : Hosts → Answer → Bool
line_sent H a = ltb 0 a.line_length && H text_host

-- 'To him go the answers to his requests and to the reports that send him something.'
unfoldable pub sent_to : Hosts → Asker → Answer → Bool
sent_to H nobody a = noticed H a.outcome a.buffer || line_sent H a
sent_to H (by host) a = H host

-- the same of a call and its answer
abbrev pub to_them : Hosts → Call → Answer → Bool
to_them H c a = sent_to H (asker c) a

-- the answer to a call, if it goes to them
unfoldable pub part : Hosts → TraceItem → List Answer
part H e = cond (to_them H e.call e.answer) (e.answer ∷ []) []

-- the answers to them, in their order
unfoldable pub heard : Hosts → List TraceItem → List Answer
heard H [] = []
heard H (e ∷ es) = part H e ++ heard H es

-- ---- lists that are alike

-- 'reports about P and stores into P, however many, are struck'
unfoldable pub struck : Processes → Call → Bool
struck P c = event c && subject P c

-- 'the strings in other hosts' DEPOSIT and DEPOSIT STATE VECTOR requests to P, of any length, are passed over'
unfoldable pub without_data : Hosts → Processes → Call → Call
without_data H P c = cond (not (is_one H (asker c)) && subject P c) (passed_over c) c

-- a list of calls, struck and passed over in this way
unfoldable pub strike : Hosts → Processes → List Call → List Call
strike H P [] = []
strike H P (c ∷ cs) = cond (struck P c) (strike H P cs) (without_data H P c ∷ strike H P cs)

-- 'Two lists are alike when they become the same, buffers included'
abbrev pub Alike : Hosts → Processes → List Call → List Call → Type 0
Alike H P l₁ l₂ = strike H P l₁ ≡ strike H P l₂

-- ---- states that differ in these processes alone

-- 'The start states differ only in P's memory and P's record, and agree on whether P is there, on its host, and on whatever is later called public.'
pub record Apart (P : Processes) (s₁ s₂ : State) : Type 0 where
  pub shown : (p : ℕ) → p < 8 → public_of s₁ p ≡ public_of s₂ p
  pub others : (p : ℕ) → p < 8 → P p ≡ false → local_of s₁ p ≡ local_of s₂ p

-- none of these hosts debugs or watches one of these processes
abbrev pub NoneDebugs : Hosts → Processes → State → Type 0
NoneDebugs H P s = (p : ℕ) → p < 8 → P p ≡ true → (host : ℕ) → H host ≡ true → insider (public_of s p) host ≡ false

-- neither at the start nor after any call
unfoldable pub NeverDebugs : Hosts → Processes → State → List Call → Type 0
NeverDebugs H P s [] = NoneDebugs H P s
NeverDebugs H P s (c ∷ cs) = NoneDebugs H P s × NeverDebugs H P (step s c).after cs

-- their requests that name one of these processes
unfoldable pub theirs : Hosts → Processes → Call → Bool
theirs H P c = is_one H (asker c) && subject P c

-- ---- the claim, for a set of hosts and a set of processes, where the same processes stay hidden to the end

-- what a set of hosts is answered does not rest on processes that they neither debug nor watch, and their requests naming those could be left out
pub record Claim (H : Hosts) (P : Processes) : Type 0 where
  -- part one: what they are answered is the same in both gateways; it is enough that they stay away in one of the two
  pub same-heard : (s₁ s₂ : State) → Ready s₁ → Ready s₂ → Apart P s₁ s₂ → (l₁ l₂ : List Call) → Alike H P l₁ l₂ → NeverDebugs H P s₁ l₁
      → heard H (run s₁ l₁) ≡ heard H (run s₂ l₂)
  -- and so is the next answer to one of them, also the one that makes him debug or watch such a process
  pub same_next : (s₁ s₂ : State) → Ready s₁ → Ready s₂ → Apart P s₁ s₂ → (l₁ l₂ : List Call) → Alike H P l₁ l₂ → NeverDebugs H P s₁ l₁
      → (c : Call) → is_one H (asker c) ≡ true → (step (final s₁ l₁) c).answer ≡ (step (final s₂ l₂) c).answer
  pub both-away : (s₁ s₂ : State) → Ready s₁ → Ready s₂ → Apart P s₁ s₂ → (l₁ l₂ : List Call) → Alike H P l₁ l₂ → NeverDebugs H P s₁ l₁
      → NeverDebugs H P s₂ l₂
  -- part two: some or all of their requests that name one of the processes are left out, and every other call has the same answer and
  -- the same state after it
  pub left_out : (s : State) → Ready s → (l : List Call) → NeverDebugs H P s l → (marks : List Bool)
      → run s (leave (theirs H P) marks l) ≡ leave (λ (e : TraceItem). theirs H P e.call) marks (run s l)
  -- and at the end
  pub same_end : (s : State) → Ready s → (l : List Call) → NeverDebugs H P s l → (marks : List Bool)
      → final s (leave (theirs H P) marks l) ≡ final s l
