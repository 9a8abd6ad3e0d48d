-- One call: what is answered, and state, memory and output buffer after it.
use Rattle.std.specs.Prelude.{Bool, not, cond, List, [], ℕ, ◌+◌, length, set, eqb, ltb}
use Rattle.lists.specs.Buffer.{overlay}
use Rattle.lists.specs.Word.{low_first}
use Rattle.format.specs.declared.header.Header.{Header}
use Rattle.format.specs.Outcome.{Outcome}
use Rattle.format.specs.Outcome.{outcome}
use Rattle.format.specs.Layout.{written, header_of, string_of}
use Rattle.format.specs.Answer.{cant_of, created_of, notice_of}
use Rattle.process.specs.Local.{Local, local}
use Rattle.process.specs.Request.{created, on_record}
use Rattle.process.specs.Report.{reported, recipient_of, answer_of}
use Rattle.process.specs.Packet.{ticked}
use Rattle.rules.specs.Rule.{rule_of, names, creates, size_asked}
use Rattle.state.specs.Records.{lowest_absent}
use Rattle.rules.specs.TextRule.{text_rule_of, failure, owed_line}
use Rattle.rules.specs.PacketRule.{packet_row_of}
use Rattle.reasons.specs.Reason.{facts_of}
use Rattle.rules.specs.Why.{why_number, why_of}
use Rattle.fields.specs.declared.read.Line.{Line}
use Rattle.fields.specs.Read.{line_of}
use Rattle.rules.specs.Tests.{State, record_of, request_number, report_number, text_number, packet_number, tick_number}
pub use Rattle.rules.specs.Window.{Answer, StepResult, local_of, plain_answer}
unfoldable pub use Rattle.rules.specs.Window.{put}

-- an answer that leaves this state
abbrev pub answers : Outcome → List ℕ → State → StepResult
answers o buffer s = record { answer = plain_answer o buffer; after = s }

-- a reply is laid over the start of the reply buffer
abbrev pub reply_of : Header → List ℕ → List ℕ → Answer
reply_of h string buffer = plain_answer (outcome 0 (10 + length string)) (overlay (written h string) buffer)

-- a reply that leaves this state
abbrev pub replied : Header → List ℕ → List ℕ → State → StepResult
replied h string buffer s = record { answer = reply_of h string buffer; after = s }

-- a request that names a process, granted
unfoldable pub granted_named : Header → List ℕ → List ℕ → State → StepResult
granted_named h string buffer s =
    replied ((rule_of h.cmd).header h (local_of s h.pid)) ((rule_of h.cmd).shown h (local_of s h.pid)) buffer
    (put h.pid ((rule_of h.cmd).effect h string (local_of s h.pid)) s)

-- CREATE: 'the lowest absent number'
unfoldable pub granted_create : Header → List ℕ → State → StepResult
granted_create h buffer s =
    replied (created_of h (lowest_absent s.records)) [] buffer (put (lowest_absent s.records) (created h.host (size_asked h)) s)

-- a request whose tests all pass; NOP changes nothing
unfoldable pub granted : Header → List ℕ → List ℕ → State → StepResult
granted h string buffer s =
    cond (names h.cmd) (granted_named h string buffer s) (cond (creates h.cmd) (granted_create h buffer s) (replied h [] buffer s))

-- a refused request: 'State and memory are unchanged by a refusal'; from test 7 on a CAN'T is written, and before it nothing
unfoldable pub refused : ℕ → Header → List ℕ → State → StepResult
refused number h buffer s =
    answers (outcome number 0) (cond (ltb number 7) buffer (overlay (written (cant_of h) []) buffer)) s

-- a request: any message, with its reply buffer
unfoldable pub request_step : List ℕ → List ℕ → State → StepResult
request_step m buffer s =
    cond (eqb (request_number s m buffer) 0) (granted (header_of m) (string_of m) buffer s)
    (refused (request_number s m buffer) (header_of m) buffer s)

-- somebody is told of a report
abbrev pub told : ℕ → List ℕ → Local → Bool
told kind words l = not (eqb (recipient_of kind words l) 0)

-- the notice of an accepted report to this host, or nothing where it is nobody
unfoldable pub notice_to : ℕ → ℕ → ℕ → ℕ → List ℕ → List ℕ → Answer
notice_to host p kind reason words buffer =
    cond (not (eqb host 0)) (reply_of (notice_of host kind p reason) (low_first words) buffer) (plain_answer (outcome 0 0) buffer)

-- 'in a line buffer beside any notice, both lengths told': an answer, and this line laid over the start of the line buffer
abbrev pub beside : List ℕ → List ℕ → Answer → Answer
beside text line a = record { outcome = a.outcome; buffer = a.buffer; line_length = length text; line = overlay text line }

-- an accepted report tells the host that it has to tell, if any, and gives the owed answer, if it has to
unfoldable pub notified : ℕ → ℕ → ℕ → List ℕ → List ℕ → List ℕ → Local → Answer
notified p kind reason words buffer line l =
    beside (owed_line p kind (answer_of kind words l)) line (notice_to (recipient_of kind words l) p kind reason words buffer)

-- a machine report, with its notice buffer and its line buffer; 'a refused one writes nothing at all'
unfoldable pub report_step : ℕ → ℕ → ℕ → List ℕ → List ℕ → List ℕ → State → StepResult
report_step p kind reason words buffer line s =
    cond (eqb (report_number s p kind reason buffer line) 0)
    (record { answer = notified p kind reason words buffer line (local_of s p); after = put p (reported kind words (local_of s p)) s })
    (record { answer = beside [] line (plain_answer (outcome (report_number s p kind reason buffer line) 0) buffer); after = s })

-- the answer of a granted text line, laid over the start of its buffer
abbrev pub text_reply : Line → List ℕ → Local → Answer
text_reply x buffer l =
    plain_answer (outcome 0 (length ((text_rule_of x.letter).reply x l))) (overlay ((text_rule_of x.letter).reply x l) buffer)

-- a refused text line: silent, or one line with the flag and the errno
abbrev pub text_refusal : ℕ → Line → List ℕ → Answer
text_refusal number x buffer = plain_answer (outcome number 0) (overlay (failure x number) buffer)

-- a text line, with the buffer for the line that answers it
unfoldable pub text_step : List ℕ → List ℕ → State → StepResult
text_step text buffer s =
    cond (eqb (text_number s text buffer) 0)
    (record {
      answer = text_reply (line_of text) buffer (local_of s (line_of text).pid);
      after = put (line_of text).pid ((text_rule_of (line_of text).letter).effect (line_of text) (local_of s (line_of text).pid)) s;
    })
    (record { answer = text_refusal (text_number s text buffer) (line_of text) buffer; after = s })

-- a store by the machine, 'only within a process's own bytes'
unfoldable pub stored : ℕ → ℕ → ℕ → State → State
stored p a v s = cond (ltb p 8) (put p (local (record_of s p) (set (local_of s p).bytes a v)) s) s

-- the data words of the acknowledgement of a granted packet, of the process after it: a Store's block shows 'the result of the store'
abbrev pub ack_words_of : ℕ → ℕ → List ℕ → Local → List ℕ
ack_words_of kind id words l = (packet_row_of kind).ack words ((packet_row_of kind).effect id words l)

-- they are laid over the start of the buffer
abbrev pub packet_reply : ℕ → ℕ → List ℕ → List ℕ → Local → Answer
packet_reply kind id words buffer l = plain_answer (outcome 0 (length (ack_words_of kind id words l))) (overlay (ack_words_of kind id words l) buffer)

-- a packet to the process of the door: its type, its ID and its data words, with the buffer for those of its acknowledgement; 'Refusals, all silent'
unfoldable pub packet_step : ℕ → ℕ → ℕ → List ℕ → List ℕ → State → StepResult
packet_step door kind id words buffer s =
    cond (eqb (packet_number s door kind words buffer) 0)
    (record { answer = packet_reply kind id words buffer (local_of s door); after = put door ((packet_row_of kind).effect id words (local_of s door)) s })
    (answers (outcome (packet_number s door kind words buffer) 0) buffer s)

-- a tenth of a second later, at the process of the door; where that is no process, nothing
unfoldable pub ticked_state : ℕ → State → State
ticked_state door s = cond (ltb door 8) (put door (on_record ticked (local_of s door)) s) s

-- a tick of a tenth of a second: 'a tick only 2, else granted without output'
unfoldable pub tick_step : ℕ → State → StepResult
tick_step door s = answers (outcome (tick_number s) 0) [] (cond (eqb (tick_number s) 0) (ticked_state door s) s)

-- a gateway tool asks why a request would be refused: the number, and the facts; it changes nothing
unfoldable pub query_step : List ℕ → State → StepResult
query_step m s = answers (outcome (why_number s m) 0) (facts_of (why_of s m)) s

-- what stands in a list; a packet and a tick carry the process of the door, which the gateway reads from its state
pub data Call : Type 0 where
  request : (message buffer : List ℕ) → Call
  report : (process kind reason : ℕ) (words buffer line : List ℕ) → Call
  store : (process address value : ℕ) → Call
  text_line : (text buffer : List ℕ) → Call
  packet : (door kind id : ℕ) (words buffer : List ℕ) → Call
  tick : (door : ℕ) → Call
  query : (message : List ℕ) → Call

-- one step; a store and a tick answer nobody
unfoldable pub step : State → Call → StepResult
step s (request m buffer) = request_step m buffer s
step s (report p kind reason words buffer line) = report_step p kind reason words buffer line s
step s (store p a v) = answers (outcome 0 0) [] (stored p a v s)
step s (text_line text buffer) = text_step text buffer s
step s (packet door kind id words buffer) = packet_step door kind id words buffer s
step s (tick door) = tick_step door s
step s (query m) = query_step m s
