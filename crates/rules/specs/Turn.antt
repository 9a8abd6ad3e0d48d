-- Each call in its parts. What it answers and leaves by these is what `step` says (the law `turn` of each call).
use Rattle.std.specs.Prelude.{not, cond, List, [], ◌∷◌, ◌++◌, ℕ, length, set, ltb}
use Rattle.lists.specs.Word.{low_first}
use Rattle.format.specs.declared.header.Header.{Header}
use Rattle.format.specs.Outcome.{Test, test}
use Rattle.format.specs.Layout.{written, header_of, string_of}
use Rattle.format.specs.Answer.{cant_of, created_of, notice_of}
use Rattle.process.specs.Local.{Local, local}
use Rattle.process.specs.Request.{created, on_record}
use Rattle.run_state.specs.RunState.{accepts}
use Rattle.process.specs.Report.{reported, recipient_of, answer_of}
use Rattle.process.specs.Packet.{ticked}
use Rattle.packets.specs.Types.{known_type, too_few}
use Rattle.state.specs.Records.{lowest_absent}
use Rattle.rules.specs.Rule.{Rule, rule_of, names, creates, size_asked}
use Rattle.rules.specs.TextRule.{text_rule_of, failure, owed_line}
use Rattle.rules.specs.PacketRule.{packet_row_of}
use Rattle.reasons.specs.Reason.{facts_of}
use Rattle.rules.specs.Why.{reason_for, reason_without_process}
use Rattle.rules.specs.Tests.{State, no_room, no_report_room, no_line_room, no_ack_room, unsound, form_tests, outer_tests, inner_tests, text_outer_tests, text_inner_tests, packet_outer_tests, packet_inner_tests, no_place, bad_report}
use Rattle.rules.specs.Window.{Buffers}
use Rattle.rules.specs.Access.{Access, alone, Place, nowhere, at_process, Turn}
use Rattle.rules.specs.Step.{told, ack_words_of, Call, request, report, store, text_line, packet, tick, query}
use Rattle.fields.specs.declared.read.Line.{Line}
use Rattle.fields.specs.Read.{line_of}

-- ---- requests

-- nothing before test 7, and a CAN'T from then on
unfoldable pub cant_bytes : Header → ℕ → List ℕ
cant_bytes h number = cond (ltb number 7) [] (written (cant_of h) [])

-- an op code that names a process, by its row of the rules
unfoldable pub rule_access : Rule → Header → List ℕ → Access
rule_access r h string = record {
  outer = λ u. test 7 (not u.there) ∷ outer_tests r h u;
  inner = λ l. inner_tests r h l.process;
  reply = λ l. alone (written (r.header h l) (r.shown h l));
  refusal = λ l. cant_bytes h;
  effect = r.effect h string;
}

-- CREATE, at the lowest absent number: whatever was there is gone
unfoldable pub create_access : Header → ℕ → Access
create_access h p = record {
  outer = λ u. [];
  inner = λ l. [];
  reply = λ l. alone (written (created_of h p) []);
  refusal = λ l. cant_bytes h;
  effect = λ l. created h.host (size_asked h);
}

-- 7, 'number over 7', and 13
unfoldable pub place_tests : Header → State → List Test
place_tests h s =
    cond (names h.cmd) (test 7 (not (ltb h.pid 8)) ∷ [])
    (cond (creates h.cmd) (test 13 (no_place h s) ∷ []) [])

-- NOP looks at no process
unfoldable pub request_place : Header → List ℕ → State → Place
request_place h string s =
    cond (names h.cmd) (at_process h.pid (rule_access (rule_of h.cmd) h string))
    (cond (creates h.cmd) (at_process (lowest_absent s.records) (create_access h (lowest_absent s.records))) (nowhere (alone (written h []))))

-- the tests 1 to 6 of a request
abbrev pub message_tests : State → List ℕ → List ℕ → List Test
message_tests s m buffer = test 1 (no_room s.memory buffer) ∷ form_tests s m

-- a request
unfoldable pub request_turn : List ℕ → List ℕ → State → Turn
request_turn m buffer s = record {
  tests = message_tests s m buffer ++ place_tests (header_of m) s;
  refusal = cant_bytes (header_of m);
  place = request_place (header_of m) (string_of m) s;
}

-- ---- reports and stores

-- the notice of a report to the host that it tells, if any
abbrev pub notice_bytes : ℕ → ℕ → ℕ → List ℕ → Local → List ℕ
notice_bytes p kind reason words l =
    cond (told kind words l) (written (notice_of (recipient_of kind words l) kind p reason) (low_first words)) []

-- a report about a process; beside the notice goes the line that the process owes
unfoldable pub report_access : ℕ → ℕ → ℕ → List ℕ → Access
report_access p kind reason words = record {
  outer = λ u. test 7 (not u.there) ∷ [];
  inner = λ l. test 9 (not (accepts kind l.process.run)) ∷ [];
  reply = λ l. record { own = notice_bytes p kind reason words l; line = owed_line p kind (answer_of kind words l) };
  refusal = λ l number. [];
  effect = reported kind words;
}

-- a report
unfoldable pub report_turn : ℕ → ℕ → ℕ → List ℕ → List ℕ → List ℕ → State → Turn
report_turn p kind reason words buffer line s = record {
  tests = test 1 (no_report_room s.memory buffer line)
      ∷ test 2 (unsound s)
      ∷ test 14 (bad_report kind reason)
      ∷ test 7 (not (ltb p 8))
      ∷ [];
  refusal = λ number. [];
  place = at_process p (report_access p kind reason words);
}

-- a byte that the machine stores
unfoldable pub store_access : ℕ → ℕ → Access
store_access a v = record {
  outer = λ u. [];
  inner = λ l. [];
  reply = λ l. alone [];
  refusal = λ l number. [];
  effect = λ l. local l.process (set l.bytes a v);
}

-- a store
unfoldable pub store_turn : ℕ → ℕ → ℕ → Turn
store_turn p a v = record {
  tests = [];
  refusal = λ number. [];
  place = cond (ltb p 8) (at_process p (store_access a v)) (nowhere (alone []));
}

-- ---- text lines

-- a text line at the process that it names, by the row of its letter
unfoldable pub text_access : Line → Access
text_access x = record {
  outer = λ u. test 103 (not u.there) ∷ text_outer_tests x u;
  inner = λ l. text_inner_tests x l.process;
  reply = λ l. alone ((text_rule_of x.letter).reply x l);
  refusal = λ l. failure x;
  effect = (text_rule_of x.letter).effect x;
}

-- a text line
unfoldable pub text_turn : List ℕ → List ℕ → State → Turn
text_turn text buffer s = record {
  tests = test 1 (no_line_room s.memory buffer)
      ∷ test 2 (unsound s)
      ∷ test 6 (not (line_of text).headed)
      ∷ test 122 (not (line_of text).whole)
      ∷ test 103 (not (ltb (line_of text).pid 8))
      ∷ [];
  refusal = failure (line_of text);
  place = at_process (line_of text).pid (text_access (line_of text));
}

-- ---- packets and ticks

-- a packet at the process of the door, by the row of its type
unfoldable pub packet_access : ℕ → ℕ → List ℕ → Access
packet_access kind id words = record {
  outer = λ u. test 7 (not u.there) ∷ packet_outer_tests kind u;
  inner = λ l. packet_inner_tests kind words l.process;
  reply = λ l. alone (ack_words_of kind id words l);
  refusal = λ l number. [];
  effect = (packet_row_of kind).effect id words;
}

-- a packet
unfoldable pub packet_turn : ℕ → ℕ → ℕ → List ℕ → List ℕ → State → Turn
packet_turn door kind id words buffer s = record {
  tests = test 1 (no_ack_room s.memory buffer)
      ∷ test 2 (unsound s)
      ∷ test 3 (too_few kind words)
      ∷ test 5 (not (known_type kind))
      ∷ test 7 (not (ltb door 8))
      ∷ [];
  refusal = λ number. [];
  place = at_process door (packet_access kind id words);
}

-- a tick at the process of the door
unfoldable pub tick_access : Access
tick_access = record {
  outer = λ u. [];
  inner = λ l. [];
  reply = λ l. alone [];
  refusal = λ l number. [];
  effect = on_record ticked;
}

-- a tick
unfoldable pub tick_turn : ℕ → State → Turn
tick_turn door s = record {
  tests = test 2 (unsound s) ∷ [];
  refusal = λ number. [];
  place = cond (ltb door 8) (at_process door tick_access) (nowhere (alone []));
}

-- ---- why

-- the same tests as the request's own, at the process that it names
unfoldable pub query_access : Rule → Header → ℕ → Access
query_access r h count = record {
  outer = λ u. test 7 (not u.there) ∷ outer_tests r h u;
  inner = λ l. inner_tests r h l.process;
  reply = λ l. alone [];
  refusal = λ l number. facts_of (reason_for number h count l.process);
  effect = λ l. l;
}

-- a query; one of a request that names no process looks at none
unfoldable pub query_turn : List ℕ → State → Turn
query_turn m s = record {
  tests = form_tests s m ++ place_tests (header_of m) s;
  refusal = λ number. facts_of (reason_without_process number (length m));
  place = cond (names (header_of m).cmd) (at_process (header_of m).pid (query_access (rule_of (header_of m).cmd) (header_of m) (length m))) (nowhere (alone []));
}

-- ---- any call

-- each call in its parts
unfoldable pub turn_of : State → Call → Turn
turn_of s (request m buffer) = request_turn m buffer s
turn_of s (report p kind reason words buffer line) = report_turn p kind reason words buffer line s
turn_of s (store p a v) = store_turn p a v
turn_of s (text_line text buffer) = text_turn text buffer s
turn_of s (packet door kind id words buffer) = packet_turn door kind id words buffer s
turn_of s (tick door) = tick_turn door s
turn_of s (query m) = query_turn m s

-- a buffer of its own, and no line buffer
abbrev pub single : List ℕ → Buffers
single buffer = record { own = buffer; line = [] }

-- the output buffers lent with a call
unfoldable pub buffers_of : Call → Buffers
buffers_of (request m buffer) = single buffer
buffers_of (report p kind reason words buffer line) = record { own = buffer; line = line }
buffers_of (store p a v) = single []
buffers_of (text_line text buffer) = single buffer
buffers_of (packet door kind id words buffer) = single buffer
buffers_of (tick door) = single []
buffers_of (query m) = single []
