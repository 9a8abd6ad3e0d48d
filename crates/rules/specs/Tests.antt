-- 'Numbers returned, and the order of tests'.
use Rattle.std.specs.Prelude.{Bool, not, cond, ◌&&◌, ◌||◌, List, [], ◌∷◌, ◌++◌, ℕ, length, eqb, ltb}
use Rattle.format.specs.declared.header.Header.{Header}
use Rattle.format.specs.Outcome.{Test, test, first_failing}
use Rattle.ops.specs.Table.{request_form}
use Rattle.format.specs.Layout.{header_of, fixed_right}
use Rattle.format.specs.Refusal.{layout_tests}
use Rattle.process.specs.declared.record.Process.{Process}
use Rattle.run_state.specs.ReportKind.{TRAP, TTRAP}
use Rattle.run_state.specs.RunState.{accepts}
use Rattle.state.specs.Records.{Records, process_at, lowest_absent}
use Rattle.state.specs.Layout.{capacity, free_bytes}
use Rattle.state.specs.Sound.{sound_test}
use Rattle.rules.specs.Rule.{Rule, Public, public, rule_of, names, creates, size_asked}
use Rattle.rules.specs.TextRule.{text_rule_of, answer_owed}
use Rattle.rules.specs.PacketRule.{packet_row_of}
use Rattle.packets.specs.Types.{known_type, too_few}
use Rattle.packets.specs.Ack.{ack_words}
use Rattle.format.specs.Sizes.{message_bytes}
use Rattle.fields.specs.declared.read.Line.{Line}
use Rattle.fields.specs.Read.{line_of}
use Rattle.fields.specs.Written.{line_bytes}

-- the gateway's eight records and the lent memory
pub record State : Type 0 where
  pub records : Records
  pub memory : List ℕ

-- the state that a call is given
abbrev pub lent : Records → List ℕ → State
lent g memory = record { records = g; memory = memory }

-- 1: 'memory not' 16,384 'bytes, or reply or notice buffer under 266'
abbrev pub no_room : List ℕ → List ℕ → Bool
no_room memory buffer = not (eqb (length memory) capacity) || ltb (length buffer) message_bytes

-- 'asks 35 bytes of line buffer'
abbrev pub no_line : List ℕ → Bool
no_line line = ltb (length line) line_bytes

-- 1 of a report: '(a report's too)'
abbrev pub no_report_room : List ℕ → List ℕ → List ℕ → Bool
no_report_room memory buffer line = no_line line || no_room memory buffer

-- 1 of a text line
abbrev pub no_line_room : List ℕ → List ℕ → Bool
no_line_room memory buffer = no_line buffer || not (eqb (length memory) capacity)

-- 2: 'state not sound'
abbrev pub unsound : State → Bool
unsound s = not (sound_test s.records)

-- the record of a process
abbrev pub record_of : State → ℕ → Process
record_of s p = process_at s.records p

-- 7: 'named process absent, or number over 7'
abbrev pub absent : State → ℕ → Bool
absent s p = not (ltb p 8 && (record_of s p).there)

-- the tests by the public part alone
abbrev pub outer_tests : Rule → Header → Public → List Test
outer_tests r h u = test 8 (not (r.right u h.host)) ∷ test 15 (not (r.unwatched u h.host)) ∷ []

-- the tests by the process
abbrev pub inner_tests : Rule → Header → Process → List Test
inner_tests r h p =
    test 9 (not (r.runs p.run))
    ∷ test 10 (not (r.range h p.size))
    ∷ test 11 (not (r.room h p))
    ∷ test 12 (not (r.found h p))
    ∷ test 16 (not (r.his h p))
    ∷ []

-- the tests of a process by the rule of the op code: 8, '15, after 8', 9 to 12, '16, after 12'
abbrev pub rule_tests : Rule → Header → Process → List Test
rule_tests r h p = outer_tests r h (public p) ++ inner_tests r h p

-- 13: 'all numbers are taken or free bytes are fewer than the size'
abbrev pub no_place : Header → State → Bool
no_place h s = not (ltb (lowest_absent s.records) 8) || ltb (free_bytes s.records) (size_asked h)

-- the tests 7 to 12, 15 and 16 of a request that names a process, and 13 of CREATE
unfoldable pub asked_tests : Header → State → List Test
asked_tests h s =
    cond (names h.cmd) (test 7 (absent s h.pid) ∷ rule_tests (rule_of h.cmd) h (record_of s h.pid))
    (cond (creates h.cmd) (test 13 (no_place h s) ∷ []) [])

-- the tests 2 to 6 of a request
abbrev pub form_tests : State → List ℕ → List Test
form_tests s m = test 2 (unsound s) ∷ layout_tests (fixed_right m) (request_form (header_of m).cmd) (header_of m) (length m)

-- all but test 1, in document 01's order, with 15 after 8 and 16 after 12
abbrev pub tests_from2 : State → List ℕ → List Test
tests_from2 s m = form_tests s m ++ asked_tests (header_of m) s

-- the tests of a request
abbrev pub request_tests : State → List ℕ → List ℕ → List Test
request_tests s m buffer = test 1 (no_room s.memory buffer) ∷ tests_from2 s m

-- 'The lowest-numbered test that fails gives the answer'
unfoldable pub request_number : State → List ℕ → List ℕ → ℕ
request_number s m buffer = first_failing (request_tests s m buffer)

-- 14: 'report of kind over 3, or a reason not 0 with a kind that isn't TRAP'
abbrev pub bad_report : ℕ → ℕ → Bool
bad_report kind reason = ltb TTRAP kind || (not (eqb reason 0) && not (eqb kind TRAP))

-- 'A report is tested by 1, 2, 14, 7, 9 in that order'
abbrev pub report_tests : State → ℕ → ℕ → ℕ → List ℕ → List ℕ → List Test
report_tests s p kind reason buffer line =
    test 1 (no_report_room s.memory buffer line)
    ∷ test 2 (unsound s)
    ∷ test 14 (bad_report kind reason)
    ∷ test 7 (absent s p)
    ∷ test 9 (not (accepts kind (record_of s p).run))
    ∷ []

-- the number of the first that fails
unfoldable pub report_number : State → ℕ → ℕ → ℕ → List ℕ → List ℕ → ℕ
report_number s p kind reason buffer line = first_failing (report_tests s p kind reason buffer line)

-- 101, by the public part alone
abbrev pub text_outer_tests : Line → Public → List Test
text_outer_tests x u = test 101 (not ((text_rule_of x.letter).right u)) ∷ []

-- 'an answer owed, whatever is asked', 'wrong state or a register value over 65,535', 'outside or not aligned'
abbrev pub text_inner_tests : Line → Process → List Test
text_inner_tests x p =
    test 116 (answer_owed p)
    ∷ test 122 (not ((text_rule_of x.letter).state x p))
    ∷ test 114 (not ((text_rule_of x.letter).range x p.size))
    ∷ []

-- 'Refusals: silent, 1 asks 35 bytes of line buffer .., 2, and 6 a PID or request that cannot be read; then .. 22 anything else in the line
-- unreadable, 3 no such process, 1 no right, 16 an answer owed, whatever is asked, 22 wrong state or a register value over 65,535,
-- 14 outside or not aligned .., in that order', 'the number being 100 more'
abbrev pub text_tests : State → List ℕ → List ℕ → List Test
text_tests s text buffer =
    test 1 (no_line_room s.memory buffer)
    ∷ test 2 (unsound s)
    ∷ test 6 (not (line_of text).headed)
    ∷ test 122 (not (line_of text).whole)
    ∷ test 103 (absent s (line_of text).pid)
    ∷ text_outer_tests (line_of text) (public (record_of s (line_of text).pid))
    ++ text_inner_tests (line_of text) (record_of s (line_of text).pid)

-- the number of the first that fails
unfoldable pub text_number : State → List ℕ → List ℕ → ℕ
text_number s text buffer = first_failing (text_tests s text buffer)

-- ---- packets and ticks of the Pup door (K1)

-- 1 of a packet: '1 asks 35 output words, not 266 bytes'
abbrev pub no_ack_room : List ℕ → List ℕ → Bool
no_ack_room memory buffer = ltb (length buffer) ack_words || not (eqb (length memory) capacity)

-- 8, by the public part alone
abbrev pub packet_outer_tests : ℕ → Public → List Test
packet_outer_tests kind u = test 8 (not ((packet_row_of kind).right u)) ∷ []

-- 9 and 10
abbrev pub packet_inner_tests : ℕ → List ℕ → Process → List Test
packet_inner_tests kind words p =
    test 9 (not ((packet_row_of kind).runs p.run)) ∷ test 10 (not ((packet_row_of kind).range words p.size)) ∷ []

-- 'Refusals, all silent: 1 ..; 2; 3 too few data words, 5 another type, 7 to 10 as for requests'
abbrev pub packet_tests : State → ℕ → ℕ → List ℕ → List ℕ → List Test
packet_tests s door kind words buffer =
    test 1 (no_ack_room s.memory buffer)
    ∷ test 2 (unsound s)
    ∷ test 3 (too_few kind words)
    ∷ test 5 (not (known_type kind))
    ∷ test 7 (absent s door)
    ∷ packet_outer_tests kind (public (record_of s door))
    ++ packet_inner_tests kind words (record_of s door)

-- the number of the first that fails
unfoldable pub packet_number : State → ℕ → ℕ → List ℕ → List ℕ → ℕ
packet_number s door kind words buffer = first_failing (packet_tests s door kind words buffer)

-- 'a tick only 2'
abbrev pub tick_tests : State → List Test
tick_tests s = test 2 (unsound s) ∷ []

-- the number of the first that fails
unfoldable pub tick_number : State → ℕ
tick_number s = first_failing (tick_tests s)
