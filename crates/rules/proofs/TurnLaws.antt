-- Each call, in its parts, answers and leaves what its definition says. Assumes nothing.
use mathlib.Core.Path.{◌≡◌, refl, sym, ap, ◌∙◌}
use mathlib.Core.Bool.{Bool, true, false, not, cond, ◌&&◌}
use mathlib.Core.List.{List, [], ◌∷◌}
use Prim.Native.Nat.{ℕ}
use lib.Dec.{eqb, ltb}
use Rattle.lists.specs.Buffer.{overlay}
use Rattle.lists.specs.Word.{low_first}
use Rattle.format.specs.declared.header.Header.{Header}
use Rattle.format.specs.Outcome.{outcome, test, first_failing}
use Rattle.format.specs.Layout.{written, header_of, string_of}
use Rattle.format.specs.Answer.{cant_of, created_of, notice_of}
use Rattle.format.proofs.LayoutLaws.{length-written}
use Rattle.fields.specs.declared.read.Line.{Line}
use Rattle.fields.specs.Read.{line_of}
use Rattle.process.specs.Local.{Local}
use Rattle.process.specs.Report.{recipient_of}
use Rattle.run_state.specs.RunState.{accepts}
use Rattle.state.specs.Records.{lowest_absent}
use Rattle.rules.specs.Rule.{Rule, public, rule_of, names, creates}
use Rattle.rules.specs.Tests.{State, record_of, no_report_room, no_line_room, unsound, outer_tests, inner_tests, rule_tests, no_place, asked_tests, request_number, bad_report, report_number, text_inner_tests, text_number, no_ack_room, packet_inner_tests, packet_number, tick_number}
use Rattle.rules.specs.TextRule.{text_rule_of, failure}
use Rattle.rules.specs.PacketRule.{packet_row_of}
use Rattle.packets.specs.Types.{known_type, too_few}
use Rattle.rules.specs.Window.{Buffers}
use Rattle.rules.specs.Access.{alone, Access, Place, nowhere, at_process, Turn, number_at, refuses, reached, taken}
use Rattle.rules.specs.Step.{answers, local_of, granted_named, granted_create, granted, refused, request_step, told, notice_to, notified, report_step, text_step, stored, packet_step, ticked_state, tick_step}
use Rattle.rules.specs.Turn.{cant_bytes, rule_access, create_access, place_tests, request_place, message_tests, request_turn, report_access, report_turn, store_access, store_turn, text_access, text_turn, packet_access, packet_turn, tick_access, tick_turn, single}
use Rattle.rules.proofs.NumberLaws.{or_else, or_else-assoc, first-append}

-- the number that is found at a place
unfoldable pub place_number : Place → State → ℕ
place_number (nowhere output) s = 0
place_number (at_process p a) s = number_at a (local_of s p)

-- the number of a call
unfoldable pub turn_number : Turn → State → ℕ
turn_number t s = or_else (first_failing t.tests) (place_number t.place s)

-- ---- requests

seven : (t u : Bool) (n : ℕ) → or_else (cond (not t) 7 0) (cond (not u) 7 n) ≡ cond (not (t && u)) 7 n
seven true true n = refl
seven true false n = refl
seven false u n = refl

-- whichever tests the rows list
named-number : (t : Bool) (r : Rule) (h : Header) (string : List ℕ) (l : Local)
    → or_else (cond (not t) 7 0) (number_at (rule_access r h string) l) ≡ cond (not (t && l.process.there)) 7 (first_failing (rule_tests r h l.process))
unfolding number_at rule_access first_failing public
named-number t r h string l =
    let p = l.process in
    ap (or_else (cond (not t) 7 0)) (sym (first-append (test 7 (not p.there) ∷ outer_tests r h (public p)) (inner_tests r h p) refl))
    ∙ seven t p.there (first_failing (rule_tests r h p))

or-none : (t : Bool) → or_else (cond t 13 0) 0 ≡ cond t 13 0
or-none true = refl
or-none false = refl

module _ (h : Header) (string : List ℕ) (s : State) where
  pub asked-number : or_else (first_failing (place_tests h s)) (place_number (request_place h string s) s) ≡ first_failing (asked_tests h s)
  unfolding place_tests request_place asked_tests place_number number_at first_failing rule_access create_access public
  asked-number = go (names h.cmd) refl (creates h.cmd) refl
    where
      go : (t : Bool) → names h.cmd ≡ t → (u : Bool) → creates h.cmd ≡ u
          → or_else (first_failing (place_tests h s)) (place_number (request_place h string s) s) ≡ first_failing (asked_tests h s)
      go true e u i = rw e (named-number (ltb h.pid 8) (rule_of h.cmd) h string (local_of s h.pid))
      go false e true i = rw (e, i) (or-none (no_place h s))
      go false e false i = rw (e, i)

pub request-number : (m buffer : List ℕ) (s : State) → turn_number (request_turn m buffer s) s ≡ request_number s m buffer
unfolding turn_number request_turn request_number
request-number m buffer s =
    rw (first-append (message_tests s m buffer) (place_tests (header_of m) s) refl, first-append (message_tests s m buffer) (asked_tests (header_of m) s) refl)
    (or_else-assoc (first_failing (message_tests s m buffer)) (first_failing (place_tests (header_of m) s)) (place_number (request_place (header_of m) (string_of m) s) s)
    ∙ ap (or_else (first_failing (message_tests s m buffer))) (asked-number (header_of m) (string_of m) s))

-- the bytes of a refusal, laid over the buffer
cant-over : (t : Bool) (bytes buffer : List ℕ) → overlay (cond t [] bytes) buffer ≡ cond t buffer (overlay bytes buffer)
unfolding overlay
cant-over true bytes buffer = refl
cant-over false bytes buffer = refl

module _ (m buffer : List ℕ) (s : State) where
  abbrev turn : Turn
  turn = request_turn m buffer s

  request-refused : eqb (request_number s m buffer) 0 ≡ false
      → request_step m buffer s ≡ record { answer = refuses (request_number s m buffer) (cant_bytes (header_of m) (request_number s m buffer)) (single buffer); after = s }
  unfolding request_step refused cant_bytes
  request-refused e = rw (e, cant-over (ltb (request_number s m buffer) 7) (written (cant_of (header_of m)) []) buffer)

  request-place : request_number s m buffer ≡ place_number (request_place (header_of m) (string_of m) s) s
      → request_step m buffer s ≡ reached (request_place (header_of m) (string_of m) s) (single buffer) s
  unfolding request_step granted granted_named granted_create request_place place_number reached number_at first_failing create_access rule_access overlay
  request-place same = go (names (header_of m).cmd) refl (creates (header_of m).cmd) refl
    where
      h : Header
      h = header_of m

      near : (a : Access) (t : Bool) → eqb (number_at a (local_of s h.pid)) 0 ≡ t → a ≡ rule_access (rule_of h.cmd) h (string_of m)
          → names h.cmd ≡ true → request_number s m buffer ≡ number_at a (local_of s h.pid) → request_step m buffer s ≡ reached (at_process h.pid a) (single buffer) s
      near a true e i n number = rw (number, e, n, i, length-written ((rule_of h.cmd).header h (local_of s h.pid)) ((rule_of h.cmd).shown h (local_of s h.pid)))
      near a false e i n number = request-refused (rw number e) ∙ rw (number, e, i)

      go : (t : Bool) → names (header_of m).cmd ≡ t → (u : Bool) → creates (header_of m).cmd ≡ u
          → request_step m buffer s ≡ reached (request_place (header_of m) (string_of m) s) (single buffer) s
      go true n u c =
          let a = rule_access (rule_of h.cmd) h (string_of m) in
          let here : request_place h (string_of m) s ≡ at_process h.pid a = rw n in
          near a (eqb (number_at a (local_of s h.pid)) 0) refl refl n (same ∙ ap (λ (x : Place). place_number x s) here) ∙ sym (ap (λ (x : Place). reached x (single buffer) s) here)
      go false n true c = let zero : request_number s m buffer ≡ 0 = rw (n, c) at same in rw (zero, n, c, length-written (created_of h (lowest_absent s.records)) [])
      go false n false c = let zero : request_number s m buffer ≡ 0 = rw (n, c) at same in rw (zero, n, c, length-written h [])

  pub request-turn : request_step m buffer s ≡ taken (request_turn m buffer s) (single buffer) s
  unfolding taken turn_number request_turn cant_bytes
  request-turn = go (eqb (first_failing turn.tests) 0) refl
    where
      number : request_number s m buffer ≡ or_else (first_failing turn.tests) (place_number turn.place s)
      number = sym (request-number m buffer s)

      go : (t : Bool) → eqb (first_failing turn.tests) 0 ≡ t → request_step m buffer s ≡ taken (request_turn m buffer s) (single buffer) s
      go true e = rw e (request-place (rw e at number))
      go false e = let same : request_number s m buffer ≡ first_failing turn.tests = rw e at number in rw e (rw same at (request-refused (rw same e)))

-- ---- reports

report-tests : (a b c t u v : Bool)
    → or_else (cond a 1 (cond b 2 (cond c 14 (cond (not t) 7 0)))) (or_else (cond (not u) 7 0) (cond v 9 0)) ≡ cond a 1 (cond b 2 (cond c 14 (cond (not (t && u)) 7 (cond v 9 0))))
report-tests true b c t u v = refl
report-tests false true c t u v = refl
report-tests false false true t u v = refl
report-tests false false false false u v = refl
report-tests false false false true false v = refl
report-tests false false false true true v = refl

module _ (p kind reason : ℕ) (words buffer line : List ℕ) (s : State) where
  abbrev lent : Buffers
  lent = record { own = buffer; line = line }

  pub report-number : turn_number (report_turn p kind reason words buffer line s) s ≡ report_number s p kind reason buffer line
  unfolding turn_number report_turn place_number number_at report_access first_failing report_number public
  report-number =
      report-tests (no_report_room s.memory buffer line) (unsound s) (bad_report kind reason) (ltb p 8) (record_of s p).there (not (accepts kind (record_of s p).run))

  report-refused : eqb (report_number s p kind reason buffer line) 0 ≡ false
      → report_step p kind reason words buffer line s ≡ record { answer = refuses (report_number s p kind reason buffer line) [] lent; after = s }
  unfolding report_step overlay
  report-refused e = rw e

  abbrev access : Access
  access = report_access p kind reason words

  report-place : report_number s p kind reason buffer line ≡ number_at access (local_of s p) → report_step p kind reason words buffer line s ≡ reached (at_process p access) lent s
  unfolding report_step notified notice_to reached report_access overlay
  report-place same = go (eqb (number_at access (local_of s p)) 0) refl (told kind words (local_of s p)) refl
    where
      go : (t : Bool) → eqb (number_at access (local_of s p)) 0 ≡ t → (u : Bool) → told kind words (local_of s p) ≡ u → report_step p kind reason words buffer line s ≡ reached (at_process p access) lent s
      go true e true i = rw (same, e, i, length-written (notice_of (recipient_of kind words (local_of s p)) kind p reason) (low_first words))
      go true e false i = rw (same, e, i)
      go false e u i = report-refused (rw same e) ∙ rw (same, e)

  pub report-turn : report_step p kind reason words buffer line s ≡ taken (report_turn p kind reason words buffer line s) lent s
  unfolding taken turn_number report_turn overlay place_number
  report-turn = go (eqb (first_failing turn.tests) 0) refl
    where
      turn : Turn
      turn = report_turn p kind reason words buffer line s

      number : report_number s p kind reason buffer line ≡ or_else (first_failing turn.tests) (place_number turn.place s)
      number = sym report-number

      go : (t : Bool) → eqb (first_failing turn.tests) 0 ≡ t → report_step p kind reason words buffer line s ≡ taken (report_turn p kind reason words buffer line s) lent s
      go true e = rw e (report-place (rw e at number))
      go false e = let same : report_number s p kind reason buffer line ≡ first_failing turn.tests = rw e at number in rw e (rw same at (report-refused (rw same e)))

-- ---- text lines

text-tests : (a b c d t u v : Bool) (n : ℕ)
    → or_else (cond a 1 (cond b 2 (cond c 6 (cond d 122 (cond (not t) 103 0))))) (or_else (cond (not u) 103 (cond v 101 0)) n)
    ≡ cond a 1 (cond b 2 (cond c 6 (cond d 122 (cond (not (t && u)) 103 (cond v 101 n)))))
text-tests true b c d t u v n = refl
text-tests false true c d t u v n = refl
text-tests false false true d t u v n = refl
text-tests false false false true t u v n = refl
text-tests false false false false false u v n = refl
text-tests false false false false true false v n = refl
text-tests false false false false true true true n = refl
text-tests false false false false true true false n = refl

module _ (text buffer : List ℕ) (s : State) where
  abbrev asked : Line
  asked = line_of text

  abbrev named : Local
  named = local_of s asked.pid

  pub text-number : turn_number (text_turn text buffer s) s ≡ text_number s text buffer
  unfolding turn_number text_turn place_number number_at text_access first_failing text_number public
  text-number =
      text-tests (no_line_room s.memory buffer) (unsound s) (not asked.headed) (not asked.whole) (ltb asked.pid 8) named.process.there
      (not ((text_rule_of asked.letter).right (public named.process))) (first_failing (text_inner_tests asked named.process))

  text-refused : eqb (text_number s text buffer) 0 ≡ false
      → text_step text buffer s ≡ record { answer = refuses (text_number s text buffer) (failure asked (text_number s text buffer)) (single buffer); after = s }
  unfolding text_step
  text-refused e = rw e

  text-place : text_number s text buffer ≡ number_at (text_access asked) named → text_step text buffer s ≡ reached (at_process asked.pid (text_access asked)) (single buffer) s
  unfolding text_step reached text_access overlay
  text-place same = go (eqb (number_at (text_access asked) named) 0) refl
    where
      go : (t : Bool) → eqb (number_at (text_access asked) named) 0 ≡ t → text_step text buffer s ≡ reached (at_process asked.pid (text_access asked)) (single buffer) s
      go true e = rw (same, e)
      go false e = text-refused (rw same e) ∙ rw (same, e)

  pub text-turn : text_step text buffer s ≡ taken (text_turn text buffer s) (single buffer) s
  unfolding taken turn_number text_turn place_number
  text-turn = go (eqb (first_failing turn.tests) 0) refl
    where
      turn : Turn
      turn = text_turn text buffer s

      number : text_number s text buffer ≡ or_else (first_failing turn.tests) (place_number turn.place s)
      number = sym text-number

      go : (t : Bool) → eqb (first_failing turn.tests) 0 ≡ t → text_step text buffer s ≡ taken (text_turn text buffer s) (single buffer) s
      go true e = rw e (text-place (rw e at number))
      go false e = let same : text_number s text buffer ≡ first_failing turn.tests = rw e at number in rw e (rw same at (text-refused (rw same e)))

-- ---- stores

pub store-turn : (p a v : ℕ) (s : State) → answers (outcome 0 0) [] (stored p a v s) ≡ taken (store_turn p a v) (single []) s
unfolding stored taken store_turn reached store_access number_at first_failing overlay
store-turn p a v s = go (ltb p 8) refl
  where
    go : (t : Bool) → ltb p 8 ≡ t → answers (outcome 0 0) [] (stored p a v s) ≡ taken (store_turn p a v) (single []) s
    go true e = rw e
    go false e = rw e

pub store-number : (p a v : ℕ) (s : State) → turn_number (store_turn p a v) s ≡ 0
unfolding turn_number store_turn place_number number_at store_access first_failing
store-number p a v s = go (ltb p 8)
  where
    go : (t : Bool) → place_number (cond t (at_process p (store_access a v)) (nowhere (alone []))) s ≡ 0
    go true = refl
    go false = refl

-- ---- packets

packet-tests : (a b c d t u v : Bool) (n : ℕ)
    → or_else (cond a 1 (cond b 2 (cond c 3 (cond d 5 (cond (not t) 7 0))))) (or_else (cond (not u) 7 (cond v 8 0)) n)
    ≡ cond a 1 (cond b 2 (cond c 3 (cond d 5 (cond (not (t && u)) 7 (cond v 8 n)))))
packet-tests true b c d t u v n = refl
packet-tests false true c d t u v n = refl
packet-tests false false true d t u v n = refl
packet-tests false false false true t u v n = refl
packet-tests false false false false false u v n = refl
packet-tests false false false false true false v n = refl
packet-tests false false false false true true true n = refl
packet-tests false false false false true true false n = refl

module _ (door kind id : ℕ) (words buffer : List ℕ) (s : State) where
  abbrev sent : Local
  sent = local_of s door

  abbrev packet_to : Access
  packet_to = packet_access kind id words

  pub packet-number : turn_number (packet_turn door kind id words buffer s) s ≡ packet_number s door kind words buffer
  unfolding turn_number packet_turn place_number number_at packet_access first_failing packet_number public
  packet-number =
      packet-tests (no_ack_room s.memory buffer) (unsound s) (too_few kind words) (not (known_type kind)) (ltb door 8) sent.process.there
      (not ((packet_row_of kind).right (public sent.process))) (first_failing (packet_inner_tests kind words sent.process))

  packet-refused : eqb (packet_number s door kind words buffer) 0 ≡ false
      → packet_step door kind id words buffer s ≡ record { answer = refuses (packet_number s door kind words buffer) [] (single buffer); after = s }
  unfolding packet_step overlay
  packet-refused e = rw e

  packet-place : packet_number s door kind words buffer ≡ number_at packet_to sent
      → packet_step door kind id words buffer s ≡ reached (at_process door packet_to) (single buffer) s
  unfolding packet_step reached packet_access overlay
  packet-place same = go (eqb (number_at packet_to sent) 0) refl
    where
      go : (t : Bool) → eqb (number_at packet_to sent) 0 ≡ t → packet_step door kind id words buffer s ≡ reached (at_process door packet_to) (single buffer) s
      go true e = rw (same, e)
      go false e = packet-refused (rw same e) ∙ rw (same, e)

  pub packet-turn : packet_step door kind id words buffer s ≡ taken (packet_turn door kind id words buffer s) (single buffer) s
  unfolding taken turn_number packet_turn place_number
  packet-turn = go (eqb (first_failing turn.tests) 0) refl
    where
      turn : Turn
      turn = packet_turn door kind id words buffer s

      number : packet_number s door kind words buffer ≡ or_else (first_failing turn.tests) (place_number turn.place s)
      number = sym packet-number

      go : (t : Bool) → eqb (first_failing turn.tests) 0 ≡ t → packet_step door kind id words buffer s ≡ taken (packet_turn door kind id words buffer s) (single buffer) s
      go true e = rw e (packet-place (rw e at number))
      go false e = let same : packet_number s door kind words buffer ≡ first_failing turn.tests = rw e at number in rw e (rw same at (packet-refused (rw same e)))

-- ---- ticks

pub tick-turn : (door : ℕ) (s : State) → tick_step door s ≡ taken (tick_turn door s) (single []) s
unfolding tick_step ticked_state tick_number taken tick_turn reached tick_access number_at first_failing overlay
tick-turn door s = go (unsound s) refl (ltb door 8) refl
  where
    go : (u : Bool) → unsound s ≡ u → (t : Bool) → ltb door 8 ≡ t → tick_step door s ≡ taken (tick_turn door s) (single []) s
    go true i t e = rw i
    go false i true e = rw (i, e)
    go false i false e = rw (i, e)

pub tick-number : (door : ℕ) (s : State) → turn_number (tick_turn door s) s ≡ tick_number s
unfolding turn_number tick_turn place_number number_at tick_access first_failing tick_number
tick-number door s = go (unsound s) (ltb door 8)
  where
    go : (u t : Bool) → or_else (cond u 2 0) (place_number (cond t (at_process door tick_access) (nowhere (alone []))) s) ≡ cond u 2 0
    go true t = refl
    go false true = refl
    go false false = refl
