-- The lengths of an outcome count what a call wrote. Assumes nothing.
use Rattle.std.proofs.Common.{Ok, Err}
use mathlib.Core.Path.{◌≡◌, refl, sym, ap, ◌∙◌}
use mathlib.Core.Bool.{Bool, true, false, not, cond, true≢false}
use mathlib.Core.List.{List, []}
use Prim.Native.Nat.{ℕ, zero, suc}
use native.Mathlib.Omega.{arith}
use borrow.Author.Tests.{ne_eqb}
use lib.ListN.{length, take, drop}
use lib.Dec.{eqb, ltb}
use Rattle.lists.specs.Buffer.{overlay}
use Rattle.lists.specs.Word.{low_first}
use Rattle.lists.proofs.Buffer.{take-overlay, drop-overlay}
use Rattle.format.specs.declared.header.Header.{Header}
use Rattle.format.specs.Outcome.{Outcome}
use Rattle.format.specs.Outcome.{refusal_by, outcome, first_failing, number_of, length_of, is_granted}
use Rattle.format.specs.Layout.{written, header_of, string_of}
use Rattle.format.specs.Answer.{cant_of, created_of, notice_of}
use Rattle.format.proofs.LayoutLaws.{length-written}
use Rattle.format.proofs.OutcomeLaws.{number_of-outcome, length_of-none}
use Rattle.rules.specs.Rule.{rule_of, names, creates}
use Rattle.state.specs.Records.{lowest_absent}
use Rattle.fields.specs.declared.read.Line.{Line}
use Rattle.fields.specs.Read.{line_of}
use Rattle.fields.proofs.LineLaws.{reads-heads}
use Rattle.rules.specs.TextRule.{text_rule_of, failure, owed_line}
use Rattle.rules.specs.Tests.{State, no_line_room, unsound, request_number, report_number, text_number}
use Rattle.rules.specs.Step.{Answer, StepResult, plain_answer, local_of, replied, reply_of, granted_named, granted_create, granted, refused, request_step, notice_to, beside, notified, report_step, text_step, Call, request, report, step}
use Rattle.rules.specs.Turn.{buffers_of}
use Rattle.rules.specs.Total.{cant_over}
use Rattle.rules.proofs.NumberLaws.{by-test}
use Rattle.rules.proofs.TotalLaws.{total}
use Rattle.process.specs.Report.{recipient_of, answer_of}
use Rattle.gateway.specs.Lengths.{reply_length, notice_length, after_newline, line_length, front, text_length, Lengths}
use Rattle.gateway.proofs.NewlineLaws.{after-written}

-- ---- after what was written

-- no call is refused with 0
never-zero : (s : State) (c : Call) → (step s c).answer.outcome ≡ Err (refusal_by 0) → ⊥
unfolding number_of is_granted
never-zero s c e = true≢false (sym (total.granted s c (ap number_of e)) ∙ ap is_granted e)

module _ (s : State) (m buffer : List ℕ) where
  cant-behind : drop 10 (cant_over m buffer) ≡ drop 10 buffer
  cant-behind = rw (total.cant-ten m) at (drop-overlay (written (cant_of (header_of m)) []) buffer)

  refusal-behind : (t : Bool) → drop (cond t 0 10) (cond t buffer (cant_over m buffer)) ≡ drop (cond t 0 10) buffer
  refusal-behind true = refl
  refusal-behind false = cant-behind

  request-behind : (o : Outcome) → (request_step m buffer s).answer.outcome ≡ o → drop (reply_length o) (request_step m buffer s).answer.buffer ≡ drop (reply_length o) buffer
  unfolding reply_length number_of length_of step
  request-behind (Ok n) e = total.request-past s m buffer n e
  request-behind (Err r) e = go r.0 refl
    where
      go : (n : ℕ) → r.0 ≡ n → drop (reply_length (Err r)) (request_step m buffer s).answer.buffer ≡ drop (reply_length (Err r)) buffer
      go zero i = absurd (never-zero s (request m buffer) (e ∙ ap (λ (k : ℕ). Err (refusal_by k)) i))
      go (suc n) i = rw (total.request-silent s m buffer n (e ∙ ap (λ (k : ℕ). Err (refusal_by k)) i), i) (refusal-behind (ltb (suc n) 7))

module _ (s : State) (p kind reason : ℕ) (words buffer line : List ℕ) where
  report-behind : (o : Outcome) → (report_step p kind reason words buffer line s).answer.outcome ≡ o
      → drop (notice_length o) (report_step p kind reason words buffer line s).answer.buffer ≡ drop (notice_length o) buffer
  unfolding notice_length length_of step
  report-behind (Ok n) e = total.report-past s p kind reason words buffer line n e
  report-behind (Err r) e = go r.0 refl
    where
      go : (n : ℕ) → r.0 ≡ n → drop (notice_length (Err r)) (report_step p kind reason words buffer line s).answer.buffer ≡ drop (notice_length (Err r)) buffer
      go zero i = absurd (never-zero s (report p kind reason words buffer line) (e ∙ ap (λ (k : ℕ). Err (refusal_by k)) i))
      go (suc n) i = rw (total.report-silent s p kind reason words buffer line n (e ∙ ap (λ (k : ℕ). Err (refusal_by k)) i))

  report-line-behind : drop (report_step p kind reason words buffer line s).answer.line_length (report_step p kind reason words buffer line s).answer.line
      ≡ drop (report_step p kind reason words buffer line s).answer.line_length line
  unfolding step buffers_of
  report-line-behind = total.line-past s (report p kind reason words buffer line)

-- ---- what was written, over any buffer

written-front : (h : Header) (string buffer : List ℕ) → front reply_length (reply_of h string buffer) ≡ written h string
unfolding reply_length number_of length_of
written-front h string buffer = rw (← length-written h string) (take-overlay (written h string) buffer)

notice-front : (h : Header) (string buffer : List ℕ) → front notice_length (reply_of h string buffer) ≡ written h string
unfolding notice_length length_of
notice-front h string buffer = rw (← length-written h string) (take-overlay (written h string) buffer)

-- the bytes of a refusal
refusal-bytes : Bool → Header → List ℕ
refusal-bytes t h = cond t [] (written (cant_of h) [])

refused-front : (n : ℕ) (h : Header) (buffer : List ℕ) (s : State) → front reply_length (refused n h buffer s).answer ≡ refusal-bytes (ltb n 7) h
unfolding reply_length refused refusal-bytes
refused-front n h buffer s = rw (number_of-outcome n 0, length_of-none n) (go (ltb n 7))
  where
    go : (t : Bool) → take (cond t 0 10) (cond t buffer (overlay (written (cant_of h) []) buffer)) ≡ cond t [] (written (cant_of h) [])
    go true = refl
    go false = rw (length-written (cant_of h) []) at (take-overlay (written (cant_of h) []) buffer)

-- the bytes of a grant
granted_bytes : Header → List ℕ → State → List ℕ
granted_bytes h string s =
    cond (names h.cmd) (written ((rule_of h.cmd).header h (local_of s h.pid)) ((rule_of h.cmd).shown h (local_of s h.pid)))
    (cond (creates h.cmd) (written (created_of h (lowest_absent s.records)) []) (written h []))

granted-front : (h : Header) (string buffer : List ℕ) (s : State) → front reply_length (granted h string buffer s).answer ≡ granted_bytes h string s
unfolding granted granted_named granted_create granted_bytes
granted-front h string buffer s = go (names h.cmd) (creates h.cmd)
  where
    go : (t u : Bool) → front reply_length (cond t (granted_named h string buffer s) (cond u (granted_create h buffer s) (replied h [] buffer s))).answer
        ≡ cond t (written ((rule_of h.cmd).header h (local_of s h.pid)) ((rule_of h.cmd).shown h (local_of s h.pid))) (cond u (written (created_of h (lowest_absent s.records)) []) (written h []))
    go true u = written-front _ _ buffer
    go false true = written-front _ [] buffer
    go false false = written-front h [] buffer

same-request : (s : State) (m b c : List ℕ) → length b ≡ length c → request_number s m b ≡ request_number s m c
unfolding request_number
same-request s m b c e = rw e

request-front : (s : State) (m b c : List ℕ) → length b ≡ length c → front reply_length (request_step m b s).answer ≡ front reply_length (request_step m c s).answer
unfolding request_step
request-front s m b c e = rw (same-request s m b c e) (go (eqb (request_number s m c) 0))
  where
    go : (t : Bool) → front reply_length (cond t (granted (header_of m) (string_of m) b s) (refused (request_number s m c) (header_of m) b s)).answer
        ≡ front reply_length (cond t (granted (header_of m) (string_of m) c s) (refused (request_number s m c) (header_of m) c s)).answer
    go true = granted-front _ _ b s ∙ sym (granted-front _ _ c s)
    go false = refused-front _ _ b s ∙ sym (refused-front _ _ c s)

noticed-front : (host p kind reason : ℕ) (words b c : List ℕ)
    → front notice_length (notice_to host p kind reason words b) ≡ front notice_length (notice_to host p kind reason words c)
unfolding notice_to notice_length length_of
noticed-front host p kind reason words b c = go (not (eqb host 0))
  where
    go : (t : Bool) → front notice_length (cond t (reply_of (notice_of host kind p reason) (low_first words) b) (plain_answer (outcome 0 0) b))
        ≡ front notice_length (cond t (reply_of (notice_of host kind p reason) (low_first words) c) (plain_answer (outcome 0 0) c))
    go true = notice-front (notice_of host kind p reason) (low_first words) b ∙ sym (notice-front (notice_of host kind p reason) (low_first words) c)
    go false = refl

same-report : (s : State) (p kind reason : ℕ) (b c line other : List ℕ) → length b ≡ length c → length line ≡ length other
    → report_number s p kind reason b line ≡ report_number s p kind reason c other
unfolding report_number
same-report s p kind reason b c line other e i = rw (e, i)

module _ (s : State) (p kind reason : ℕ) (words : List ℕ) where
  -- a report, by its number
  reported-by : ℕ → List ℕ → List ℕ → Answer
  reported-by n buffer line =
      cond (eqb n 0) (notified p kind reason words buffer line (local_of s p)) (beside [] line (plain_answer (outcome n 0) buffer))

  answer-by : (buffer line : List ℕ) → (report_step p kind reason words buffer line s).answer ≡ reported-by (report_number s p kind reason buffer line) buffer line
  unfolding report_step reported-by
  answer-by buffer line = by-test (λ (x : StepResult). x.answer ≡ reported-by (report_number s p kind reason buffer line) buffer line) (eqb (report_number s p kind reason buffer line) 0)
      (λ e. rw e) (λ e. rw e)

  front_by : (n : ℕ) (b c line : List ℕ) → front notice_length (reported-by n b line) ≡ front notice_length (reported-by n c line)
  unfolding reported-by notified notice_length
  front_by n b c line = go (eqb n 0)
    where
      go : (t : Bool) → front notice_length (cond t (notified p kind reason words b line (local_of s p)) (beside [] line (plain_answer (outcome n 0) b)))
          ≡ front notice_length (cond t (notified p kind reason words c line (local_of s p)) (beside [] line (plain_answer (outcome n 0) c)))
      go true = noticed-front (recipient_of kind words (local_of s p)) p kind reason words b c
      go false = rw (length_of-none n)

  report-front : (b c line : List ℕ) → length b ≡ length c
      → front notice_length (report_step p kind reason words b line s).answer ≡ front notice_length (report_step p kind reason words c line s).answer
  report-front b c line e =
      ap (front notice_length) (answer-by b line) ∙ rw (same-report s p kind reason b c line line e refl) (front_by (report_number s p kind reason c line) b c line)
      ∙ ap (front notice_length) (sym (answer-by c line))

  -- the line that it sends, over any line buffer
  line-by : ℕ → List ℕ
  line-by n = cond (eqb n 0) (owed_line p kind (answer_of kind words (local_of s p))) []

  lines-by : (n : ℕ) (buffer line : List ℕ) → take (reported-by n buffer line).line_length (reported-by n buffer line).line ≡ line-by n
  unfolding reported-by notified line-by
  lines-by n buffer line = go (eqb n 0)
    where
      go : (t : Bool)
          → take (cond t (notified p kind reason words buffer line (local_of s p)) (beside [] line (plain_answer (outcome n 0) buffer))).line_length
          (cond t (notified p kind reason words buffer line (local_of s p)) (beside [] line (plain_answer (outcome n 0) buffer))).line
          ≡ cond t (owed_line p kind (answer_of kind words (local_of s p))) []
      go true = take-overlay (owed_line p kind (answer_of kind words (local_of s p))) line
      go false = refl

  report-line : (buffer line : List ℕ)
      → take (report_step p kind reason words buffer line s).answer.line_length (report_step p kind reason words buffer line s).answer.line
      ≡ line-by (report_number s p kind reason buffer line)
  report-line buffer line =
      ap (λ (a : Answer). take a.line_length a.line) (answer-by buffer line) ∙ lines-by (report_number s p kind reason buffer line) buffer line

  report-line-front : (buffer b c : List ℕ) → length b ≡ length c
      → take (report_step p kind reason words buffer b s).answer.line_length (report_step p kind reason words buffer b s).answer.line
      ≡ take (report_step p kind reason words buffer c s).answer.line_length (report_step p kind reason words buffer c s).answer.line
  report-line-front buffer b c e =
      report-line buffer b ∙ ap line-by (same-report s p kind reason buffer buffer b c refl e) ∙ sym (report-line buffer c)

-- ---- the answer to a text line

module _ (s : State) (text : List ℕ) where
  abbrev x : Line
  x = line_of text

  -- what is written, by the number
  line-bytes : ℕ → List ℕ
  line-bytes n = cond (eqb n 0) ((text_rule_of x.letter).reply x (local_of s x.pid)) (failure x n)

  answer-is : (buffer : List ℕ) (n : ℕ) → text_number s text buffer ≡ n
      → (text_step text buffer s).answer ≡ plain_answer (outcome n (length (line-bytes 0))) (overlay (line-bytes n) buffer)
  unfolding text_step line-bytes
  answer-is buffer zero e = rw e
  answer-is buffer (suc n) e = rw (e, ne_eqb (suc n) 0 (λ z. omega (arith, z)))

  -- from 100 on the line could be read so far that it has a letter
  headed-high : (buffer : List ℕ) → ltb (text_number s text buffer) 100 ≡ false → x.headed ≡ true
  unfolding text_number first_failing
  headed-high buffer h = go (no_line_room s.memory buffer) (unsound s) x.headed _ h
    where
      go : (a b t : Bool) (n : ℕ) → ltb (cond a 1 (cond b 2 (cond (not t) 6 n))) 100 ≡ false → t ≡ true
      go true b t n e = absurd (true≢false e)
      go false true t n e = absurd (true≢false e)
      go false false true n e = refl
      go false false false n e = absurd (true≢false e)

  failure-counted : (n : ℕ) (buffer : List ℕ) → (ltb n 100 ≡ false → x.headed ≡ true) → (t : Bool) → ltb n 100 ≡ t
      → cond t 0 (after_newline (overlay (failure x n) buffer)) ≡ length (failure x n)
  unfolding failure overlay
  failure-counted n buffer h true e = rw e
  failure-counted n buffer h false e = rw e (after-written _ (reads-heads.read-is-head text (h e)).2 _)

  bytes_counted : (n : ℕ) (buffer : List ℕ) → (ltb n 100 ≡ false → x.headed ≡ true)
      → line_length (outcome n (length (line-bytes 0))) (overlay (line-bytes n) buffer) ≡ length (line-bytes n)
  unfolding line_length number_of length_of line-bytes
  bytes_counted zero buffer h = refl
  bytes_counted (suc n) buffer h = rw (ne_eqb (suc n) 0 (λ z. omega (arith, z))) (failure-counted (suc n) buffer h (ltb (suc n) 100) refl)

  -- that many bytes are counted
  counted : (buffer : List ℕ) → text_length (text_step text buffer s).answer ≡ length (line-bytes (text_number s text buffer))
  counted buffer = rw (answer-is buffer (text_number s text buffer) refl) (bytes_counted (text_number s text buffer) buffer (headed-high buffer))

  laid : (buffer : List ℕ) → (text_step text buffer s).answer.buffer ≡ overlay (line-bytes (text_number s text buffer)) buffer
  laid buffer = ap (λ (a : Answer). a.buffer) (answer-is buffer (text_number s text buffer) refl)

  line-behind : (buffer : List ℕ)
      → drop (text_length (text_step text buffer s).answer) (text_step text buffer s).answer.buffer ≡ drop (text_length (text_step text buffer s).answer) buffer
  line-behind buffer = rw (counted buffer, laid buffer) (drop-overlay (line-bytes (text_number s text buffer)) buffer)

  same_line : (b c : List ℕ) → length b ≡ length c → text_number s text b ≡ text_number s text c
  unfolding text_number
  same_line b c e = rw e

  line-written : (buffer : List ℕ) → take (text_length (text_step text buffer s).answer) (text_step text buffer s).answer.buffer ≡ line-bytes (text_number s text buffer)
  line-written buffer = rw (counted buffer, laid buffer) (take-overlay (line-bytes (text_number s text buffer)) buffer)

  line-front : (b c : List ℕ) → length b ≡ length c
      → take (text_length (text_step text b s).answer) (text_step text b s).answer.buffer
      ≡ take (text_length (text_step text c s).answer) (text_step text c s).answer.buffer
  line-front b c e = line-written b ∙ ap line-bytes (same_line b c e) ∙ sym (line-written c)

pub lengths : Lengths
lengths = record {
  request-behind = λ s m buffer. request-behind s m buffer (request_step m buffer s).answer.outcome refl;
  report-behind = λ s p kind reason words buffer line. report-behind s p kind reason words buffer line (report_step p kind reason words buffer line s).answer.outcome refl;
  line-behind = line-behind;
  request-front = request-front;
  report-front = report-front;
  line-front = line-front;
  report-line-behind = report-line-behind;
  report-line-front = report-line-front;
}
