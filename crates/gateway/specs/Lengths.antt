-- How much of its output buffer a call wrote.
use Rattle.std.specs.Prelude.{◌≡◌, cond, List, ℕ, ◌+◌, length, take, drop, ltb, eqb}
use Rattle.lists.specs.First.{first}
use Rattle.format.specs.Outcome.{Outcome}
use Rattle.format.specs.Outcome.{number_of, length_of}
use Rattle.rules.specs.Tests.{State}
use Rattle.rules.specs.Step.{Answer, request_step, report_step, text_step}
use Rattle.format.specs.Sizes.{header_bytes}

-- of a request: the reply; from number 7 on the ten bytes of the CAN'T; else nothing
unfoldable pub reply_length : Outcome → ℕ
reply_length o = cond (ltb (number_of o) 7) (length_of o) header_bytes

-- of a report: the notice, or nothing
unfoldable pub notice_length : Outcome → ℕ
notice_length o = length_of o

-- the index after the first newline
unfoldable pub after_newline : List ℕ → ℕ
after_newline buffer = first (λ (c : ℕ). eqb c 10) buffer + 1

-- of a text line: the line that answers it at once; from number 100 on the line with the flag, up to its newline; else nothing
unfoldable pub line_length : Outcome → List ℕ → ℕ
line_length o buffer = cond (ltb (number_of o) 100) (length_of o) (after_newline buffer)

-- what stands in the buffer as far as a length of the outcome reaches
abbrev pub front : (Outcome → ℕ) → Answer → List ℕ
front count a = take (count a.outcome) a.buffer

-- the same of the answer to a text line
abbrev pub text_length : Answer → ℕ
text_length a = line_length a.outcome a.buffer

-- these lengths are how much of its buffer a call wrote
pub record Lengths : Type 0 where
  -- after that many bytes the buffer is what it was
  pub request-behind : (s : State) (m buffer : List ℕ)
      → drop (reply_length (request_step m buffer s).answer.outcome) (request_step m buffer s).answer.buffer
      ≡ drop (reply_length (request_step m buffer s).answer.outcome) buffer
  pub report-behind : (s : State) (p kind reason : ℕ) (words buffer line : List ℕ)
      → drop (notice_length (report_step p kind reason words buffer line s).answer.outcome) (report_step p kind reason words buffer line s).answer.buffer
      ≡ drop (notice_length (report_step p kind reason words buffer line s).answer.outcome) buffer
  pub line-behind : (s : State) (text buffer : List ℕ)
      → drop (text_length (text_step text buffer s).answer) (text_step text buffer s).answer.buffer ≡ drop (text_length (text_step text buffer s).answer) buffer
  -- and that many bytes are the same whatever stood in the buffer
  pub request-front : (s : State) (m b c : List ℕ) → length b ≡ length c
      → front reply_length (request_step m b s).answer ≡ front reply_length (request_step m c s).answer
  pub report-front : (s : State) (p kind reason : ℕ) (words b c line : List ℕ) → length b ≡ length c
      → front notice_length (report_step p kind reason words b line s).answer ≡ front notice_length (report_step p kind reason words c line s).answer
  pub line-front : (s : State) (text b c : List ℕ) → length b ≡ length c
      → take (text_length (text_step text b s).answer) (text_step text b s).answer.buffer
      ≡ take (text_length (text_step text c s).answer) (text_step text c s).answer.buffer
  -- both hold of the line beside a notice
  pub report-line-behind : (s : State) (p kind reason : ℕ) (words buffer line : List ℕ)
      → drop (report_step p kind reason words buffer line s).answer.line_length (report_step p kind reason words buffer line s).answer.line
      ≡ drop (report_step p kind reason words buffer line s).answer.line_length line
  pub report-line-front : (s : State) (p kind reason : ℕ) (words buffer b c : List ℕ) → length b ≡ length c
      → take (report_step p kind reason words buffer b s).answer.line_length (report_step p kind reason words buffer b s).answer.line
      ≡ take (report_step p kind reason words buffer c s).answer.line_length (report_step p kind reason words buffer c s).answer.line
