-- Demand 1: every call is answered by a number of the list, and a refusal changes nothing.
use Rattle.std.specs.Prelude.{◌≡◌, Bool, true, false, cond, ◌||◌, List, [], ◌∷◌, ◌⊎◌, ℕ, suc, length, drop, ltb, eqb}
use Rattle.lists.specs.Buffer.{overlay}
use Rattle.format.specs.Outcome.{outcome, number_of, Test}
use Rattle.format.specs.Layout.{written, header_of}
use Rattle.format.specs.Answer.{cant_of}
use Rattle.rules.specs.Tests.{State, tests_from2, request_tests, report_tests, text_tests, packet_tests, tick_tests}
use Rattle.rules.specs.Step.{Call, request, report, store, text_line, packet, tick, query, request_step, report_step, text_step, packet_step, step}
use Rattle.rules.specs.Turn.{buffers_of}
use Rattle.rules.specs.TextRule.{failure}
use Rattle.fields.specs.Read.{line_of}
use Rattle.rules.specs.Ready.{Ready, Worded, Typed}
use Rattle.rules.specs.Isolation.{is_granted}

-- the tests of a call, in their order; a store has none
unfoldable pub tests_of : State → Call → List Test
tests_of s (request m buffer) = request_tests s m buffer
tests_of s (report p kind reason words buffer line) = report_tests s p kind reason buffer line
tests_of s (store p x v) = []
tests_of s (text_line text buffer) = text_tests s text buffer
tests_of s (packet door kind id words buffer) = packet_tests s door kind words buffer
tests_of s (tick door) = tick_tests s
tests_of s (query m) = tests_from2 s m

-- 'Numbers returned': those of each call
unfoldable pub numbers_of : Call → List ℕ
numbers_of (request m buffer) = 0 ∷ 1 ∷ 2 ∷ 3 ∷ 4 ∷ 5 ∷ 6 ∷ 7 ∷ 8 ∷ 15 ∷ 9 ∷ 10 ∷ 11 ∷ 12 ∷ 16 ∷ 13 ∷ []
numbers_of (report p kind reason words buffer line) = 0 ∷ 1 ∷ 2 ∷ 14 ∷ 7 ∷ 9 ∷ []
numbers_of (store p x v) = 0 ∷ []
numbers_of (text_line text buffer) = 0 ∷ 1 ∷ 2 ∷ 6 ∷ 122 ∷ 103 ∷ 101 ∷ 116 ∷ 114 ∷ []
numbers_of (packet door kind id words buffer) = 0 ∷ 1 ∷ 2 ∷ 3 ∷ 5 ∷ 7 ∷ 8 ∷ 9 ∷ 10 ∷ []
numbers_of (tick door) = 0 ∷ 2 ∷ []
numbers_of (query m) = 0 ∷ 2 ∷ 3 ∷ 4 ∷ 5 ∷ 6 ∷ 7 ∷ 8 ∷ 15 ∷ 9 ∷ 10 ∷ 11 ∷ 12 ∷ 16 ∷ 13 ∷ []

-- the number is one of a list
abbrev pub one_of : List ℕ → ℕ → Bool
one_of [] n = false
one_of (k ∷ ks) n = eqb n k || one_of ks n

-- the number of the first test of a list that fails, or 0 where none does
unfoldable pub First : List Test → ℕ → Type 0
First [] n = n ≡ 0
First (t ∷ ts) n = ((t.fails ≡ true) × (n ≡ t.number)) ⊎ ((t.fails ≡ false) × First ts n)

-- the CAN'T of a message, laid over the start of the reply buffer
abbrev pub cant_over : List ℕ → List ℕ → List ℕ
cant_over m buffer = overlay (written (cant_of (header_of m)) []) buffer

-- demand 1
pub record Total : Type 0 where
  -- 'The lowest-numbered test that fails gives the answer; none is given otherwise.'; of a text line the first 'in that order'
  pub number : (s : State) (c : Call) → First (tests_of s c) (number_of (step s c).answer.outcome)
  -- 'Numbers returned': every number is one of the list
  pub listed : (s : State) (c : Call) → one_of (numbers_of c) (number_of (step s c).answer.outcome) ≡ true
  -- '0 is granted.'
  pub granted : (s : State) (c : Call) → number_of (step s c).answer.outcome ≡ 0 → is_granted (step s c).answer.outcome ≡ true
  -- 'State and memory are unchanged by a refusal'
  pub refused : (s : State) (c : Call) → (number_of (step s c).answer.outcome ≡ 0 → ⊥) → (step s c).after ≡ s
  -- 'buffer bytes past those written are never touched'
  pub past : (s : State) (c : Call) (n : ℕ) → (step s c).answer.outcome ≡ outcome 0 n → drop n (step s c).answer.buffer ≡ drop n (buffers_of c).own
  pub line-past : (s : State) (c : Call) → drop (step s c).answer.line_length (step s c).answer.line ≡ drop (step s c).answer.line_length (buffers_of c).line
  -- the column 'Written': nothing under 7, and the ten bytes of the CAN'T from 7 on; '15 and 16 with CAN'T'
  pub request-silent : (s : State) (m buffer : List ℕ) (n : ℕ) → (request_step m buffer s).answer.outcome ≡ outcome (suc n) 0
      → (request_step m buffer s).answer.buffer ≡ cond (ltb (suc n) 7) buffer (cant_over m buffer)
  pub cant-ten : (m : List ℕ) → length (written (cant_of (header_of m)) []) ≡ 10
  -- 'a refused one writes nothing at all'
  pub report-silent : (s : State) (p kind reason : ℕ) (words buffer line : List ℕ) (n : ℕ)
      → (report_step p kind reason words buffer line s).answer.outcome ≡ outcome (suc n) 0
      → (report_step p kind reason words buffer line s).answer ≡ record { outcome = outcome (suc n) 0; buffer = buffer; line_length = 0; line = line }
  -- a refused text line writes nothing under 100, and from 100 on one line 'with the flag 0xffffffff': 'demand 1 counts this line as the CAN'T reply'
  pub line-silent : (s : State) (text buffer : List ℕ) (n : ℕ) → (text_step text buffer s).answer.outcome ≡ outcome (suc n) 0
      → (text_step text buffer s).answer.buffer ≡ cond (ltb (suc n) 100) buffer (overlay (failure (line_of text) (suc n)) buffer)
  -- a refused packet: 'Refusals, all silent'
  pub packet-silent : (s : State) (door kind id : ℕ) (words buffer : List ℕ) (n : ℕ) → (packet_step door kind id words buffer s).answer.outcome ≡ outcome (suc n) 0
      → (packet_step door kind id words buffer s).answer.buffer ≡ buffer
  -- 'buffer bytes past those written are never touched', of a request and of a report
  pub request-past : (s : State) (m buffer : List ℕ) (n : ℕ) → (request_step m buffer s).answer.outcome ≡ outcome 0 n
      → drop n (request_step m buffer s).answer.buffer ≡ drop n buffer
  pub report-past : (s : State) (p kind reason : ℕ) (words buffer line : List ℕ) (n : ℕ) → (report_step p kind reason words buffer line s).answer.outcome ≡ outcome 0 n
      → drop n (report_step p kind reason words buffer line s).answer.buffer ≡ drop n buffer
  -- a sound state stays sound
  pub sound-stays : (s : State) → Ready s → (c : Call) → Ready (step s c).after
  -- and its vectors have nine words
  pub words-stay : (s : State) → Ready s → Worded s → (c : Call) → Typed c → Worded (step s c).after
