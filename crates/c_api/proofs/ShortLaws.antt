-- No call grants more than a signed number holds: what it wrote is in its buffer, and a report's two lengths are small. Assumes nothing.
use Rattle.std.proofs.Common.{Ok, Err}
use mathlib.Core.Path.{◌≡◌, refl}
use mathlib.Core.Bool.{Bool, true, false, cond, true≢false}
use mathlib.Core.List.{List}
use Prim.Native.Nat.{ℕ, ◌+◌, ◌*◌, ◌≤◌, ◌<◌}
use native.Mathlib.Omega.{arith}
use borrow.Author.Tests.{eqb-true, ltb-true, not-false}
use lib.ListN.{length, drop, length-append}
use lib.Dec.{eqb}
use Rattle.lists.specs.Buffer.{overlay}
use Rattle.lists.specs.Word.{vector_of}
use Rattle.lists.proofs.Bool.{&&-left}
use Rattle.lists.proofs.Word.{length-low_first}
use Rattle.format.specs.Outcome.{Outcome}
use Rattle.format.specs.Outcome.{outcome, length_of, is_granted, first_failing}
use Rattle.format.proofs.OutcomeLaws.{length_of-none, first_passes, rest-passes}
use Rattle.fields.specs.Written.{line_bytes}
use Rattle.fields.proofs.WriteLaws.{short-line}
use Rattle.run_state.specs.ReportKind.{TRAP, HALT}
use Rattle.session.specs.declared.Owed.{Owed}
use Rattle.session.specs.Session.{owes}
use Rattle.process.specs.Report.{answer_of}
use Rattle.rules.specs.TextRule.{status_of, owed_line}
use Rattle.rules.specs.Tests.{State, lent, report_number}
use Rattle.rules.specs.Window.{Buffers}
use Rattle.rules.specs.Access.{Place, nowhere, at_process, Turn, number_at, reached, taken}
use Rattle.rules.specs.Step.{Answer, StepResult, Call, report, step, local_of, told, notice_to, notified, report_step}
use Rattle.rules.specs.Turn.{turn_of, buffers_of}
use Rattle.rules.proofs.LawfulLaws.{lawful}
use Rattle.rules.proofs.NumberLaws.{by-test}
use Rattle.state_bytes.specs.State.{state_of, state_formed}
use Rattle.gateway.specs.Called.{Called, lent_on, badly_lent, finished, call_on}
use Rattle.c_api.specs.Called.{Short, both_lengths}

-- what is refused has no length
pub refused-short : (n : ℕ) → Short (outcome n 0)
refused-short n = rw (length_of-none n) (omega arith)

-- ---- any call

-- the length that is told lies within the buffer
abbrev Within : Answer → Type 0
Within a = length_of a.outcome ≤ length a.buffer

abbrev WithinStep : StepResult → Type 0
WithinStep x = Within x.answer

laid-within : (xs buffer : List ℕ) → length xs ≤ length (overlay xs buffer)
unfolding overlay
laid-within xs buffer = omega (arith, length-append xs (drop (length xs) buffer))

refused-within : (n : ℕ) (buffer : List ℕ) → length_of (outcome n 0) ≤ length buffer
refused-within n buffer = rw (length_of-none n) (omega arith)

reached-within : (place : Place) (b : Buffers) (s : State) → WithinStep (reached place b s)
unfolding reached length_of
reached-within (nowhere output) b s = laid-within output.own b.own
reached-within (at_process p a) b s =
    by-test WithinStep (eqb (number_at a (local_of s p)) 0) (λ e. laid-within (a.reply (local_of s p)).own b.own)
    (λ e. refused-within (number_at a (local_of s p)) (overlay (a.refusal (local_of s p) (number_at a (local_of s p))) b.own))

taken-within : (t : Turn) (b : Buffers) (s : State) → WithinStep (taken t b s)
unfolding taken
taken-within t b s =
    by-test WithinStep (eqb (first_failing t.tests) 0) (λ e. reached-within t.place b s)
    (λ e. refused-within (first_failing t.tests) (overlay (t.refusal (first_failing t.tests)) b.own))

step-within : (s : State) (c : Call) → WithinStep (step s c)
step-within s c = rw ((lawful c).turn s) (taken-within (turn_of s c) (buffers_of c) s)

pub call-within : (state memory : List ℕ) (c : Call) → length_of (call_on state memory c).outcome ≤ length (call_on state memory c).buffer
unfolding call_on finished
call-within state memory c =
    by-test (λ (x : Called). length_of x.outcome ≤ length x.buffer) (state_formed state) (λ f. step-within (lent (state_of state) memory) c)
    (λ f. refused-within (lent_on state (badly_lent memory c)) (buffers_of c).own)

-- ---- a report

-- its two lengths, which go into one number; a refused one has no line
pub record Small (o : Outcome) (line : ℕ) : Type 0 where
  pub own : length_of o < 256
  pub line-short : line ≤ line_bytes
  pub silent : is_granted o ≡ false → line ≡ 0

-- so the one number is no greater than a signed one holds
pub both-short : (o : Outcome) (line : ℕ) → Small o line → Short (both_lengths o line)
unfolding both_lengths length_of
both-short (Ok n) line f = let own = f.own in let short = f.line-short in omega arith
both-short (Err r) line f = omega arith

small-refused : (n : ℕ) → Small (outcome n 0) 0
small-refused n = record { own = rw (length_of-none n) (omega arith); line-short = omega arith; silent = λ e. refl }

status-small : (kind : ℕ) → status_of kind < 4294967296
unfolding status_of
status-small kind = go (eqb kind HALT) (eqb kind TRAP)
  where
    go : (a b : Bool) → cond a 0 (127 + 256 * cond b 4 5) < 4294967296
    go true b = omega arith
    go false true = omega arith
    go false false = omega arith

owed-short : (p kind : ℕ) (owed : Owed) → p < 8 → length (owed_line p kind owed) ≤ line_bytes
unfolding owed_line
owed-short p kind owed low =
    by-test (λ (xs : List ℕ). length xs ≤ line_bytes) (owes owed) (λ e. short-line _ (omega (arith, low)) (omega arith) (status-small kind)) (λ e. omega arith)

-- an accepted report is about one of the eight processes
report-low : (s : State) (p kind reason : ℕ) (notice line : List ℕ) → report_number s p kind reason notice line ≡ 0 → p < 8
unfolding report_number
report-low s p kind reason notice line e =
    ltb-true p 8 (&&-left _ _ (not-false _ (first_passes 6 _ _ (rest-passes 13 _ _ (rest-passes 1 _ _ (rest-passes 0 _ _ e))))))

pub report_step-small : (p kind reason : ℕ) (words notice line : List ℕ) (s : State) → length words ≡ 9
    → Small (report_step p kind reason words notice line s).answer.outcome (report_step p kind reason words notice line s).answer.line_length
unfolding report_step notified notice_to length_of is_granted
report_step-small p kind reason words notice line s nine =
    by-test (λ (x : StepResult). Small x.answer.outcome x.answer.line_length) (eqb (report_number s p kind reason notice line) 0)
    (λ e. let short = owed-short p kind (answer_of kind words (local_of s p)) (report-low s p kind reason notice line (eqb-true _ 0 e)) in
    by-test (λ (a : Answer). Small a.outcome (length (owed_line p kind (answer_of kind words (local_of s p))))) (told kind words (local_of s p))
    (λ t. record { own = omega (arith, length-low_first words, nine); line-short = short; silent = λ g. absurd (true≢false g) })
    (λ t. record { own = omega arith; line-short = short; silent = λ g. absurd (true≢false g) }))
    (λ e. small-refused (report_number s p kind reason notice line))

pub report-small : (state memory : List ℕ) (p kind reason : ℕ) (words notice line : List ℕ) → length words ≡ 9
    → Small (call_on state memory (report p kind reason words notice line)).outcome (call_on state memory (report p kind reason words notice line)).line_length
unfolding call_on finished step
report-small state memory p kind reason words notice line nine =
    by-test (λ (x : Called). Small x.outcome x.line_length) (state_formed state)
    (λ f. report_step-small p kind reason words notice line (lent (state_of state) memory) nine) (λ f. small-refused (lent_on state (badly_lent memory (report p kind reason words notice line))))

-- words that are read are nine
pub nine_words : (m : List ℕ) → length (vector_of m) ≡ 9
unfolding vector_of
nine_words m = refl
