-- A report of numbers of any size is that of the bytes that stand for them. Assumes nothing.
use mathlib.Core.Path.{◌≡◌, refl, sym, ◌∙◌}
use mathlib.Core.Bool.{Bool, true, false, cond}
use mathlib.Core.List.{List, []}
use Prim.Native.Nat.{ℕ, ◌<◌, ◌≤◌, ◌%◌}
use native.Mathlib.Omega.{arith}
use native.Mathlib.Nat.{mod-eq_of_lt}
use borrow.Author.Tests.{ltb-true, ltb-false, lt-ltb, le-ltb, ne_eqb}
use lib.Dec.{ltb}
use Rattle.format.specs.Outcome.{outcome, first_failing}
use Rattle.rules.specs.Tests.{State, lent, no_report_room, unsound, bad_report, report_number}
use Rattle.rules.specs.Step.{StepResult, plain_answer, beside, report, step, report_step}
use Rattle.rules.specs.Turn.{buffers_of}
use Rattle.state_bytes.specs.State.{state_of}
use Rattle.gateway.specs.Called.{badly_lent, call_on}
use Rattle.c_api.specs.Called.{byte_of, kind_of}

-- a number is its byte, or has no room in one
pub same_byte : (n : ℕ) → n < 256 → byte_of n ≡ n
unfolding byte_of
same_byte n h = rw (lt-ltb n 256 h)

pub over-byte : (n : ℕ) → 256 ≤ n → byte_of n ≡ 255
unfolding byte_of
over-byte n h = rw (le-ltb n 256 h)

module _ (words buffer line : List ℕ) (s : State) where
  -- a report that is refused at the latest by 14 or by 7, whatever else is given
  refusal : ℕ → StepResult
  refusal number = record { answer = beside [] line (plain_answer (outcome number 0) buffer); after = s }

  by_number : (p kind reason n : ℕ) → report_number s p kind reason buffer line ≡ n → (n ≡ 0 → ⊥) → report_step p kind reason words buffer line s ≡ refusal n
  unfolding report_step refusal
  by_number p kind reason n e h = rw (e, ne_eqb n 0 h)

  -- the number of a report of no kind
  at_most14 : ℕ
  at_most14 = cond (no_report_room s.memory buffer line) 1 (cond (unsound s) 2 14)

  no_kind : (p kind reason : ℕ) → 3 < kind → report_step p kind reason words buffer line s ≡ refusal at_most14
  unfolding report_number first_failing at_most14
  no_kind p kind reason h = by_number p kind reason at_most14 (rw (lt-ltb 3 kind h)) (go (no_report_room s.memory buffer line) (unsound s))
    where
      go : (a b : Bool) → ◌≡◌ {A = ℕ} (cond a 1 (cond b 2 14)) 0 → ⊥
      go true b e = omega arith
      go false true e = omega arith
      go false false e = omega arith

  -- the number of a report about no process
  at_most7 : ℕ → ℕ → ℕ
  at_most7 kind reason = cond (no_report_room s.memory buffer line) 1 (cond (unsound s) 2 (cond (bad_report kind reason) 14 7))

  no-process : (p kind reason : ℕ) → 8 ≤ p → report_step p kind reason words buffer line s ≡ refusal (at_most7 kind reason)
  unfolding report_number first_failing at_most7
  no-process p kind reason h = by_number p kind reason (at_most7 kind reason) (rw (le-ltb p 8 h)) (go (no_report_room s.memory buffer line) (unsound s) (bad_report kind reason))
    where
      go : (a b c : Bool) → ◌≡◌ {A = ℕ} (cond a 1 (cond b 2 (cond c 14 7))) 0 → ⊥
      go true b c e = omega arith
      go false true c e = omega arith
      go false false true e = omega arith
      go false false false e = omega arith

  narrow-process : (p kind reason : ℕ) → report_step (byte_of p) kind reason words buffer line s ≡ report_step p kind reason words buffer line s
  narrow-process p kind reason = go (ltb p 256) refl
    where
      go : (t : Bool) → ltb p 256 ≡ t → report_step (byte_of p) kind reason words buffer line s ≡ report_step p kind reason words buffer line s
      go true e = rw (same_byte p (ltb-true p 256 e))
      go false e =
          let over : 256 ≤ p = ltb-false p 256 e in
          let b : 8 ≤ byte_of p = rw (over-byte p over) (omega arith) in
          no-process (byte_of p) kind reason b ∙ sym (no-process p kind reason (omega arith))

  narrow-kind : (p kind reason : ℕ) → report_step p (byte_of kind) reason words buffer line s ≡ report_step p kind reason words buffer line s
  narrow-kind p kind reason = go (ltb kind 256) refl
    where
      go : (t : Bool) → ltb kind 256 ≡ t → report_step p (byte_of kind) reason words buffer line s ≡ report_step p kind reason words buffer line s
      go true e = rw (same_byte kind (ltb-true kind 256 e))
      go false e =
          let over : 256 ≤ kind = ltb-false kind 256 e in
          let b : 3 < byte_of kind = rw (over-byte kind over) (omega arith) in
          no_kind p (byte_of kind) reason b ∙ sym (no_kind p kind reason (omega arith))

  over-reason : (kind reason : ℕ) → ltb reason 65536 ≡ false → 3 < kind_of kind reason
  unfolding kind_of
  over-reason kind reason e = rw e (omega arith)

  narrow-reason : (p kind reason : ℕ) → report_step p (kind_of kind reason) (reason % 65536) words buffer line s ≡ report_step p (kind_of kind reason) reason words buffer line s
  narrow-reason p kind reason = go (ltb reason 65536) refl
    where
      go : (t : Bool) → ltb reason 65536 ≡ t → report_step p (kind_of kind reason) (reason % 65536) words buffer line s ≡ report_step p (kind_of kind reason) reason words buffer line s
      go true e = rw (mod-eq_of_lt (ltb-true reason 65536 e))
      go false e =
          let b : 3 < kind_of kind reason = over-reason kind reason e in
          no_kind p (kind_of kind reason) (reason % 65536) b ∙ sym (no_kind p (kind_of kind reason) reason b)

  narrow_step : (p kind reason : ℕ) → report_step (byte_of p) (byte_of (kind_of kind reason)) (reason % 65536) words buffer line s ≡ report_step p (kind_of kind reason) reason words buffer line s
  narrow_step p kind reason =
      narrow-process p (byte_of (kind_of kind reason)) (reason % 65536) ∙ narrow-kind p (kind_of kind reason) (reason % 65536) ∙ narrow-reason p kind reason

-- and so on the bytes of a state
pub narrow-report : (state memory : List ℕ) (p kind reason : ℕ) (words buffer line : List ℕ)
    → call_on state memory (report (byte_of p) (byte_of (kind_of kind reason)) (reason % 65536) words buffer line)
    ≡ call_on state memory (report p (kind_of kind reason) reason words buffer line)
unfolding call_on step badly_lent buffers_of
narrow-report state memory p kind reason words buffer line = rw (narrow_step words buffer line (lent (state_of state) memory) p kind reason)
