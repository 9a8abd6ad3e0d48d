-- Why a request is refused, stage by stage: by the state, by its layout, or by what is asked of the state. Assumes nothing.
use Rattle.std.proofs.Common.{Ok, Err}
use mathlib.Core.Path.{◌≡◌, refl, sym, ◌∙◌}
use mathlib.Core.Bool.{Bool, true, false, cond}
use mathlib.Core.List.{List, []}
use Prim.Native.Nat.{ℕ}
use borrow.Author.Tests.{ne_eqb, le-ltb}
use lib.ListN.{length}
use Rattle.format.specs.declared.header.Header.{Header}
use Rattle.format.specs.Outcome.{refusal_by, first_failing}
use Rattle.ops.specs.Table.{request_form}
use Rattle.format.specs.Layout.{header_of, fixed_right}
use Rattle.format.specs.Refusal.{wrong_length, wrong_header, unknown, malformed}
use Rattle.format.proofs.OutcomeLaws.{message-header}
use Rattle.message.specs.Exchange.{read_number, reads}
use Rattle.reasons.specs.declared.Reason.{Reason}
use Rattle.reasons.specs.declared.Reason.TheVariants.{Granted, Other}
use Rattle.reasons.specs.Reason.{reason_number, facts_of, fact_count}
use Rattle.process.specs.declared.record.Process.{Process}
use Rattle.state.specs.Records.{process_at}
use Rattle.rules.specs.Tests.{State, lent, record_of, unsound, no_place, asked_tests}
use Rattle.rules.specs.Why.{reason_for, reason_without_process, why_number, why_of}
use Rattle.rules.proofs.NumberLaws.{or_else, by-test}
use Rattle.rules.proofs.WhyLaws.{fact-count}
use Rattle.why.specs.ForProcess.{why_for_process}
use Rattle.service.specs.declared.target.Target.TheVariants.{Named, OutOfRange, New, Nowhere}
use Rattle.state_bytes.specs.State.{state_of, state_formed, state_sound}
use Rattle.gateway.specs.Stage.{create_reason}
use Rattle.gateway.specs.Called.{why_on}
use Rattle.gateway.proofs.ReadyLaws.{sound-formed}
use Rattle.gateway.proofs.StageLaws.{staged, layout, Read, read-says}
use Rattle.gateway.proofs.AskedLaws.{Goes, number, number-asked}

-- the numbers of the layout have the same reason at a process and away from one
away-by : (c d e f : Bool) (n : ℕ) (h : Header) (count : ℕ) (p : Process) → n ≡ cond c 3 (cond d 4 (cond e 5 (cond f 6 0))) → (n ≡ 0 → ⊥)
    → reason_for n h count p ≡ reason_without_process n count
unfolding reason_for reason_without_process
away-by true d e f n h count p i z = rw i
away-by false true e f n h count p i z = rw i
away-by false false true f n h count p i z = rw i
away-by false false false true n h count p i z = rw i
away-by false false false false n h count p i z = absurd (z i)

-- what a query says does not depend on the memory
pub why-formed : (state memory m : List ℕ) → state_formed state ≡ true → why_on state m ≡ why_of (lent (state_of state) memory) m
unfolding why_on why_of why_number asked_tests
why-formed state memory m f = rw f

-- as many facts as go with the number
pub facts-on : (state m : List ℕ) → length (facts_of (why_on state m)) ≡ fact_count (reason_number (why_on state m))
unfolding why_on facts_of fact_count
facts-on state m = by-test (λ (r : Reason). length (facts_of r) ≡ fact_count (reason_number r)) (state_formed state) (λ f. fact-count (lent (state_of state) []) m) (λ f. refl)

module _ (state m : List ℕ) where
  abbrev s : State
  s = lent (state_of state) []

  -- bytes that are not a sound state's
  pub why-unsound : state_sound state ≡ false → why_on state m ≡ Other 2
  unfolding why_on state_sound why_of why_number reason_for first_failing
  why-unsound u = go (state_formed state) refl
    where
      go : (t : Bool) → state_formed state ≡ t → why_on state m ≡ Other 2
      go true f = rw (f, rw f at u)
      go false f = rw f

  module _ (sound : state_sound state ≡ true) where
    formed : why_on state m ≡ why_of s m
    formed = why-formed state [] m (sound-formed state sound)

    passes : unsound s ≡ false
    unfolding state_sound
    passes = rw (rw (sound-formed state sound) at sound)

    number_is : why_number s m ≡ or_else (read_number (request_form (header_of m).cmd) m) (first_failing (asked_tests (header_of m) s))
    unfolding why_number read_number first_failing
    number_is =
        staged false (unsound s) (wrong_length (length m)) (wrong_header (fixed_right m) (header_of m).host)
        (unknown (request_form (header_of m).cmd)) (malformed (request_form (header_of m).cmd) (header_of m) (length m)) (first_failing (asked_tests (header_of m) s))
        ∙ rw passes

    -- a message that is refused when it is read
    pub why-refused : (n : ℕ) → Err (refusal_by n) ≡ reads request_form m → why_on state m ≡ reason_without_process n (length m)
    unfolding why_of Read layout read_number first_failing
    why-refused n e =
        let r = read-says s m [] (Err (refusal_by n)) e in
        let number : why_number s m ≡ n = number_is ∙ rw (← r.0, ne_eqb n 0 r.1) in
        formed ∙ rw number
        (away-by (wrong_length (length m)) (wrong_header (fixed_right m) (header_of m).host) (unknown (request_form (header_of m).cmd))
        (malformed (request_form (header_of m).cmd) (header_of m) (length m)) n (header_of m) (length m) (record_of s (header_of m).pid) r.0 r.1)

    -- a message that was read
    module _ (h : Header) (e : Ok h ≡ reads request_form m) where
      asked : why_on state m ≡ reason_for (first_failing (asked_tests h s)) h (length m) (record_of s h.pid)
      unfolding why_of Read layout reads
      asked =
          let r = read-says s m [] (Ok h) e in
          let number : why_number s m ≡ first_failing (asked_tests (header_of m) s) = number_is ∙ rw r in
          formed ∙ rw (number, message-header (read_number (request_form (header_of m).cmd) m) (header_of m) h (sym e))

      pub why-named : (p : ℕ) → Goes h (Named p) → why_on state m ≡ why_for_process h (length m) (process_at (state_of state) p)
      unfolding why_for_process number
      why-named p g = asked ∙ rw (number-asked h [] [] s p g.0 g.2 (sym g.1), g.1)

      pub why-beyond : Goes h OutOfRange → why_on state m ≡ Other 7
      unfolding asked_tests first_failing reason_for
      why-beyond g = asked ∙ rw (g.0, le-ltb h.pid 8 g.1)

      pub why-new : Goes h New → why_on state m ≡ create_reason (no_place h s)
      unfolding asked_tests first_failing reason_for create_reason
      why-new g = asked ∙ rw (g.0, g.1) (go (no_place h s))
        where
          go : (t : Bool) → reason_for (cond t 13 0) h (length m) (record_of s h.pid) ≡ create_reason t
          go true = refl
          go false = refl

      pub why-nowhere : Goes h Nowhere → why_on state m ≡ Granted
      unfolding asked_tests first_failing reason_for
      why-nowhere g = asked ∙ rw (g.0, g.1)
