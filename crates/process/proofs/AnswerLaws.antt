-- Laws of an owed answer: a report gives it where it stops or ends the process, and else it is owed still. Assumes nothing.
use mathlib.Core.Path.{◌≡◌, refl, sym, ap, ◌∙◌}
use mathlib.Core.Bool.{Bool, true, false, cond, true≢false}
use mathlib.Core.List.{List}
use Prim.Native.Nat.{ℕ}
use lib.Dec.{eqb}
use Rattle.run_state.specs.ReportKind.{HALT, BPT}
use Rattle.run_state.specs.declared.Run.{Run}
use Rattle.run_state.specs.declared.Run.TheVariants.{Running, Stepping, Stopped, AtBreak, Ended, Passing}
use Rattle.run_state.specs.RunState.{moving, after_pass, accepts, run_after}
use Rattle.run_state.proofs.RunLaws.{accepts-moves}
use Rattle.session.specs.declared.Owed.{Owed}
use Rattle.session.specs.declared.Owed.TheVariants.{Nothing, Continue, Step}
use Rattle.session.specs.declared.Session.{Session}
use Rattle.session.specs.Session.{owes}
use Rattle.process.specs.declared.report.Verdict.{Verdict}
use Rattle.process.specs.declared.report.Verdict.TheVariants.{Stops, CountsDown, GoesOn}
use Rattle.process.specs.Record.{with_vector}
use Rattle.process.specs.Local.{Local}
use Rattle.process.specs.Planting.{lifted_in}
use Rattle.process.specs.Request.{on_record}
use Rattle.process.specs.Report.{store_vector_and_replant, verdict_of, passed, carried_out, reported, told_by, recipient_of, answered_by, answer_of}
use Rattle.process.proofs.PlantingLaws.{run-replanted, session-replanted}

-- what is not owed is nothing
pub none-owed-nothing : (o : Owed) → owes o ≡ false → o ≡ Nothing
none-owed-nothing Nothing e = refl
none-owed-nothing Continue e = absurd (true≢false e)
none-owed-nothing Step e = absurd (true≢false e)

-- no report leaves a process that it stops moving
still_after : (kind : ℕ) → moving (run_after kind) ≡ false
unfolding run_after
still_after kind = go (eqb kind HALT) (eqb kind BPT)
  where
    go : (s t : Bool) → moving (cond s Ended (cond t AtBreak Stopped)) ≡ false
    go true t = refl
    go false true = refl
    go false false = refl

-- and a silent pass leaves one that moves moving
moving-after-pass : (r : Run) → moving r ≡ true → moving (after_pass r) ≡ true
moving-after-pass Running e = refl
moving-after-pass Stepping e = refl
moving-after-pass Stopped e = e
moving-after-pass AtBreak e = e
moving-after-pass Ended e = e
moving-after-pass Passing e = refl

-- ---- a process whose vector is stored runs and owes as before

pub run-stored : (words : List ℕ) (l : Local) → (store_vector_and_replant words l).process.run ≡ l.process.run
unfolding store_vector_and_replant
run-stored words l = run-replanted (on_record (with_vector words) l)

pub owed-stored : (words : List ℕ) (l : Local) → (store_vector_and_replant words l).process.session.owed ≡ l.process.session.owed
unfolding store_vector_and_replant
owed-stored words l = ap (λ (s : Session). s.owed) (session-replanted (on_record (with_vector words) l))

-- ---- a report

module _ (kind : ℕ) (words : List ℕ) (l : Local) where
  abbrev stored : Local
  stored = store_vector_and_replant words l

  abbrev verdict : Verdict
  verdict = verdict_of kind stored.process

  -- an answer is given by a report that stops the process, and by no other
  pub answer-stops : owes (answer_of kind words l) ≡ true → verdict_of kind (store_vector_and_replant words l).process ≡ Stops (recipient_of kind words l)
  unfolding answer_of recipient_of
  answer-stops = go verdict
    where
      go : (v : Verdict) → owes (answered_by v l.process.session.owed) ≡ true → v ≡ Stops (told_by v)
      go (Stops host) e = refl
      go (CountsDown k) e = absurd (true≢false (sym e))
      go GoesOn e = absurd (true≢false (sym e))

  -- the answer given is the one that was owed
  pub answer-owed : owes (answer_of kind words l) ≡ true → answer_of kind words l ≡ l.process.session.owed
  unfolding answer_of
  answer-owed e = ap (λ (v : Verdict). answered_by v l.process.session.owed) (answer-stops e)

  -- after a report that stops the process nothing is owed
  pub stops-owes : {host : ℕ} → verdict_of kind (store_vector_and_replant words l).process ≡ Stops host → (reported kind words l).process.session.owed ≡ Nothing
  unfolding reported
  stops-owes e = ap (λ (v : Verdict). (carried_out v kind stored).process.session.owed) e

  -- and it is in the run state that the kind of report says
  pub stops-run : {host : ℕ} → verdict_of kind (store_vector_and_replant words l).process ≡ Stops host → (reported kind words l).process.run ≡ run_after kind
  unfolding reported
  stops-run e = ap (λ (v : Verdict). (carried_out v kind stored).process.run) e

  pub answer-leaves-nothing : owes (answer_of kind words l) ≡ true → (reported kind words l).process.session.owed ≡ Nothing
  answer-leaves-nothing e = stops-owes (answer-stops e)

  pub answer-run : owes (answer_of kind words l) ≡ true → (reported kind words l).process.run ≡ run_after kind
  answer-run e = stops-run (answer-stops e)

  -- what is not answered is owed still
  pub unanswered-owed : owes (answer_of kind words l) ≡ false → (reported kind words l).process.session.owed ≡ l.process.session.owed
  unfolding answer_of reported passed lifted_in
  unanswered-owed = go verdict
    where
      go : (v : Verdict) → owes (answered_by v l.process.session.owed) ≡ false → (carried_out v kind stored).process.session.owed ≡ l.process.session.owed
      go (Stops host) e = sym (none-owed-nothing l.process.session.owed e)
      go (CountsDown k) e = owed-stored words l
      go GoesOn e = owed-stored words l

  -- a process that a report stops does not move
  pub stops-still : {host : ℕ} → verdict_of kind (store_vector_and_replant words l).process ≡ Stops host → moving (reported kind words l).process.run ≡ false
  stops-still e = ap moving (stops-run e) ∙ still_after kind

  -- and one that does not move after a report was stopped by it
  pub still-stops : accepts kind l.process.run ≡ true → moving (reported kind words l).process.run ≡ false
      → verdict_of kind (store_vector_and_replant words l).process ≡ Stops (recipient_of kind words l)
  unfolding reported passed lifted_in recipient_of
  still-stops a = go verdict
    where
      moves : moving (after_pass stored.process.run) ≡ true
      moves = rw (run-stored words l) (moving-after-pass l.process.run (accepts-moves kind l.process.run a))

      go : (v : Verdict) → moving (carried_out v kind stored).process.run ≡ false → v ≡ Stops (told_by v)
      go (Stops host) e = refl
      go (CountsDown k) e = absurd (true≢false (sym moves ∙ e))
      go GoesOn e = absurd (true≢false e)
