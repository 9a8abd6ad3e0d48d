-- A breakpoint in a loop comes back. Each event is a step of one process (LapLaws), put back into the state; a list of calls is gone through
-- event by event, since the calls between leave the record. Assumes nothing.
use mathlib.Core.Path.{◌≡◌, refl, sym, ap, ◌∙◌, subst}
use mathlib.Core.Bool.{Bool, true, false, true≢false}
use mathlib.Core.List.{List, [], ◌∷◌, ◌++◌}
use mathlib.Core.Logic.{inl, inr}
use Prim.Native.Nat.{ℕ, zero, suc, ◌+◌, ◌≤◌, ◌<◌}
use native.Mathlib.Omega.{arith}
use borrow.Author.Tests.{eq-eqb, ne_eqb, ltb-true, lt-ltb, le-ltb}
use lib.ListN.{length}
use Rattle.lists.specs.Buffer.{overlay}
use Rattle.lists.specs.Word.{low_first}
use Rattle.lists.proofs.Word.{length-low_first}
use Rattle.ops.specs.Table.{request_form, row_of}
use Rattle.format.specs.Outcome.{outcome, first_failing}
use Rattle.format.specs.Layout.{written, header_of, string_of, fixed_right}
use Rattle.format.specs.Refusal.{fields_right, carried_length, wrong_length, wrong_header, misfits}
use Rattle.run_state.specs.declared.Run.{Run}
use Rattle.run_state.specs.declared.Run.TheVariants.{Running, AtBreak, Passing}
use Rattle.run_state.specs.ReportKind.{BPT, TTRAP}
use Rattle.run_state.specs.RunState.{accepts}
use Rattle.breakpoints.specs.declared.entry_query.EntryQuery.TheVariants.{At}
use Rattle.process.specs.declared.record.Process.{Process}
use Rattle.process.specs.Record.{entry}
use Rattle.process.specs.Find.{find}
use Rattle.process.specs.Sound.{DebugsOrWatches}
use Rattle.process.specs.Local.{Local}
use Rattle.process.specs.Request.{pc, has_break, proceeded}
use Rattle.process.specs.Report.{reported}
use Rattle.process.specs.Theorems.{RunningIsPlanted}
use Rattle.process.proofs.FindLaws.{matches-at, find-matches}
use Rattle.process.proofs.TheoremLaws.{running-is-planted}
use Rattle.process.proofs.KeptLaws.{shape-proceeded}
use Rattle.process.proofs.WatcherKept.{watcher-proceeded}
use Rattle.rules.specs.Rule.{public, rule_of, names}
use Rattle.rules.specs.TextRule.{owed_line}
use Rattle.rules.specs.Tests.{State, record_of, bad_report, asked_tests, request_number, report_number}
use Rattle.rules.specs.Step.{Call, request, report, step, local_of, put, granted, granted_named, request_step, plain_answer, notice_to, notified, report_step}
use Rattle.rules.specs.Turn.{buffers_of}
use Rattle.rules.specs.Ready.{Ready}
use Rattle.rules.specs.Run.{TraceItem, trace_item}
use Rattle.rules.specs.Loops.{Event, passes, goes_on, stops, proceeds, until_notice, after_notice, words_of, ReportOf, BptAt, proceed_message, ProceedOf, CallOf, NothingSent, NoticeSent, ProceedGranted, AnswerOf, Each, Among, none, other, event, BreakAt, Loops}
use Rattle.rules.proofs.ProperLaws.{report-proper, proceed-proper}
use Rattle.rules.proofs.RuleLaws.{public-reported, same-public}
use Rattle.rules.proofs.StateLaws.{each-sound, local-proper, Fits, fits_kept, put-changed}
use Rattle.rules.proofs.StepLaws.{step-ready}
use Rattle.rules.proofs.LapLaws.{passes-break, passes-told, passes-answer, goes-on-break, goes-on-told, goes-on-answer, stops-break, stops-pc, stops-told, proceeds-break}
use Rattle.breakpoints.specs.Entry.{in_use}

-- the process is at the breakpoint, and PC says so
abbrev Halted : ℕ → ℕ → ℕ → Process → Type 0
Halted host setter a p = BreakAt host setter a 0 AtBreak p × (pc p ≡ a)

-- ---- a process with a breakpoint

module _ (s : State) (r : Ready s) (p : ℕ) (low : p < 8) where
  abbrev here : Process
  here = record_of s p

  module _ (a : ℕ) (found : has_break a here ≡ true) where
    found-used : (find (At a) here < 8) × (in_use (entry here (find (At a) here)) ≡ true)
    unfolding has_break
    found-used =
        let k : find (At a) here < 8 = ltb-true _ _ found in
        (k, (matches-at a _ (find-matches (At a) here (r.entries p low) k)).0)

    -- is there
    break-there : here.there ≡ true
    break-there = go here.there refl
      where
        go : (t : Bool) → here.there ≡ t → t ≡ true
        go true e = refl
        go false e = absurd (true≢false (sym found-used.1 ∙ ((each-sound s r p low).absent e).1 _ found-used.0))

    -- and has a host
    break-hosted : here.host ≡ 0 → ⊥
    break-hosted e = true≢false (sym found-used.1 ∙ (each-sound s r p low).unhosted e _ found-used.0)

    -- and somebody set it
    pub break-set : (entry here (find (At a) here)).setter ≡ 0 → ⊥
    break-set z = go ((each-sound s r p low).set-by (find (At a) here) found-used.0 found-used.1)
      where
        go : DebugsOrWatches here (entry here (find (At a) here)).setter → ⊥
        go (inl e) = break-hosted (sym e ∙ z)
        go (inr w) = w.0 z

  -- ---- a report

  module _ (kind : ℕ) (words buffer line : List ℕ) (there : here.there ≡ true) (accepted : accepts kind here.run ≡ true) where
    report-fits : Fits s p (public (reported kind words (local_of s p)).process)
    report-fits = rw public-reported (fits_kept s r p)

    report-after : record_of (put p (reported kind words (local_of s p)) s) p ≡ (reported kind words (local_of s p)).process
    report-after =
        let l = reported kind words (local_of s p) in
        ap (λ (x : Local). x.process) (put-changed s r p low l (report-proper (local_of s p) (local-proper s r p low) kind words accepted) report-fits).here

    report-accepted : bad_report kind 0 ≡ false → 266 ≤ length buffer → 35 ≤ length line → report_number s p kind 0 buffer line ≡ 0
    unfolding report_number first_failing
    report-accepted right room line-room = rw (le-ltb _ _ line-room, r.memory, le-ltb _ _ room, r.sound, right, lt-ltb p 8 low, there, accepted)

    report-is : bad_report kind 0 ≡ false → 266 ≤ length buffer → 35 ≤ length line
        → step s (report p kind 0 words buffer line)
        ≡ record { answer = notified p kind 0 words buffer line (local_of s p); after = put p (reported kind words (local_of s p)) s }
    unfolding step report_step
    report-is right room line-room = rw (report-accepted right room line-room)

  -- ---- PROCEED BPT

  module _ (host : ℕ) (buffer : List ℕ) (there : here.there ≡ true) (hosted : here.host ≡ host) (named : host ≡ 0 → ⊥) (brought_to_stop : here.run ≡ AtBreak) (room : 266 ≤ length buffer) where
    proceed-number : request_number s (proceed_message host p) buffer ≡ 0
    unfolding request_number first_failing asked_tests written header_of fixed_right wrong_length wrong_header misfits fields_right carried_length request_form row_of names rule_of public
    proceed-number = rw (r.memory, le-ltb _ _ room, r.sound, ne_eqb host 0 named, lt-ltb p 8 low, there, eq-eqb _ _ hosted, brought_to_stop)

    proceed-is : step s (request (proceed_message host p) buffer)
        ≡ record { answer = plain_answer (outcome 0 10) (overlay (proceed_message host p) buffer); after = put p (proceeded (local_of s p)) s }
    unfolding step request_step granted granted_named names rule_of header_of string_of written
    proceed-is = rw proceed-number

    proceed-fits : Fits s p (public (proceeded (local_of s p)).process)
    proceed-fits = rw (same-public (proceeded (local_of s p)) (local_of s p) (shape-proceeded (local_of s p)) (watcher-proceeded (local_of s p))) (fits_kept s r p)

    proceed-after : record_of (put p (proceeded (local_of s p)) s) p ≡ (proceeded (local_of s p)).process
    proceed-after =
        let l = proceeded (local_of s p) in
        ap (λ (x : Local). x.process) (put-changed s r p low l (proceed-proper (local_of s p) (local-proper s r p low) (rw brought_to_stop)) proceed-fits).here

  -- ---- the events, from this state

  module _ (host setter a : ℕ) (c : Call) where
    eight : length here.breaks ≡ 8
    eight = r.entries p low

    report-does : (kind : ℕ) → ReportOf p kind c → here.there ≡ true → accepts kind here.run ≡ true → bad_report kind 0 ≡ false
        → step s c
        ≡ record { answer = notified p kind 0 (words_of c) (buffers_of c).own (buffers_of c).line (local_of s p); after = put p (reported kind (words_of c) (local_of s p)) s }
    report-does kind q there accepted right = ap (step s) q.is ∙ report-is kind (words_of c) (buffers_of c).own (buffers_of c).line there accepted right q.room q.line-room

    pub passes-event : (n : ℕ) → BreakAt host setter a (suc n) Running here → BptAt p a c
        → NothingSent (trace_item s c) × BreakAt host setter a n Passing (record_of (step s c).after p)
    unfolding notified notice_to accepts owed_line overlay
    passes-event n x q =
        let there = break-there a x.found in
        let accepted : accepts BPT here.run ≡ true = rw x.runs in
        let does = report-does BPT q.report there accepted refl in (
          rw (does, passes-told host setter a (words_of c) (local_of s p) eight q.at n x, passes-answer host setter a (words_of c) (local_of s p) eight q.at n x),
          rw (does, report-after BPT (words_of c) (buffers_of c).own (buffers_of c).line there accepted) (passes-break host setter a (words_of c) (local_of s p) eight q.at n x),
        )

    pub goes-on-event : (n : ℕ) → BreakAt host setter a n Passing here → ReportOf p TTRAP c
        → NothingSent (trace_item s c) × BreakAt host setter a n Running (record_of (step s c).after p)
    unfolding notified notice_to accepts owed_line overlay
    goes-on-event n x q =
        let there = break-there a x.found in
        let accepted : accepts TTRAP here.run ≡ true = rw x.runs in
        let does = report-does TTRAP q there accepted refl in (
          rw (does, goes-on-told host setter a (words_of c) (local_of s p) eight n x, goes-on-answer host setter a (words_of c) (local_of s p) eight n x),
          rw (does, report-after TTRAP (words_of c) (buffers_of c).own (buffers_of c).line there accepted) (goes-on-break host setter a (words_of c) (local_of s p) eight n x),
        )

    pub stops-event : BreakAt host setter a 0 Running here → BptAt p a c → NoticeSent setter p (trace_item s c) × Halted host setter a (record_of (step s c).after p)
    unfolding notified notice_to accepts
    stops-event x q =
        let there = break-there a x.found in
        let named : setter ≡ 0 → ⊥ = λ z. break-set a x.found (x.set-by ∙ z) in
        let accepted : accepts BPT here.run ≡ true = rw x.runs in
        let does = report-does BPT q.report there accepted refl in
        let after = report-after BPT (words_of c) (buffers_of c).own (buffers_of c).line there accepted in
        let told = stops-told host setter a (words_of c) (local_of s p) eight q.at Running x in
        let size : 10 + length (low_first (words_of c)) ≡ 28 = omega (arith, length-low_first (words_of c), q.report.nine) in (
          (rw (does, told, ne_eqb setter 0 named, size), rw (does, told, ne_eqb setter 0 named)),
          (rw (does, after) (stops-break host setter a (words_of c) (local_of s p) eight q.at Running x), rw (does, after) (stops-pc host setter a (words_of c) (local_of s p) eight q.at Running x)),
        )

    pub proceeds-event : Halted host setter a here → ProceedOf host p c → ProceedGranted host p (trace_item s c) × BreakAt host setter a 0 Passing (record_of (step s c).after p)
    proceeds-event x q =
        let there = break-there a x.0.found in
        let named : host ≡ 0 → ⊥ = λ z. break-hosted a x.0.found (x.0.hosted ∙ z) in
        let does = ap (step s) q.is ∙ proceed-is host (buffers_of c).own there x.0.hosted named x.0.runs q.room in (
          rw does,
          rw (does, proceed-after host (buffers_of c).own there x.0.hosted named x.0.runs q.room) (proceeds-break host setter a (local_of s p) eight 0 x.0 x.1),
        )

-- ---- lists of calls

module _ (p : ℕ) (low : p < 8) (host setter a : ℕ) where
  -- an event that finds the record as B says is answered, and leaves it as A says
  abbrev Turns : Event → (Process → Type 0) → (Process → Type 0) → Type 0
  Turns v B A = (s : State) → Ready s → B (record_of s p) → (c : Call) → CallOf host p a v (trace_item s c)
      → AnswerOf host setter p v (trace_item s c) × A (record_of (step s c).after p)

  -- from a record as B says these events are answered, whatever calls stand between them
  abbrev Answered : (Process → Type 0) → List Event → Type 0
  Answered B vs = (s : State) → Ready s → B (record_of s p) → (l : List Call) (es : List TraceItem) → Among p s l es
      → Each (CallOf host p a) vs es → Each (AnswerOf host setter p) vs es

  -- one event more
  one_more : (v : Event) (vs : List Event) (B A : Process → Type 0) → Turns v B A → Answered A vs → Answered B (v ∷ vs)
  unfolding Each
  one_more v vs B A turns rest s r b l es among q = go r b among q
    where
      go : {t : State} {k : List Call} {fs : List TraceItem} → Ready t → B (record_of t p) → Among p t k fs
          → Each (CallOf host p a) (v ∷ vs) fs → Each (AnswerOf host setter p) (v ∷ vs) fs
      go r b none q = tt
      go r b (other same x) q = go (step-ready _ r _) (subst B (sym same) b) x q
      go r b (event x) q = let done = turns _ r b _ q.0 in (done.0, rest _ (step-ready _ r _) done.1 _ _ x q.1)

  abbrev Going : ℕ → Run → Process → Type 0
  Going n r = BreakAt host setter a n r

  going_on : (n : ℕ) → Turns goes_on (Going n Passing) (Going n Running)
  going_on n s r x c q = goes-on-event s r p low host setter a c n x q

  halts : Turns stops (Going 0 Running) (Halted host setter a)
  halts s r x c q = stops-event s r p low host setter a c x q

  -- none is left
  no_more : (B : Process → Type 0) → Answered B []
  unfolding Each
  no_more B s r b l [] among q = tt
  no_more B s r b l (e ∷ es) among q = absurd q

  -- after the notice
  again : (m : ℕ) → Answered (Halted host setter a) (after_notice m)
  unfolding after_notice
  again zero = no_more (Halted host setter a)
  again (suc m) =
      one_more proceeds _ (Halted host setter a) (Going 0 Passing) (λ s r x c q. proceeds-event s r p low host setter a c x q)
      (one_more goes_on _ (Going 0 Passing) (Going 0 Running) (going_on 0) (one_more stops _ (Going 0 Running) (Halted host setter a) halts (again m)))

  -- from the start
  all : (n m : ℕ) → Answered (Going n Running) (until_notice n ++ after_notice m)
  unfolding until_notice
  all zero m = one_more stops _ (Going 0 Running) (Halted host setter a) halts (again m)
  all (suc n) m =
      one_more passes _ (Going (suc n) Running) (Going n Passing) (λ s r x c q. passes-event s r p low host setter a c n x q)
      (one_more goes_on _ (Going n Passing) (Going n Running) (going_on n) (all n m))

pub loops : Loops
unfolding RunningIsPlanted
loops = record {
  planted = λ s r p low runs k h used. running-is-planted (record_of s p) (each-sound s r p low) runs k h used;
  comes_back = λ s r p low host setter a n m x l es among q. all p low host setter a n m s r x l es among q;
}
