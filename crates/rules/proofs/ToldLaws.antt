-- Whom a report tells, and that no line goes out besides but the one owed to host 253. Assumes nothing.
use mathlib.Core.Path.{◌≡◌, refl, sym, ap, ap₂, ◌∙◌, subst}
use mathlib.Core.Bool.{Bool, true, false, not, cond, ◌&&◌, true≢false}
use mathlib.Core.List.{List, []}
use mathlib.Core.Logic.{◌⊎◌, inl, inr}
use Prim.Native.Nat.{ℕ, ◌<◌}
use native.Mathlib.Omega.{arith}
use borrow.Author.Tests.{eqb-true, ne_eqb}
use lib.ListN.{length, get_or}
use lib.Dec.{eqb}
use Rattle.lists.specs.Buffer.{overlay}
use Rattle.lists.specs.Word.{low_first}
use Rattle.lists.proofs.First.{first_alike}
use Rattle.lists.proofs.Word.{length-low_first}
use Rattle.format.specs.Outcome.{outcome}
use Rattle.format.specs.Layout.{written}
use Rattle.format.specs.Answer.{notice_of}
use Rattle.format.proofs.LayoutLaws.{length-written}
use Rattle.run_state.specs.ReportKind.{BPT}
use Rattle.run_state.specs.RunState.{moving, accepts, goes_on}
use Rattle.session.specs.Session.{text_host, owes}
use Rattle.breakpoints.specs.declared.entry_query.EntryQuery.TheVariants.{At}
use Rattle.breakpoints.specs.Entry.{free}
use Rattle.breakpoints.specs.EntryQuery.{matches}
use Rattle.process.specs.declared.record.Process.{Process}
use Rattle.process.specs.declared.report.Verdict.{Verdict}
use Rattle.process.specs.declared.report.Verdict.TheVariants.{Stops, CountsDown, GoesOn}
use Rattle.process.specs.Record.{entry, with_vector}
use Rattle.process.specs.Find.{find}
use Rattle.process.specs.Local.{Local, Proper}
use Rattle.process.specs.Request.{pc, on_record, has_break}
use Rattle.process.specs.Report.{store_vector_and_replant, passes, notice_host, verdict_of, reported, told_by, recipient_of}
use Rattle.process.proofs.AnswerLaws.{stops-still, still-stops}
use Rattle.process.proofs.PlantingLaws.{host-replanted}
use Rattle.rules.specs.Rule.{public}
use Rattle.rules.specs.Tests.{State, record_of, bad_report}
use Rattle.rules.specs.Step.{Call, report, step, local_of}
use Rattle.rules.specs.Turn.{report_access, buffers_of}
use Rattle.rules.specs.Ready.{Ready}
use Rattle.rules.specs.Rights.{holder}
use Rattle.rules.specs.Loops.{words_of}
use Rattle.rules.specs.Owed.{kind_of, reason_of, Granted, owed_at, StopsIt, Answers}
use Rattle.rules.specs.Watch.{StopsAtBreakpoint, setter_at, Reports, told_host, notice_for}
use Rattle.rules.proofs.StateLaws.{each-sound, local-proper}
use Rattle.rules.proofs.LapLaws.{stored-eight, stored-pc, stops-told}
use Rattle.rules.proofs.LoopLaws.{break-set}
use Rattle.rules.proofs.PlaceLaws.{Refused, Acted, acted-here, report-accepted, report-came}
use Rattle.rules.proofs.BreakRowLaws.{stored_same}
use Rattle.rules.proofs.OwedLaws.{owed-answers}

-- ---- a report at one process

module _ (kind : ℕ) (words : List ℕ) (l : Local) (g : Proper l) where
  abbrev before : Process
  before = l.process

  abbrev stored : Process
  stored = (store_vector_and_replant words l).process

  abbrev at : ℕ
  at = get_or words 7 0

  -- when the vector is stored, the breakpoint at an address is where it was
  stored-find : (a : ℕ) → find (At a) (store_vector_and_replant words l).process ≡ find (At a) l.process
  unfolding find matches
  stored-find a =
      first_alike (matches (At a)) stored.breaks before.breaks free (stored-eight 0 0 0 words l g.eight ∙ sym g.eight)
      (λ i low. let same = (stored_same kind words l g i).break in ap₂ (λ (u : Bool) (x : ℕ). u && eqb x a) same.used same.address)

  stored-host : (store_vector_and_replant words l).process.host ≡ l.process.host
  unfolding store_vector_and_replant
  stored-host = host-replanted (on_record (with_vector words) l)

  stored-notice : notice_host kind (store_vector_and_replant words l).process
      ≡ cond (eqb kind BPT && has_break (get_or words 7 0) l.process) (entry l.process (find (At (get_or words 7 0)) l.process)).setter l.process.host
  unfolding notice_host has_break
  stored-notice =
      rw (stored-pc 0 0 0 words l g.eight, stored-find at, (stored_same kind words l g (find (At at) before)).break.setter, stored-host)

  -- a report that leaves the process moving tells nobody
  moves-silent : moving (reported kind words l).process.run ≡ true → recipient_of kind words l ≡ 0
  unfolding recipient_of
  moves-silent moves = go (verdict_of kind stored) refl
    where
      go : (v : Verdict) → verdict_of kind stored ≡ v → told_by v ≡ 0
      go (Stops host) e = absurd (true≢false (sym moves ∙ stops-still kind words l e))
      go (CountsDown k) e = refl
      go GoesOn e = refl

  -- and one that stops it tells the host of its notice
  stops-host : (host : ℕ) → verdict_of kind (store_vector_and_replant words l).process ≡ Stops host → host ≡ notice_host kind (store_vector_and_replant words l).process
  unfolding verdict_of
  stops-host host = go (goes_on kind stored.run) (passes kind stored)
    where
      go : (s t : Bool) → cond s GoesOn (cond t (CountsDown (find (At (pc stored)) stored)) (Stops (notice_host kind stored))) ≡ Stops host → host ≡ notice_host kind stored
      go true t e = let z : ◌≡◌ {A = ℕ} 0 1 = cc in absurd (omega arith)
      go false true e = let z : ◌≡◌ {A = ℕ} 0 1 = cc in absurd (omega arith)
      go false false e = cc

  recipient-is : accepts kind l.process.run ≡ true
      → recipient_of kind words l
      ≡ cond (moving (reported kind words l).process.run) 0
      (cond (eqb kind BPT && has_break (get_or words 7 0) l.process) (entry l.process (find (At (get_or words 7 0)) l.process)).setter l.process.host)
  recipient-is accepted = go (moving (reported kind words l).process.run) refl
    where
      go : (t : Bool) → moving (reported kind words l).process.run ≡ t → recipient_of kind words l
          ≡ cond t 0 (cond (eqb kind BPT && has_break at before) (entry before (find (At at) before)).setter before.host)
      go true e = moves-silent e
      go false e = stops-host (recipient_of kind words l) (still-stops kind words l accepted e) ∙ stored-notice

-- ---- every report

-- the notice of a report to the host that it tells, if any, is what it answers and writes
abbrev Notified : ℕ → State → Call → Type 0
Notified p s c = ((step s c).answer.outcome ≡ outcome 0 (length (notice_for (told_host p s c) p c)))
    × ((step s c).answer.buffer ≡ overlay (notice_for (told_host p s c) p c) (buffers_of c).own)

turned-cond : (t : Bool) (xs ys : List ℕ) → cond (not t) xs ys ≡ cond t ys xs
turned-cond true xs ys = refl
turned-cond false xs ys = refl

module _ (s : State) (r : Ready s) (p kind reason : ℕ) (words buffer line : List ℕ) where
  abbrev any : Call
  any = report p kind reason words buffer line

  report-host : Acted s (report p kind reason words buffer line) p (report_access p kind reason words)
      → recipient_of kind words (local_of s p) ≡ told_host p s (report p kind reason words buffer line)
  unfolding report_access kind_of words_of public
  report-host x =
      recipient-is kind words (local_of s p) (local-proper s r p x.there.low) (report-accepted s r p kind reason words buffer line x)
      ∙ rw (acted-here s r any _ _ x)

  acted-notices : Acted s (report p kind reason words buffer line) p (report_access p kind reason words) → Notified p s (report p kind reason words buffer line)
  unfolding report_access kind_of reason_of words_of buffers_of
  acted-notices x =
      let host = recipient_of kind words (local_of s p) in
      rw (← report-host x, ← turned-cond (eqb host 0) (written (notice_of host kind p reason) (low_first words)) []) (rw x.is, rw x.is)

  -- a granted report is about one of the eight, and goes to it
  report-acts : Granted s (report p kind reason words buffer line) → Acted s (report p kind reason words buffer line) p (report_access p kind reason words)
  report-acts granted = go (report-came s r p kind reason words buffer line)
    where
      go : Refused s any ⊎ ((bad_report kind reason ≡ false) × Acted s any p (report_access p kind reason words)) → Acted s any p (report_access p kind reason words)
      go (inl f) = absurd (true≢false (sym granted ∙ f.ungranted))
      go (inr x) = x.1

module _ (s : State) (r : Ready s) (c : Call) (p : ℕ) (x : Reports p s c) where
  acts : Acted s (report p (kind_of c) (reason_of c) (words_of c) (buffers_of c).own (buffers_of c).line) p (report_access p (kind_of c) (reason_of c) (words_of c))
  acts = report-acts s r p (kind_of c) (reason_of c) (words_of c) (buffers_of c).own (buffers_of c).line (subst (Granted s) x.is x.granted)

  pub notices : ((step s c).answer.outcome ≡ outcome 0 (length (notice_for (told_host p s c) p c)))
      × ((step s c).answer.buffer ≡ overlay (notice_for (told_host p s c) p c) (buffers_of c).own)
  notices = subst (Notified p s) (sym x.is) (acted-notices s r p (kind_of c) (reason_of c) (words_of c) (buffers_of c).own (buffers_of c).line acts)

  -- the line is the one that was owed, and none is unless host 253 debugs the process
  pub line : 0 < (step s c).answer.line_length → (owes (owed_at s p) ≡ true) × ((holder s p ≡ text_host) × Answers p (owed_at s p) s c)
  unfolding public
  line sent = go (owed-answers.only-owed s r c sent)
    where
      go : (q : ℕ) × ((owes (owed_at s q) ≡ true) × (StopsIt q s c × Answers q (owed_at s q) s c)) → (owes (owed_at s p) ≡ true) × ((holder s p ≡ text_host) × Answers p (owed_at s p) s c)
      go (q, (owed, (stops, a))) =
          let same : q ≡ p = let e = sym stops.is ∙ x.is in cc in
          let here : owes (owed_at s p) ≡ true = subst (λ (n : ℕ). owes (owed_at s n) ≡ true) same owed in
          (here, ((each-sound s r p acts.there.low).owed here, subst (λ (n : ℕ). Answers n (owed_at s n) s c) same a))

-- ---- a BPT report at a breakpoint

-- 14: the reason of a BPT report is 0
no-reason : (reason : ℕ) → bad_report BPT reason ≡ false → reason ≡ 0
no-reason reason e = go (eqb reason 0) refl
  where
    go : (t : Bool) → eqb reason 0 ≡ t → reason ≡ 0
    go true i = eqb-true reason 0 i
    go false i = absurd (true≢false (rw i at e))

module _ (s : State) (r : Ready s) (p : ℕ) (low : p < 8) (reason : ℕ) (words buffer line : List ℕ) where
  abbrev telling : Call
  telling = report p BPT reason words buffer line

  abbrev here : Process
  here = record_of s p

  abbrev setter : ℕ
  setter = (entry here (find (At (get_or words 7 0)) here)).setter

  module _ (nine : length words ≡ 9) (found : has_break (get_or words 7 0) here ≡ true) (last : (entry here (find (At (get_or words 7 0)) here)).count ≡ 0) where
    told-setter : recipient_of BPT words (local_of s p) ≡ (entry (record_of s p) (find (At (get_or words 7 0)) (record_of s p))).setter
    told-setter =
        stops-told here.host setter (get_or words 7 0) words (local_of s p) (r.entries p low) refl here.run
        (record { hosted = refl; runs = refl; found = found; left = last; set-by = refl })

    abbrev Told : ℕ → Type 0
    Told host = ((step s telling).answer.outcome ≡ outcome 0 28)
        × ((step s telling).answer.buffer ≡ overlay (written (notice_of host BPT p 0) (low_first words)) buffer)

    report-told : Granted s (report p BPT reason words buffer line) → Told (entry (record_of s p) (find (At (get_or words 7 0)) (record_of s p))).setter
    unfolding report_access buffers_of
    report-told granted = go (report-came s r p BPT reason words buffer line)
      where
        go : Refused s telling ⊎ ((bad_report BPT reason ≡ false) × Acted s telling p (report_access p BPT reason words)) → Told setter
        go (inl f) = absurd (true≢false (sym granted ∙ f.ungranted))
        go (inr x) =
            let named = ne_eqb setter 0 (break-set s r p low (get_or words 7 0) found) in
            let none = no-reason reason x.0 in
            let size : length (written (notice_of setter BPT p 0) (low_first words)) ≡ 28 =
            length-written (notice_of setter BPT p 0) (low_first words) ∙ omega (arith, length-low_first words, nine) in
            (rw (x.1.is, told-setter, named, none, size), rw (x.1.is, told-setter, named, none))

pub told : (s : State) → Ready s → (c : Call) (p : ℕ) → p < 8 → StopsAtBreakpoint p s c
    → ((step s c).answer.outcome ≡ outcome 0 28)
    × ((step s c).answer.buffer ≡ overlay (written (notice_of (setter_at p s c) BPT p 0) (low_first (words_of c))) (buffers_of c).own)
told s r c p low x =
    let same = ap (step s) x.is in
    let granted : Granted s (report p BPT (reason_of c) (words_of c) (buffers_of c).own (buffers_of c).line) = rw same at x.granted in
    rw same (report-told s r p low (reason_of c) (words_of c) (buffers_of c).own (buffers_of c).line x.nine x.found x.last granted)
