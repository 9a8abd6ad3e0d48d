-- Laws of a report: what a verdict that counts down says, whom a report tells, and what it leaves. Assumes nothing.
use mathlib.Core.Path.{◌≡◌, refl, sym, ap, ◌∙◌}
use mathlib.Core.Bool.{Bool, true, false, not, cond, ◌&&◌, true≢false}
use mathlib.Core.List.{List}
use mathlib.Core.Logic.{inl, inr}
use Prim.Native.Nat.{ℕ, ◌-◌, ◌<◌}
use native.Mathlib.Omega.{arith}
use borrow.Author.Tests.{ltb-true}
use lib.ListN.{length, length-set}
use lib.Seq.{get_or-set_same, set-set}
use Rattle.breakpoints.specs.Entry.{free, with_count, with_lifted, in_use}
use Rattle.breakpoints.specs.Seen.{restored}
use lib.Dec.{eqb, ltb}
use Rattle.lists.proofs.Bool.{&&-left, &&-right}
use Rattle.run_state.specs.ReportKind.{BPT}
use Rattle.run_state.specs.RunState.{after_pass, goes_on}
use Rattle.session.specs.declared.Session.{Session}
use Rattle.process.specs.declared.record.Process.{Process}
use Rattle.process.specs.declared.report.Verdict.{Verdict}
use Rattle.process.specs.declared.report.Verdict.TheVariants.{Stops, CountsDown, GoesOn}
use Rattle.breakpoints.specs.declared.entry_query.EntryQuery.TheVariants.{At}
use Rattle.process.specs.Record.{entry, with_run, with_entry, with_vector}
use Rattle.process.specs.Find.{find}
use Rattle.process.specs.Sound.{Sound, DebugsOrWatches}
use Rattle.process.specs.Local.{Local, local, extent, Proper}
use Rattle.process.specs.Planting.{lifted_in}
use Rattle.process.specs.Request.{pc, on_record, has_break}
use Rattle.process.specs.Report.{store_vector_and_replant, passes, verdict_of, notice_host, passed, carried_out, reported, told_by, recipient_of}
use Rattle.process.proofs.FindLaws.{matches-at, find-matches}
use Rattle.process.proofs.PlantingLaws.{length-lifted_in, length-replanted, eight-replanted, extent-replanted, host-replanted, session-replanted}
use Rattle.process.proofs.SoundTestLaws.{passes-sound}
use Rattle.process.proofs.SoundLaws.{sound-vector}
use Rattle.process.proofs.SoundKept.{sound-replanted}

-- a report that passes a breakpoint is at one whose count is above 0
module _ (kind : ℕ) (p : Process) (e : passes kind p ≡ true) where
  at-break : has_break (pc p) p && ltb 0 (entry p (find (At (pc p)) p)).count ≡ true
  unfolding passes
  at-break = &&-right (eqb kind BPT) (has_break (pc p) p && ltb 0 (entry p (find (At (pc p)) p)).count) e

  pub passes-found : find (At (pc p)) p < 8
  unfolding has_break
  passes-found = ltb-true (find (At (pc p)) p) 8 (&&-left (has_break (pc p) p) _ at-break)

  pub passes_count : 0 < (entry p (find (At (pc p)) p)).count
  passes_count = ltb-true 0 _ (&&-right (has_break (pc p) p) (ltb 0 (entry p (find (At (pc p)) p)).count) at-break)

-- what a verdict that counts down says of its entry
pub record Counts (kind : ℕ) (p : Process) (k : ℕ) : Type 0 where
  pub passing : passes kind p ≡ true
  pub entry-is : find (At (pc p)) p ≡ k

module _ (kind : ℕ) (p : Process) where
  pub counts : (k : ℕ) → verdict_of kind p ≡ CountsDown k → Counts kind p k
  unfolding verdict_of
  counts k e = go (goes_on kind p.run) (passes kind p) refl e
    where
      go : (s t : Bool) → passes kind p ≡ t → cond s GoesOn (cond t (CountsDown (find (At (pc p)) p)) (Stops (notice_host kind p))) ≡ CountsDown k → Counts kind p k
      go true t q e = let z : ◌≡◌ {A = ℕ} 0 1 = cc in absurd (omega arith)
      go false true q e = record { passing = q; entry-is = cc }
      go false false q e = let z : ◌≡◌ {A = ℕ} 0 1 = cc in absurd (omega arith)

  pub counts-low : (k : ℕ) → verdict_of kind p ≡ CountsDown k → k < 8
  counts-low k e = let c = counts k e in rw c.entry-is at (passes-found kind p c.passing)

  pub counts-count : (k : ℕ) → verdict_of kind p ≡ CountsDown k → 0 < (entry p k).count
  counts-count k e = let c = counts k e in rw c.entry-is at (passes_count kind p c.passing)

  pub counts-used : length p.breaks ≡ 8 → (k : ℕ) → verdict_of kind p ≡ CountsDown k → in_use (entry p k) ≡ true
  counts-used eight k e =
      let c = counts k e in
      rw c.entry-is at (matches-at (pc p) (entry p (find (At (pc p)) p)) (find-matches (At (pc p)) p eight (passes-found kind p c.passing))).0

-- ---- whoever is told of a report debugs or watches the process

-- a verdict that stops a process tells the host of its notice
stops-host : (kind : ℕ) (p : Process) (host : ℕ) → verdict_of kind p ≡ Stops host → host ≡ notice_host kind p
unfolding verdict_of
stops-host kind p host e = go (goes_on kind p.run) (passes kind p) e
  where
    go : (s t : Bool) → cond s GoesOn (cond t (CountsDown (find (At (pc p)) p)) (Stops (notice_host kind p))) ≡ Stops host → host ≡ notice_host kind p
    go true t e = let z : ◌≡◌ {A = ℕ} 0 1 = cc in absurd (omega arith)
    go false true e = let z : ◌≡◌ {A = ℕ} 0 1 = cc in absurd (omega arith)
    go false false e = cc

-- and that is who set the breakpoint at PC, or the host
notice-insider : (kind : ℕ) (p : Process) → Sound p → length p.breaks ≡ 8 → DebugsOrWatches p (notice_host kind p)
unfolding notice_host has_break
notice-insider kind p s eight = go (eqb kind BPT) (ltb (find (At (pc p)) p) 8) refl
  where
    go : (t u : Bool) → ltb (find (At (pc p)) p) 8 ≡ u → DebugsOrWatches p (cond (t && u) (entry p (find (At (pc p)) p)).setter p.host)
    go true true e =
        let low : find (At (pc p)) p < 8 = ltb-true _ _ e in
        s.set-by (find (At (pc p)) p) low (matches-at (pc p) _ (find-matches (At (pc p)) p eight low)).0
    go true false e = inl refl
    go false u e = inl refl

module _ (kind : ℕ) (words : List ℕ) (l : Local) where
  -- the host and the session are as before when the vector is stored
  stored-insider : (host : ℕ) → DebugsOrWatches (store_vector_and_replant words l).process host → DebugsOrWatches l.process host
  unfolding store_vector_and_replant
  stored-insider host (inl e) = inl (e ∙ host-replanted (on_record (with_vector words) l))
  stored-insider host (inr w) = inr (w.0, w.1 ∙ ap (λ (s : Session). s.watcher) (session-replanted (on_record (with_vector words) l)))

  stored-sound : Proper l → Sound (store_vector_and_replant words l).process
  unfolding store_vector_and_replant
  stored-sound g =
      sound-replanted (with_vector words l.process) (sound-vector words l.process (passes-sound l.process g.tested.sound)) g.eight l.bytes

  stored-eight : Proper l → length (store_vector_and_replant words l).process.breaks ≡ 8
  unfolding store_vector_and_replant
  stored-eight g = eight-replanted (on_record (with_vector words) l) ∙ g.eight

  pub recipient-insider : Proper l → not (eqb (recipient_of kind words l) 0) ≡ true → DebugsOrWatches l.process (recipient_of kind words l)
  unfolding recipient_of
  recipient-insider g = go (verdict_of kind (store_vector_and_replant words l).process) refl
    where
      go : (v : Verdict) → verdict_of kind (store_vector_and_replant words l).process ≡ v → not (eqb (told_by v) 0) ≡ true → DebugsOrWatches l.process (told_by v)
      go (Stops host) q e =
          rw (stops-host kind (store_vector_and_replant words l).process host q)
          (stored-insider (notice_host kind (store_vector_and_replant words l).process) (notice-insider kind (store_vector_and_replant words l).process (stored-sound g) (stored-eight g)))
      go (CountsDown k) q e = absurd (true≢false (sym e))
      go GoesOn q e = absurd (true≢false (sym e))

-- a report leaves as many bytes and entries as there were
pub length-reported : (kind : ℕ) (words : List ℕ) (l : Local) → length (reported kind words l).bytes ≡ length l.bytes
unfolding reported store_vector_and_replant passed
length-reported kind words l = go (verdict_of kind (store_vector_and_replant words l).process)
  where
    go : (v : Verdict) → length (carried_out v kind (store_vector_and_replant words l)).bytes ≡ length l.bytes
    go (Stops host) = length-replanted (on_record (with_vector words) l)
    go (CountsDown k) = length-lifted_in k _ ∙ length-replanted (on_record (with_vector words) l)
    go GoesOn = length-replanted (on_record (with_vector words) l)

pub eight-reported : (kind : ℕ) (words : List ℕ) (l : Local) → length (reported kind words l).process.breaks ≡ length l.process.breaks
unfolding reported store_vector_and_replant passed lifted_in
eight-reported kind words l = go (verdict_of kind (store_vector_and_replant words l).process)
  where
    go : (v : Verdict) → length (carried_out v kind (store_vector_and_replant words l)).process.breaks ≡ length l.process.breaks
    go (Stops host) = eight-replanted (on_record (with_vector words) l)
    go (CountsDown k) = simp length-set (eight-replanted (on_record (with_vector words) l))
    go GoesOn = eight-replanted (on_record (with_vector words) l)

pub extent-reported : (kind : ℕ) (words : List ℕ) (l : Local) → extent (reported kind words l).process ≡ extent l.process
unfolding reported store_vector_and_replant passed lifted_in
extent-reported kind words l = go (verdict_of kind (store_vector_and_replant words l).process)
  where
    go : (v : Verdict) → extent (carried_out v kind (store_vector_and_replant words l)).process ≡ extent l.process
    go (Stops host) = extent-replanted (on_record (with_vector words) l)
    go (CountsDown k) = extent-replanted (on_record (with_vector words) l)
    go GoesOn = extent-replanted (on_record (with_vector words) l)

-- the entry that is passed is written once, with its count and its mark
pub passed-once : (k : ℕ) (l : Local) → k < length l.process.breaks
    → passed k l ≡ local (with_run (after_pass l.process.run) (with_entry k (with_lifted (with_count ((entry l.process k).count - 1) (entry l.process k))) l.process)) (restored (entry l.process k) l.bytes)
unfolding passed lifted_in restored
passed-once k l low =
    let b = with_count ((entry l.process k).count - 1) (entry l.process k) in
    rw (get_or-set_same l.process.breaks k b free low, set-set l.process.breaks k b (with_lifted b))
