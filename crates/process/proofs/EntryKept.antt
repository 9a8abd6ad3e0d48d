-- What each request, and a report, does to entry k of a process: who set a breakpoint, where, and its count. Assumes nothing.
use mathlib.Core.Path.{◌≡◌, refl, ◌∙◌}
use mathlib.Core.Bool.{Bool, true, false, cond}
use mathlib.Core.List.{List, [], ◌∷◌, map}
use Prim.Native.Nat.{ℕ, zero, suc, ◌+◌, ◌<◌}
use native.Mathlib.Omega.{arith}
use borrow.Author.Tests.{ltb-true}
use lib.ListN.{length, get_or, set, replicate, get_or-map}
use lib.Seq.{get_or-set_same, get_or-set_other}
use lib.Dec.{ltb}
use Rattle.breakpoints.specs.declared.entry.Breakpoint.{Breakpoint}
use Rattle.breakpoints.specs.declared.entry_query.EntryQuery.TheVariants.{Free, Lifted, At}
use Rattle.breakpoints.specs.Entry.{free, breakpoint_at, with_count, with_saved, is_set_by, in_use}
use Rattle.breakpoints.specs.Seen.{is_planted, saved_from, planted}
use Rattle.run_state.specs.declared.Run.TheVariants.{Stopped}
use Rattle.run_state.specs.RunState.{moving, at_break}
use Rattle.process.specs.declared.record.Process.{Process}
use Rattle.process.specs.declared.report.Verdict.{Verdict}
use Rattle.process.specs.declared.report.Verdict.TheVariants.{Stops, CountsDown, GoesOn}
use Rattle.process.specs.Record.{fresh, recounted, entry, with_run, with_vector, with_entry}
use Rattle.process.specs.Find.{find}
use Rattle.process.specs.Local.{Local}
use Rattle.process.specs.Planting.{planted_in, lifted_in, removed_from, replanted, lifted_at}
use Rattle.process.specs.Request.{pc, on_record, has_break, has_room, entry_for, debugged, end_debugged, watched, without_his, end_watched, brought_to_stop, stopped, resumed, stepped, proceeded, going_to, went_on, continued, stepped_from, to_be_seen, deposited, vector_deposited, break_set, break_removed, cleared}
use Rattle.process.specs.Report.{store_vector_and_replant, verdict_of, carried_out, reported}
use Rattle.process.proofs.FindLaws.{matches-free, find-matches}
use Rattle.process.proofs.PlantingLaws.{eight-replanted}
use Rattle.process.proofs.ReportLaws.{counts-low, counts-count, passed-once}
use Rattle.process.proofs.WatchLaws.{getD-without, without-his, without_other}

-- the same breakpoint, set by the same host, or free as before
pub record SameBreak (b c : Breakpoint) : Type 0 where
  pub used : in_use b ≡ in_use c
  pub address : b.address ≡ c.address
  pub setter : b.setter ≡ c.setter

-- and with the same count: its mark and its saved word may differ
pub record SameEntry (b c : Breakpoint) : Type 0 where
  pub break : SameBreak b c
  pub count : b.count ≡ c.count

-- the same breakpoint, its count one lower
pub record CountedDown (b c : Breakpoint) : Type 0 where
  pub break : SameBreak b c
  pub count : b.count + 1 ≡ c.count

same-break : (b : Breakpoint) → SameBreak b b
same-break b = record { used = refl; address = refl; setter = refl }

pub same-entry : (b : Breakpoint) → SameEntry b b
same-entry b = record { break = same-break b; count = refl }

-- the entries of one process are the same as another's
abbrev pub EntriesKept : Process → Process → Type 0
EntriesKept p q = (k : ℕ) → SameEntry (entry p k) (entry q k)

kept-cond : (t : Bool) (i j : Local) (p : Process) → EntriesKept i.process p → EntriesKept j.process p → EntriesKept (cond t i j).process p
kept-cond true i j p e f = e
kept-cond false i j p e f = f

-- one entry that is written with the same breakpoint
same_set : (bs : List Breakpoint) (k : ℕ) (b : Breakpoint) → SameEntry b (get_or bs k free) → (j : ℕ) → SameEntry (get_or (set bs k b) j free) (get_or bs j free)
same_set [] k b e j = same-entry free
same_set (c ∷ bs) zero b e zero = e
same_set (c ∷ bs) zero b e (suc j) = same-entry (get_or bs j free)
same_set (c ∷ bs) (suc k) b e zero = same-entry c
same_set (c ∷ bs) (suc k) b e (suc j) = same_set bs k b e j

-- ---- planting and lifting

kept-lifted_in : (k : ℕ) (l : Local) → EntriesKept (lifted_in k l).process l.process
unfolding lifted_in
kept-lifted_in k l = same_set l.process.breaks k _ (record { break = record { used = refl; address = refl; setter = refl }; count = refl })

kept-replanted : (l : Local) → EntriesKept (replanted l).process l.process
unfolding replanted planted_in
kept-replanted l =
    kept-cond (ltb (find Lifted l.process) 8) _ l l.process
    (same_set l.process.breaks (find Lifted l.process) _ (record { break = record { used = refl; address = refl; setter = refl }; count = refl }))
    (λ k. same-entry _)

kept-lifted_at : (at : ℕ) (l : Local) → EntriesKept (lifted_at at l).process l.process
unfolding lifted_at
kept-lifted_at at l = kept-cond (ltb (find (At at) l.process) 8) _ l l.process (kept-lifted_in _ l) (λ k. same-entry _)

-- ---- requests that keep every entry

pub debugged-kept : (host : ℕ) (l : Local) → EntriesKept (debugged host l).process l.process
debugged-kept host l k = same-entry _

pub watched-kept : (host : ℕ) (l : Local) → EntriesKept (watched host l).process l.process
watched-kept host l k = same-entry _

pub vector-deposited-kept : (at : ℕ) (string : List ℕ) (l : Local) → EntriesKept (vector_deposited at string l).process l.process
vector-deposited-kept at string l k = same-entry _

pub stopped-kept : (l : Local) → EntriesKept (stopped l).process l.process
unfolding stopped brought_to_stop
stopped-kept l = go (moving l.process.run)
  where
    go : (t : Bool) → EntriesKept (cond t (on_record (with_run Stopped) (replanted l)) l).process l.process
    go true = kept-replanted l
    go false = λ k. same-entry _

pub resumed-kept : (l : Local) → EntriesKept (resumed l).process l.process
resumed-kept l k = same-entry _

pub stepped_kept : (l : Local) → EntriesKept (stepped l).process l.process
unfolding stepped
stepped_kept l = kept-cond (at_break l.process.run) (lifted_at (pc l.process) l) l l.process (kept-lifted_at (pc l.process) l) (λ k. same-entry _)

pub proceeded-kept : (l : Local) → EntriesKept (proceeded l).process l.process
unfolding proceeded
proceeded-kept l = kept-lifted_at (pc l.process) l

pub continued-kept : (a : ℕ) (l : Local) → EntriesKept (continued a l).process l.process
unfolding continued went_on
continued-kept a l = kept-cond (at_break l.process.run) (proceeded (going_to a l)) (resumed (going_to a l)) l.process (proceeded-kept (going_to a l)) (λ k. same-entry _)

pub stepped-from-kept : (a : ℕ) (l : Local) → EntriesKept (stepped_from a l).process l.process
unfolding stepped_from
stepped-from-kept a l = stepped_kept (going_to a l)

saved-same : (s : List ℕ) (b : Breakpoint) → SameEntry (saved_from s b) b
unfolding saved_from
saved-same s b = go (is_planted b)
  where
    go : (t : Bool) → SameEntry (cond t (with_saved (get_or s b.address 0) (get_or s (b.address + 1) 0) b) b) b
    go true = record { break = record { used = refl; address = refl; setter = refl }; count = refl }
    go false = same-entry b

getD-saved : (s : List ℕ) (bs : List Breakpoint) (k : ℕ) → get_or (map (saved_from s) bs) k free ≡ saved_from s (get_or bs k free)
unfolding saved_from
getD-saved s bs k = get_or-map (saved_from s) bs k free

pub deposited-kept : (at : ℕ) (string : List ℕ) (l : Local) → EntriesKept (deposited at string l).process l.process
unfolding deposited
deposited-kept at string l k = rw (getD-saved (to_be_seen at string l) l.process.breaks k) (saved-same (to_be_seen at string l) (entry l.process k))

-- ---- a report

module _ (kind : ℕ) (words : List ℕ) (l : Local) where
  stored-kept : EntriesKept (store_vector_and_replant words l).process l.process
  unfolding store_vector_and_replant
  stored-kept = kept-replanted (on_record (with_vector words) l)

  stored-long : length (store_vector_and_replant words l).process.breaks ≡ length l.process.breaks
  unfolding store_vector_and_replant
  stored-long = eight-replanted (on_record (with_vector words) l)

  -- it keeps each entry but the one that it passes
  pub reported-kept : length l.process.breaks ≡ 8 → (j : ℕ) → (verdict_of kind (store_vector_and_replant words l).process ≡ CountsDown j → ⊥)
      → SameEntry (entry (reported kind words l).process j) (entry l.process j)
  unfolding reported
  reported-kept eight j n = go (verdict_of kind (store_vector_and_replant words l).process) refl
    where
      go : (v : Verdict) → verdict_of kind (store_vector_and_replant words l).process ≡ v
          → SameEntry (entry (carried_out v kind (store_vector_and_replant words l)).process j) (entry l.process j)
      go (Stops host) e = stored-kept j
      go GoesOn e = stored-kept j
      go (CountsDown k) e =
          let low = counts-low kind (store_vector_and_replant words l).process k e in
          let q : j ≡ k → ⊥ = λ z. n (rw z e) in
          rw (passed-once k (store_vector_and_replant words l) (omega (arith, stored-long)), get_or-set_other (store_vector_and_replant words l).process.breaks k j _ free q) (stored-kept j)

  -- and of that one the count falls by one
  pub reported-counts : length l.process.breaks ≡ 8 → (k : ℕ) → verdict_of kind (store_vector_and_replant words l).process ≡ CountsDown k
      → CountedDown (entry (reported kind words l).process k) (entry l.process k)
  unfolding reported
  reported-counts eight k e =
      let low = counts-low kind (store_vector_and_replant words l).process k e in
      let above = counts-count kind (store_vector_and_replant words l).process k e in
      let s = stored-kept k in
      let long : k < length (store_vector_and_replant words l).process.breaks = omega (arith, stored-long) in
      rw (e, passed-once k (store_vector_and_replant words l) long, get_or-set_same (store_vector_and_replant words l).process.breaks k _ free long)
      (record { break = record { used = s.break.used; address = s.break.address; setter = s.break.setter }; count = omega (arith, above, s.count) })

-- ---- BREAK

has-break-low : (a : ℕ) (p : Process) → has_break a p ≡ true → find (At a) p < 8
unfolding has_break
has-break-low a p e = ltb-true (find (At a) p) 8 e

has-room-low : (p : Process) → has_room p ≡ true → find Free p < 8
unfolding has_room
has-room-low p e = ltb-true (find Free p) 8 e

module _ (host a n : ℕ) (l : Local) where
  -- another entry is as before
  pub break-other : (j : ℕ) → (j ≡ entry_for a l.process → ⊥) → entry (break_set host a n l).process j ≡ entry l.process j
  unfolding break_set entry_for planted_in
  break-other j = go (has_break a l.process)
    where
      go : (t : Bool) → (j ≡ cond t (find (At a) l.process) (find Free l.process) → ⊥)
          → entry (cond t (on_record (with_entry (find (At a) l.process) (with_count n (entry l.process (find (At a) l.process)))) l) (on_record recounted (planted_in (find Free l.process) (breakpoint_at a n host) l))).process j ≡ entry l.process j
      go true q = get_or-set_other l.process.breaks (find (At a) l.process) j _ free q
      go false q = get_or-set_other l.process.breaks (find Free l.process) j _ free q

  -- the one at the address has the count, and no more
  pub break-counts : length l.process.breaks ≡ 8 → has_break a l.process ≡ true
      → entry (break_set host a n l).process (find (At a) l.process) ≡ with_count n (entry l.process (find (At a) l.process))
  unfolding break_set
  break-counts eight e = rw e (get_or-set_same l.process.breaks (find (At a) l.process) _ free (found eight e))
    where
      found : length l.process.breaks ≡ 8 → has_break a l.process ≡ true → find (At a) l.process < length l.process.breaks
      found eight e = omega (arith, has-break-low a l.process e)

  -- a new one stands in an entry that was free
  pub break-new : length l.process.breaks ≡ 8 → has_break a l.process ≡ false → has_room l.process ≡ true
      → entry (break_set host a n l).process (find Free l.process) ≡ planted l.bytes (breakpoint_at a n host)
  unfolding break_set planted_in
  break-new eight e r = rw e (get_or-set_same l.process.breaks (find Free l.process) _ free (found eight r))
    where
      found : length l.process.breaks ≡ 8 → has_room l.process ≡ true → find Free l.process < length l.process.breaks
      found eight r = omega (arith, has-room-low l.process r)

pub free-before : (p : Process) → length p.breaks ≡ 8 → has_room p ≡ true → in_use (entry p (find Free p)) ≡ false
free-before p eight r = matches-free (entry p (find Free p)) (find-matches Free p eight (has-room-low p r))

-- ---- UNBREAK

module _ (a : ℕ) (l : Local) where
  pub removed-other : (j : ℕ) → (j ≡ find (At a) l.process → ⊥) → entry (break_removed a l).process j ≡ entry l.process j
  unfolding break_removed removed_from
  removed-other j q = get_or-set_other l.process.breaks (find (At a) l.process) j free free q

  pub removed-freed : length l.process.breaks ≡ 8 → has_break a l.process ≡ true → entry (break_removed a l).process (find (At a) l.process) ≡ free
  unfolding break_removed removed_from
  removed-freed eight e =
      let low = has-break-low a l.process e in
      get_or-set_same l.process.breaks (find (At a) l.process) free free (omega arith)

-- ---- END WATCH, END DEBUG and DESTROY

module _ (l : Local) (k : ℕ) where
  end-watched-entry : entry (end_watched l).process k ≡ without_his l.process.session.watcher (entry l.process k)
  unfolding end_watched
  end-watched-entry = getD-without l.process.session.watcher l.process.breaks k

  pub end-watched-freed : is_set_by l.process.session.watcher (entry l.process k) ≡ true → entry (end_watched l).process k ≡ free
  end-watched-freed e = end-watched-entry ∙ without-his l.process.session.watcher (entry l.process k) e

  pub end-watched-kept : is_set_by l.process.session.watcher (entry l.process k) ≡ false → entry (end_watched l).process k ≡ entry l.process k
  end-watched-kept e = end-watched-entry ∙ without_other l.process.session.watcher (entry l.process k) e

none-there : (n k : ℕ) → get_or (replicate n free) k free ≡ free
none-there zero k = refl
none-there (suc n) zero = refl
none-there (suc n) (suc k) = none-there n k

pub end-debugged-freed : (l : Local) (k : ℕ) → entry (end_debugged l).process k ≡ free
unfolding end_debugged
end-debugged-freed l k = none-there 8 k

pub cleared-freed : (k : ℕ) → entry cleared k ≡ free
unfolding cleared fresh
cleared-freed k = none-there 8 k
