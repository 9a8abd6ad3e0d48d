-- One lap of a loop, at one process: a BPT report at a breakpoint, the TTRAP report after it and PROCEED BPT leave the breakpoint there. What is
-- planted, lifted or counted down keeps its address, so the search finds it where it was. Assumes nothing.
use mathlib.Core.Path.{◌≡◌, refl, ap, ap₂, ◌∙◌}
use mathlib.Core.Bool.{Bool, true, false, cond, ◌&&◌}
use mathlib.Core.List.{List}
use Prim.Native.Nat.{ℕ, suc, ◌-◌, ◌<◌}
use native.Mathlib.Omega.{arith}
use borrow.Author.Tests.{eqb-true, eqb-false, ltb-true, lt-ltb}
use lib.ListN.{length, get_or, set, length-set}
use lib.Seq.{get_or-set_same, get_or-set_other}
use lib.Dec.{eqb, ltb}
use Rattle.lists.proofs.First.{first_alike}
use Rattle.run_state.specs.declared.Run.{Run}
use Rattle.run_state.specs.declared.Run.TheVariants.{Running, AtBreak, Passing}
use Rattle.run_state.specs.ReportKind.{BPT, TTRAP}
use Rattle.run_state.specs.RunState.{goes_on, run_after}
use Rattle.breakpoints.specs.declared.entry.Breakpoint.{Breakpoint}
use Rattle.breakpoints.specs.declared.entry_query.EntryQuery.TheVariants.{Lifted, At}
use Rattle.breakpoints.specs.Entry.{free, with_count, with_lifted, in_use}
use Rattle.breakpoints.specs.EntryQuery.{matches}
use Rattle.breakpoints.specs.Seen.{planted}
use Rattle.session.specs.declared.Owed.{Owed}
use Rattle.session.specs.declared.Owed.TheVariants.{Nothing}
use Rattle.process.specs.declared.record.Process.{Process}
use Rattle.process.specs.declared.report.Verdict.TheVariants.{Stops, CountsDown, GoesOn}
use Rattle.process.specs.Record.{entry, with_run, with_vector, with_entry, owing}
use Rattle.process.specs.Find.{find}
use Rattle.process.specs.Local.{Local}
use Rattle.process.specs.Planting.{planted_in, lifted_in, replanted, lifted_at}
use Rattle.process.specs.Request.{pc, on_record, has_break, proceeded}
use Rattle.process.specs.Report.{store_vector_and_replant, passes, notice_host, verdict_of, reported, recipient_of, answer_of}
use Rattle.process.proofs.PlantingLaws.{eight-replanted}
use Rattle.process.proofs.ReportLaws.{passed-once}
use Rattle.rules.specs.Loops.{BreakAt}

module _ (host setter a : ℕ) where
  -- ---- one entry

  found-low : (p : Process) → has_break a p ≡ true → find (At a) p < 8
  unfolding has_break
  found-low p e = ltb-true (find (At a) p) 8 e

  -- an entry that stays at its address
  module _ (p : Process) (eight : length p.breaks ≡ 8) (k : ℕ) (low : k < 8) (b : Breakpoint)
      (used : in_use b ≡ in_use (entry p k)) (address : b.address ≡ (entry p k).address) (same-setter : b.setter ≡ (entry p k).setter) where
    here : get_or (set p.breaks k b) k free ≡ b
    here = get_or-set_same p.breaks k b free (omega arith)

    kept-find : find (At a) (with_entry k b p) ≡ find (At a) p
    unfolding find matches
    kept-find = first_alike (matches (At a)) (set p.breaks k b) p.breaks free (length-set p.breaks k b) (λ i h. go i (eqb i k) refl)
      where
        go : (i : ℕ) (t : Bool) → eqb i k ≡ t → matches (At a) (get_or (set p.breaks k b) i free) ≡ matches (At a) (get_or p.breaks i free)
        go i true e = rw (eqb-true i k e, here) (ap₂ (λ (u : Bool) (x : ℕ). u && eqb x a) used address)
        go i false e = rw (get_or-set_other p.breaks k i b free (eqb-false i k e))

    -- what is the same of this entry is the same of all
    same_of : (f : Breakpoint → ℕ) → f b ≡ f (entry p k) → (j : ℕ) → f (get_or (set p.breaks k b) j free) ≡ f (get_or p.breaks j free)
    same_of f same j = go (eqb j k) refl
      where
        go : (t : Bool) → eqb j k ≡ t → f (get_or (set p.breaks k b) j free) ≡ f (get_or p.breaks j free)
        go true e = rw (eqb-true j k e, here) same
        go false e = rw (get_or-set_other p.breaks k j b free (eqb-false j k e))

    -- with whatever count the one at the address then has
    kept_at : (n m : ℕ) (r : Run) → BreakAt host setter a n r p → (get_or (set p.breaks k b) (find (At a) p) free).count ≡ m → BreakAt host setter a m r (with_entry k b p)
    unfolding has_break
    kept_at n m r x count = record {
      hosted = x.hosted;
      runs = x.runs;
      found = rw kept-find x.found;
      left = rw kept-find count;
      set-by = rw kept-find (same_of (λ (c : Breakpoint). c.setter) same-setter (find (At a) p) ∙ x.set-by);
    }

    -- and with the same count
    kept_entry : (n : ℕ) (r : Run) → BreakAt host setter a n r p → b.count ≡ (entry p k).count → BreakAt host setter a n r (with_entry k b p)
    kept_entry n r x count = kept_at n n r x (same_of (λ (c : Breakpoint). c.count) count (find (At a) p) ∙ x.left)

  -- ---- the other fields

  kept_run : (n : ℕ) (r t : Run) (p : Process) → BreakAt host setter a n r p → BreakAt host setter a n t (with_run t p)
  unfolding has_break find
  kept_run n r t p x = record { hosted = x.hosted; runs = refl; found = x.found; left = x.left; set-by = x.set-by }

  kept-vector : (n : ℕ) (r : Run) (words : List ℕ) (p : Process) → BreakAt host setter a n r p → BreakAt host setter a n r (with_vector words p)
  unfolding has_break find
  kept-vector n r words p x = record { hosted = x.hosted; runs = x.runs; found = x.found; left = x.left; set-by = x.set-by }

  kept-owed : (n : ℕ) (r : Run) (o : Owed) (p : Process) → BreakAt host setter a n r p → BreakAt host setter a n r (owing o p)
  unfolding has_break find
  kept-owed n r o p x = record { hosted = x.hosted; runs = x.runs; found = x.found; left = x.left; set-by = x.set-by }

  -- ---- the vector is stored, and a lifted breakpoint planted again

  kept-replanted : (n : ℕ) (r : Run) (l : Local) → length l.process.breaks ≡ 8 → BreakAt host setter a n r l.process → BreakAt host setter a n r (replanted l).process
  unfolding replanted planted_in
  kept-replanted n r l eight x = go (ltb (find Lifted l.process) 8) refl
    where
      go : (t : Bool) → ltb (find Lifted l.process) 8 ≡ t
          → BreakAt host setter a n r (cond t (planted_in (find Lifted l.process) (entry l.process (find Lifted l.process)) l) l).process
      go true e =
          let k = find Lifted l.process in
          kept_entry l.process eight k (ltb-true _ _ e) (planted l.bytes (entry l.process k)) refl refl refl n r x refl
      go false e = x

  vector-replanted : (l : Local) → (replanted l).process.vector ≡ l.process.vector
  unfolding replanted planted_in
  vector-replanted l = go (ltb (find Lifted l.process) 8)
    where
      go : (t : Bool) → (cond t (planted_in (find Lifted l.process) (entry l.process (find Lifted l.process)) l) l).process.vector ≡ l.process.vector
      go true = refl
      go false = refl

  module _ (words : List ℕ) (l : Local) (eight : length l.process.breaks ≡ 8) where
    abbrev stored : Local
    stored = store_vector_and_replant words l

    pub stored-eight : length stored.process.breaks ≡ 8
    unfolding store_vector_and_replant
    stored-eight = eight-replanted (on_record (with_vector words) l) ∙ eight

    pub stored-pc : pc stored.process ≡ get_or words 7 0
    unfolding store_vector_and_replant
    stored-pc = ap (λ (v : List ℕ). get_or v 7 0) (vector-replanted (on_record (with_vector words) l))

    stored-break : (n : ℕ) (r : Run) → BreakAt host setter a n r l.process → BreakAt host setter a n r stored.process
    unfolding store_vector_and_replant
    stored-break n r x = kept-replanted n r (on_record (with_vector words) l) eight (kept-vector n r words l.process x)

    -- ---- TTRAP while passing

    module _ (n : ℕ) (x : BreakAt host setter a n Passing l.process) where
      goes : verdict_of TTRAP stored.process ≡ GoesOn
      unfolding verdict_of goes_on
      goes = rw (stored-break n Passing x).runs

      pub goes-on-break : BreakAt host setter a n Running (reported TTRAP words l).process
      unfolding reported
      goes-on-break = rw goes (kept_run n Passing Running stored.process (stored-break n Passing x))

      pub goes-on-told : recipient_of TTRAP words l ≡ 0
      unfolding recipient_of
      goes-on-told = rw goes

      pub goes-on-answer : answer_of TTRAP words l ≡ Nothing
      unfolding answer_of
      goes-on-answer = rw goes

    -- ---- BPT at the breakpoint

    module _ (at : get_or words 7 0 ≡ a) where
      at-pc : pc stored.process ≡ a
      at-pc = stored-pc ∙ at

      -- with a count left
      module _ (n : ℕ) (x : BreakAt host setter a (suc n) Running l.process) where
        counts : verdict_of BPT stored.process ≡ CountsDown (find (At a) stored.process)
        unfolding verdict_of goes_on passes
        counts = let y = stored-break (suc n) Running x in rw (at-pc, y.found, y.left, lt-ltb 0 (suc n) (omega arith))

        -- the breakpoint that is passed
        abbrev down : Breakpoint
        down = let q = stored.process in let k = find (At a) q in with_lifted (with_count ((entry q k).count - 1) (entry q k))

        pub passes-break : BreakAt host setter a n Passing (reported BPT words l).process
        unfolding reported
        passes-break =
            let y = stored-break (suc n) Running x in
            let q = stored.process in
            let k = find (At a) q in
            let low : find (At a) stored.process < 8 = found-low stored.process y.found in
            let count : (get_or (set q.breaks k down) k free).count ≡ n =
            ap (λ (c : Breakpoint). c.count) (here q stored-eight k low down refl refl refl) ∙ ap (λ (c : ℕ). c - 1) y.left ∙ omega arith in
            let passing = kept_run n Running Passing (with_entry k down q) (kept_at q stored-eight k low down refl refl refl (suc n) n Running y count) in
            rw (counts, passed-once k (stored) (let e = stored-eight in omega (arith, low)), y.runs) passing

        pub passes-told : recipient_of BPT words l ≡ 0
        unfolding recipient_of
        passes-told = rw counts

        pub passes-answer : answer_of BPT words l ≡ Nothing
        unfolding answer_of
        passes-answer = rw counts

      -- with none left
      module _ (r : Run) (x : BreakAt host setter a 0 r l.process) where
        halts : verdict_of BPT stored.process ≡ Stops setter
        unfolding verdict_of goes_on passes notice_host
        halts = let y = stored-break 0 r x in rw (at-pc, y.found, y.left, y.set-by)

        pub stops-break : BreakAt host setter a 0 AtBreak (reported BPT words l).process
        unfolding reported run_after
        stops-break = rw halts (kept-owed 0 AtBreak Nothing (with_run AtBreak stored.process) (kept_run 0 r AtBreak stored.process (stored-break 0 r x)))

        pub stops-pc : pc (reported BPT words l).process ≡ a
        unfolding reported
        stops-pc = rw halts at-pc

        pub stops-told : recipient_of BPT words l ≡ setter
        unfolding recipient_of
        stops-told = rw halts

  -- ---- PROCEED BPT

  pub proceeds-break : (l : Local) → length l.process.breaks ≡ 8 → (n : ℕ) → BreakAt host setter a n AtBreak l.process → pc l.process ≡ a
      → BreakAt host setter a n Passing (proceeded l).process
  unfolding proceeded lifted_at lifted_in has_break
  proceeds-break l eight n x at =
      let p = l.process in
      let k = find (At a) p in
      let low : find (At a) l.process < 8 = found-low l.process x.found in
      let lifted = kept_entry p eight k low (with_lifted (entry p k)) refl refl refl n AtBreak x refl in
      rw (at, x.found) (kept_run n AtBreak Passing (with_entry k (with_lifted (entry p k)) p) lifted)
