-- The theorems of this crate, from the laws of what is seen and of what is sound. Assumes nothing.
use mathlib.Core.Path.{◌≡◌, refl, sym, ap, ◌∙◌}
use mathlib.Core.Bool.{Bool, true, false, cond, true≢false}
use mathlib.Core.List.{List, [], ◌∷◌, map}
use mathlib.Core.Logic.{◌⊎◌, inl, inr, ⊎_elim}
use Prim.Native.Nat.{ℕ, zero, suc, ◌+◌, ◌-◌, ◌≤◌, ◌<◌, ◌%◌}
use native.Mathlib.Nat.{not-suc-le-zero}
use native.Mathlib.Omega.{arith}
use borrow.Author.Tests.{ltb-true, ltb-false, eqb-true, eqb-false}
use lib.ListN.{length, take, drop, get_or, set, get_or-replicate}
use lib.Seq.{paste, set_comm, set-set, get_or-set_same, get_or-set_other}
use lib.Dec.{ltb, eqb}
use Rattle.lists.specs.Word.{low, high}
use Rattle.lists.proofs.Buffer.{part-paste, getD-paste-before, getD-paste-behind}
use Rattle.breakpoints.specs.declared.entry.Breakpoint.{Breakpoint}
use Rattle.process.specs.declared.record.Process.{Process}
use Rattle.run_state.specs.declared.Run.{Run}
use Rattle.run_state.specs.declared.Run.TheVariants.{Running, Stepping, Stopped, Passing}
use Rattle.session.specs.declared.Owed.TheVariants.{Nothing, Continue, Step}
use Rattle.session.specs.Session.{text_host, pup_host, no_session, no_go, new_go, ticked_go, waits_for, answers_go, is_last_tick}
use Rattle.process.specs.declared.report.Verdict.{Verdict}
use Rattle.process.specs.declared.report.Verdict.TheVariants.{Stops, CountsDown, GoesOn}
use Rattle.breakpoints.specs.declared.entry_query.EntryQuery.TheVariants.{Free, At}
use Rattle.breakpoints.specs.Entry.{free, breakpoint_at, with_count, in_use}
use Rattle.process.specs.Record.{entry, fresh, emptied, recounted, with_host, with_run, with_vector, with_session, with_entry, going}
use Rattle.process.specs.Find.{find}
use Rattle.process.specs.Sound.{Sound, SizeRight, DebugsOrWatches}
use Rattle.run_state.specs.RunState.{moving, stepping_or_passing, stopped_or_at_break, at_break, released, after_pass, accepts, run_after}
use Rattle.breakpoints.specs.Seen.{put_word, is_planted, restored, seen, saved_from}
use Rattle.process.specs.Local.{Local, local, extent, Proper}
use Rattle.process.specs.Planting.{planted_in, lifted_in, removed_from, replanted, lifted_at}
use Rattle.process.specs.Request.{pc, on_record, has_break, has_room, end_debugged, brought_to_stop, stopped, resumed, stepped, proceeded, going_to, went_on, continued, stepped_from, examined, to_be_seen, deposited, break_set, break_removed, created, cleared}
use Rattle.process.specs.Report.{store_vector_and_replant, verdict_of, passed, carried_out, reported}
use Rattle.process.specs.Packet.{go_of, without_go, go_asked, go_ended, go_replied, ticked, word_stored}
use Rattle.process.specs.Theorems.{seen_of, DepositIsSeen, SeenStays, EndDebugRestores, StoreIsUnseen, RunningIsPlanted, SoundStays}
use Rattle.run_state.proofs.RunLaws.{stopped_or_at_break-still, at_break-stopped, after-pass-lifts, accepts-moves}
use Rattle.process.proofs.FindLaws.{matches-at, find-matches, find-before, at-matches}
use Rattle.breakpoints.proofs.SeenLaws.{length_seen, restored-planted}
use Rattle.process.proofs.DepositLaws.{sheltered-seen, map-alike, count-saved}
use Rattle.process.proofs.SoundLaws.{sound-vector, sound-run, sound-owing, sound-going, sound-watched, sound-host, sound-free, sound-alike}
use Rattle.process.proofs.PlantingLaws.{length-entry, run-replanted}
use Rattle.process.proofs.KeptLaws.{same-host, shape-stepped, shape-went_on}
use Rattle.process.proofs.SoundTestLaws.{sound-passes}
use Rattle.process.proofs.TestedLaws.{tested-sound, tested-spaced}
use Rattle.process.proofs.ReportLaws.{counts-low, counts-used}
use Rattle.process.proofs.SeenKept.{seen-lifted_in, seen-lifted_at, seen-replanted, seen-removed, seen-new, seen-count}
use Rattle.process.proofs.WatchLaws.{end-watch-seen, end-watch-sound}
use Rattle.process.proofs.SoundKept.{NoneLifted, still-none, sound-removed, sound-planted, sound-lifted, sound-count, sound-replanted, none-replanted, proper-replanted}

sound-of : (l : Local) → Proper l → Sound l.process
sound-of l g = tested-sound l.process l.bytes g.tested

-- a process whose parts are as they should be
proper : (p : Process) (m : List ℕ) → Sound p → length p.breaks ≡ 8 → length m ≡ extent p → Proper (local p m)
proper p m s eight size = record { tested = record { sound = sound-passes p eight s; size = size }; eight = eight }

-- ---- what is deposited is seen

whole : (at : ℕ) (string : List ℕ) (l : Local) → Proper l → seen_of (deposited at string l) ≡ paste (seen_of l) at string (length string)
unfolding deposited
whole at string l g =
    sheltered-seen l.process.breaks l.bytes (to_be_seen at string l) (tested-spaced l.process l.bytes g.tested g.eight)

room : (at : ℕ) (string : List ℕ) (l : Local) → Proper l → at + length string ≤ length l.bytes → at + length string ≤ length (seen_of l)
room at string l g h = omega (arith, length_seen l.process.breaks l.bytes, g.tested.size)

read_back : (at : ℕ) (string : List ℕ) (l : Local) → Proper l → at + length string ≤ length l.bytes → examined at (length string) (deposited at string l) ≡ string
unfolding examined
read_back at string l g h =
    ap (λ (m : List ℕ). take (length string) (drop at m)) (whole at string l g) ∙ part-paste at string (seen_of l) (room at string l g h)

word_back : (first v : ℕ) (l : Local) → Proper l → first + 2 ≤ length l.bytes → examined first 2 (word_stored first v l) ≡ low v ∷ high v ∷ []
unfolding examined word_stored
word_back first v l g h = read_back first (low v ∷ high v ∷ []) l g h

elsewhere : (at : ℕ) (string : List ℕ) (l : Local) (i : ℕ) → Proper l → at + length string ≤ length l.bytes → (i < at) ⊎ (at + length string ≤ i)
    → get_or (seen_of (deposited at string l)) i 0 ≡ get_or (seen_of l) i 0
elsewhere at string l i g h o =
    ap (λ (m : List ℕ). get_or m i 0) (whole at string l g)
    ∙ ⊎_elim (getD-paste-before at string (seen_of l) (room at string l g h) i) (getD-paste-behind at string (seen_of l) (room at string l g h) i) o

pub deposit-is-seen : DepositIsSeen
deposit-is-seen = record { whole = whole; read_back = read_back; word = word_back; elsewhere = elsewhere }

-- ---- nothing else changes what is seen

break-seen : (host a n : ℕ) (l : Local) → Proper l → (host ≡ 0 → ⊥) → a % 2 ≡ 0 → (has_break a l.process ≡ false → has_room l.process ≡ true) → seen_of (break_set host a n l) ≡ seen_of l
unfolding break_set
break-seen host a n l g named even room = go (has_break a l.process) refl
  where
    go : (t : Bool) → has_break a l.process ≡ t
        → seen_of (cond t (on_record (with_entry (find (At a) l.process) (with_count n (entry l.process (find (At a) l.process)))) l) (on_record recounted (planted_in (find Free l.process) (breakpoint_at a n host) l))) ≡ seen_of l
    go true e = seen-count l g (find (At a) l.process) n
    go false e = seen-new l g host a n named even e (room e)

unbreak-seen : (a : ℕ) (l : Local) → Proper l → has_break a l.process ≡ true → seen_of (break_removed a l) ≡ seen_of l
unfolding break_removed
unbreak-seen a l g e = seen-removed l g a e

stop-seen : (l : Local) → Proper l → seen_of (stopped l) ≡ seen_of l
unfolding stopped brought_to_stop
stop-seen l g = go (moving l.process.run)
  where
    go : (t : Bool) → seen_of (cond t (on_record (with_run Stopped) (replanted l)) l) ≡ seen_of l
    go true = seen-replanted l g
    go false = refl

step-seen : (l : Local) → Proper l → seen_of (stepped l) ≡ seen_of l
unfolding stepped
step-seen l g = go (at_break l.process.run)
  where
    go : (t : Bool) → seen_of (on_record (with_run Stepping) (cond t (lifted_at (pc l.process) l) l)) ≡ seen_of l
    go true = seen-lifted_at l g (pc l.process)
    go false = refl

proceed-seen : (l : Local) → Proper l → seen_of (proceeded l) ≡ seen_of l
unfolding proceeded
proceed-seen l g = seen-lifted_at l g (pc l.process)

-- a process with another vector
vector-set-proper : (words : List ℕ) (l : Local) → Proper l → Proper (on_record (with_vector words) l)
vector-set-proper words l g =
    proper (with_vector words l.process) l.bytes (sound-vector words l.process (sound-of l g)) g.eight g.tested.size

continue-seen : (a : ℕ) (l : Local) → Proper l → seen_of (continued a l) ≡ seen_of l
unfolding continued went_on
continue-seen a l g = go (at_break l.process.run)
  where
    go : (t : Bool) → seen_of (cond t (proceeded (going_to a l)) (resumed (going_to a l))) ≡ seen_of l
    go true = proceed-seen (going_to a l) (vector-set-proper _ l g)
    go false = refl

step-from-seen : (a : ℕ) (l : Local) → Proper l → seen_of (stepped_from a l) ≡ seen_of l
unfolding stepped_from
step-from-seen a l g = step-seen (going_to a l) (vector-set-proper _ l g)

-- a process after its vector is stored and a lifted breakpoint planted again
vector-proper : (words : List ℕ) (l : Local) → Proper l → Proper (store_vector_and_replant words l)
unfolding store_vector_and_replant
vector-proper words l g =
    proper-replanted (on_record (with_vector words) l) (sound-vector words l.process (sound-of l g)) g.eight g.tested.size

stored-seen : (words : List ℕ) (l : Local) → Proper l → seen_of (store_vector_and_replant words l) ≡ seen_of l
unfolding store_vector_and_replant
stored-seen words l g =
    seen-replanted (on_record (with_vector words) l) (vector-set-proper words l g)

-- a process with another count in an entry
counted-proper : (k n : ℕ) (l : Local) → k < 8 → Proper l → Proper (on_record (with_entry k (with_count n (entry l.process k))) l)
counted-proper k n l h g =
    proper (with_entry k (with_count n (entry l.process k)) l.process) l.bytes
    (sound-count l.process (sound-of l g) g.eight k n h)
    (length-entry k (with_count n (entry l.process k)) l.process ∙ g.eight)
    g.tested.size

passed-seen : (k : ℕ) (l : Local) → k < 8 → Proper l → seen_of (passed k l) ≡ seen_of l
unfolding passed
passed-seen k l h g =
    seen-lifted_in (on_record (with_entry k (with_count ((entry l.process k).count - 1) (entry l.process k))) l) (counted-proper k _ l h g) k h
    ∙ seen-count l g k ((entry l.process k).count - 1)

report-seen : (kind : ℕ) (words : List ℕ) (l : Local) → Proper l → seen_of (reported kind words l) ≡ seen_of l
unfolding reported
report-seen kind words l g = go (verdict_of kind (store_vector_and_replant words l).process) refl ∙ stored-seen words l g
  where
    go : (v : Verdict) → verdict_of kind (store_vector_and_replant words l).process ≡ v → seen_of (carried_out v kind (store_vector_and_replant words l)) ≡ seen_of (store_vector_and_replant words l)
    go (Stops host) e = refl
    go (CountsDown k) e = passed-seen k (store_vector_and_replant words l) (counts-low kind (store_vector_and_replant words l).process k e) (vector-proper words l g)
    go GoesOn e = refl

pub seen-stays : SeenStays
seen-stays = record { break = break-seen; unbreak = unbreak-seen; end-watch = end-watch-seen; stop = stop-seen; step = step-seen; proceed = proceed-seen; continue = continue-seen; step_from = step-from-seen; report = report-seen }

-- ---- END DEBUG

pub end-debug-restores : EndDebugRestores
unfolding end_debugged
end-debug-restores = record {
  memory = λ l. refl;
  none_left = λ l k h. ap (λ (b : Breakpoint). in_use b) (get_or-replicate 8 k free free h);
}

-- ---- a store under a planted breakpoint

-- the byte is one of the two of a word
abbrev Covers : ℕ → ℕ → Type 0
Covers i a = (i ≡ a) ⊎ (i ≡ a + 1)

-- a word that is put hides what was stored under it
hidden : (a x y i v : ℕ) (m : List ℕ) → Covers i a → put_word a x y (set m i v) ≡ put_word a x y m
hidden a x y i v m (inl e) = ap (λ (l : List ℕ). set l (a + 1) y) (ap (λ (k : ℕ). set (set m k v) a x) e ∙ set-set m a v x)
hidden a x y i v m (inr e) =
    let n : a + 1 ≡ a → ⊥ = λ z. absurd (omega arith) in
    ap (λ (l : List ℕ). set l (a + 1) y) (ap (λ (k : ℕ). set (set m k v) a x) e ∙ set_comm m (a + 1) a v x n)
    ∙ set-set (set m a x) (a + 1) v y

-- and leaves what was stored elsewhere
beside : (a x y i v : ℕ) (m : List ℕ) → (i ≡ a → ⊥) → (i ≡ a + 1 → ⊥) → put_word a x y (set m i v) ≡ set (put_word a x y m) i v
beside a x y i v m n0 n1 = ap (λ (l : List ℕ). set l (a + 1) y) (set_comm m i a v x n0) ∙ set_comm (set m a x) i (a + 1) v y n1

-- a store and one breakpoint: hidden, or still there
one : (b : Breakpoint) (m : List ℕ) (i v : ℕ) → (restored b (set m i v) ≡ restored b m) ⊎ (restored b (set m i v) ≡ set (restored b m) i v)
unfolding restored
one b m i v = go (is_planted b) (eqb i b.address) refl (eqb i (b.address + 1)) refl
  where
    a : ℕ
    a = b.address

    with-word : Bool → List ℕ → List ℕ
    with-word t x = cond t (put_word b.address b.low b.high x) x

    go : (t s : Bool) → eqb i b.address ≡ s → (u : Bool) → eqb i (b.address + 1) ≡ u
        → (with-word t (set m i v) ≡ with-word t m) ⊎ (with-word t (set m i v) ≡ set (with-word t m) i v)
    go false s p u q = inr refl
    go true true p u q = inl (hidden b.address b.low b.high i v m (inl (eqb-true _ _ p)))
    go true false p true q = inl (hidden b.address b.low b.high i v m (inr (eqb-true _ _ q)))
    go true false p false q = inr (beside b.address b.low b.high i v m (eqb-false _ _ p) (eqb-false _ _ q))

under : (bs : List Breakpoint) (m : List ℕ) (k i v : ℕ) → k < length bs → is_planted (get_or bs k free) ≡ true → Covers i (get_or bs k free).address
    → seen bs (set m i v) ≡ seen bs m
unfolding seen
under [] m k i v h p c = absurd (not-suc-le-zero h)
under (b ∷ bs) m zero i v h p c =
    ap (seen bs) (restored-planted b (set m i v) p ∙ hidden b.address b.low b.high i v m c ∙ sym (restored-planted b m p))
under (b ∷ bs) m (suc k) i v h p c =
    ⊎_elim (λ e. ap (seen bs) e) (λ e. ap (seen bs) e ∙ under bs (restored b m) k i v (omega arith) p c) (one b m i v)

pub store-is-unseen : StoreIsUnseen
unfolding StoreIsUnseen
store-is-unseen l k i v h p c = under l.process.breaks l.bytes k i v h p c

-- ---- a running process

pub running-is-planted : RunningIsPlanted
unfolding RunningIsPlanted
running-is-planted p s r k h u = go (entry p k).lifted refl
  where
    go : (t : Bool) → (entry p k).lifted ≡ t → is_planted (entry p k) ≡ true
    go true x = let while : stepping_or_passing p.run ≡ true = s.lifted-while k h u x in absurd (true≢false (sym (rw r at while)))
    go false x = rw (u, x)

-- ---- a sound record stays sound

end-debug-sound : (l : Local) → Proper l → Sound (end_debugged l).process
unfolding end_debugged
end-debug-sound l g =
    sound-free (with_run (released l.process.run) (with_host 0 (with_session no_session (emptied l.process)))) (sound-of l g).sized refl refl refl refl refl (λ t. refl)

halt-sound : (l : Local) → Proper l → Sound (brought_to_stop l).process
unfolding brought_to_stop
halt-sound l g = go (moving l.process.run)
  where
    go : (t : Bool) → Sound (cond t (on_record (with_run Stopped) (replanted l)) l).process
    go true =
        sound-run Stopped (replanted l).process
        (λ k h u x. absurd (none-replanted l.process (sound-of l g) g.eight l.bytes k h u x))
        (sound-replanted l.process (sound-of l g) g.eight l.bytes)
    go false = sound-of l g

stop-sound : (l : Local) → Proper l → Sound (stopped l).process
unfolding stopped
stop-sound l g = sound-owing Nothing (brought_to_stop l).process (λ i. absurd (true≢false (sym i))) (halt-sound l g)

-- the breakpoint in an entry is lifted as a process that had none lifted starts to step or to pass
module _ (l : Local) (g : Proper l) (none : NoneLifted l.process) where
  lifted-in-sound : (r : Run) (k : ℕ) → stepping_or_passing r ≡ true → k < 8 → in_use (entry l.process k) ≡ true → Sound (with_run r (lifted_in k l).process)
  unfolding lifted_in
  lifted-in-sound r k while h u =
      sound-lifted (with_run r l.process) (sound-run r l.process (λ j i v x. while) (sound-of l g)) g.eight k h u while none

  -- and the one at PC, if there is one
  lifted-at-sound : (r other : Run) (pc : ℕ) → stepping_or_passing r ≡ true
      → Sound (with_run (cond (has_break pc l.process) r other) (lifted_at pc l).process)
  unfolding lifted_at has_break
  lifted-at-sound r other pc while = go (ltb (find (At pc) l.process) 8) refl
    where
      go : (t : Bool) → ltb (find (At pc) l.process) 8 ≡ t
          → Sound (with_run (cond t r other) (cond t (lifted_in (find (At pc) l.process) l) l).process)
      go true e =
          let h : find (At pc) l.process < 8 = ltb-true _ _ e in
          lifted-in-sound r (find (At pc) l.process) while h (matches-at pc _ (find-matches (At pc) l.process g.eight h)).0
      go false e = sound-run other l.process (λ k h u x. absurd (none k h u x)) (sound-of l g)

step-sound : (l : Local) → Proper l → stopped_or_at_break l.process.run ≡ true → Sound (stepped l).process
unfolding stepped
step-sound l g e = go (at_break l.process.run)
  where
    none : NoneLifted l.process
    none = still-none l.process (sound-of l g) g.eight (stopped_or_at_break-still l.process.run e)

    same : (t : Bool) → cond t Stepping Stepping ≡ Stepping
    same true = refl
    same false = refl

    go : (t : Bool) → Sound (on_record (with_run Stepping) (cond t (lifted_at (pc l.process) l) l)).process
    go true = rw same at (lifted-at-sound l g none Stepping Stepping (pc l.process) refl)
    go false = sound-run Stepping l.process (λ k h u x. refl) (sound-of l g)

resume-sound : (p : Process) → Sound p → stopped_or_at_break p.run ≡ true → Sound (with_run Running p)
resume-sound p s e =
    sound-run Running p (λ k h u x. absurd (true≢false (sym (s.lifted-while k h u x) ∙ stopped_or_at_break-still p.run e))) s

proceed-sound : (l : Local) → Proper l → at_break l.process.run ≡ true → Sound (proceeded l).process
unfolding proceeded
proceed-sound l g e =
    let still = stopped_or_at_break-still l.process.run (at_break-stopped l.process.run e) in
    lifted-at-sound l g (still-none l.process (sound-of l g) g.eight still) Passing Running (pc l.process) refl

go-on-sound : (l : Local) → Proper l → stopped_or_at_break l.process.run ≡ true → Sound (went_on l).process
unfolding went_on
go-on-sound l g e = go (at_break l.process.run) refl
  where
    go : (t : Bool) → at_break l.process.run ≡ t → Sound (cond t (proceeded l) (resumed l)).process
    go true at = proceed-sound l g at
    go false at = resume-sound l.process (sound-of l g) e

continue-sound : (a : ℕ) (l : Local) → Proper l → stopped_or_at_break l.process.run ≡ true → l.process.host ≡ text_host → Sound (continued a l).process
unfolding continued
continue-sound a l g e h =
    sound-owing Continue (went_on (going_to a l)).process (λ i. same-host (shape-went_on (going_to a l)) ∙ h) (go-on-sound (going_to a l) (vector-set-proper _ l g) e)

step-from-sound : (a : ℕ) (l : Local) → Proper l → stopped_or_at_break l.process.run ≡ true → l.process.host ≡ text_host → Sound (stepped_from a l).process
unfolding stepped_from
step-from-sound a l g e h =
    sound-owing Step (stepped (going_to a l)).process (λ i. same-host (shape-stepped (going_to a l)) ∙ h) (step-sound (going_to a l) (vector-set-proper _ l g) e)

deposit-sound : (at : ℕ) (string : List ℕ) (l : Local) → Proper l → Sound (deposited at string l).process
unfolding deposited
deposit-sound at string l g =
    let e = g.eight in
    sound-alike (map (saved_from (to_be_seen at string l)) l.process.breaks) l.process
    (λ k h. map-alike (to_be_seen at string l) l.process.breaks k (omega arith)) (count-saved (to_be_seen at string l) l.process.breaks) (sound-of l g)

break-sound : (host a n : ℕ) (l : Local) → Proper l → (l.process.host ≡ 0 → ⊥) → DebugsOrWatches l.process host → a % 2 ≡ 0 → a + 2 ≤ l.process.size
    → (has_break a l.process ≡ false → has_room l.process ≡ true) → Sound (break_set host a n l).process
unfolding break_set planted_in has_break has_room
break-sound host a n l g hosted set-by even within room = go (ltb (find (At a) l.process) 8) refl
  where
    p : Process
    p = l.process

    go : (t : Bool) → ltb (find (At a) l.process) 8 ≡ t
        → Sound (cond t (on_record (with_entry (find (At a) l.process) (with_count n (entry l.process (find (At a) l.process)))) l) (on_record recounted (planted_in (find Free l.process) (breakpoint_at a n host) l))).process
    go true e = sound-count l.process (sound-of l g) g.eight (find (At a) l.process) n (ltb-true _ _ e)
    go false e =
        let past = ltb-false (find (At a) l.process) 8 e in
        sound-planted l.process (sound-of l g) g.eight (find Free l.process) (breakpoint_at a n host) l.bytes _ refl (ltb-true _ _ (room e)) hosted set-by even within
        (λ j h m u q. find-before (At a) l.process j (omega (arith, past)) (at-matches a (entry l.process j) u q))

unbreak-sound : (a : ℕ) (l : Local) → Proper l → has_break a l.process ≡ true → Sound (break_removed a l).process
unfolding break_removed removed_from has_break
unbreak-sound a l g e = sound-removed l.process (sound-of l g) g.eight (find (At a) l.process) (ltb-true _ _ e)

whole-size : SizeRight 4096
whole-size = record { even = refl; least = omega arith; most = omega arith }

create-sound : (host size : ℕ) → SizeRight size → Sound (created host size).process
unfolding created fresh
create-sound host size right = sound-free (fresh true host Stopped size) right refl refl refl refl refl (λ t. absurd (true≢false t))

destroy-sound : Sound cleared
unfolding cleared fresh
destroy-sound = sound-free (fresh false 0 Running 4096) whole-size refl refl refl refl refl (λ t. refl)

-- ---- a report

none-stored : (words : List ℕ) (l : Local) → Proper l → NoneLifted (store_vector_and_replant words l).process
unfolding store_vector_and_replant
none-stored words l g = none-replanted (with_vector words l.process) (sound-vector words l.process (sound-of l g)) g.eight l.bytes

moves-stored : (words : List ℕ) (l : Local) → moving l.process.run ≡ true → moving (store_vector_and_replant words l).process.run ≡ true
unfolding store_vector_and_replant
moves-stored words l m = rw (run-replanted (on_record (with_vector words) l)) m

-- an entry keeps its mark when its count changes
entry-counted : (k n : ℕ) (p : Process) → k < length p.breaks → entry (with_entry k (with_count n (entry p k)) p) k ≡ with_count n (entry p k)
entry-counted k n p h = get_or-set_same p.breaks k (with_count n (entry p k)) free h

none-counted : (k n : ℕ) (p : Process) → k < length p.breaks → NoneLifted p → NoneLifted (with_entry k (with_count n (entry p k)) p)
none-counted k n p h none j i = go (eqb j k) refl
  where
    c : Process
    c = with_entry k (with_count n (entry p k)) p

    go : (t : Bool) → eqb j k ≡ t → in_use (entry (with_entry k (with_count n (entry p k)) p) j) ≡ true → (entry (with_entry k (with_count n (entry p k)) p) j).lifted ≡ true → ⊥
    go true e =
        let q : j ≡ k = eqb-true j k e in
        let here : entry (with_entry k (with_count n (entry p k)) p) j ≡ with_count n (entry p k) = rw q (entry-counted k n p h) in
        rw here (rw q at (none j i))
    go false e = rw (get_or-set_other p.breaks k j (with_count n (entry p k)) free (eqb-false j k e)) (none j i)

passed-sound : (k : ℕ) (l : Local) → k < 8 → Proper l → in_use (entry l.process k) ≡ true → moving l.process.run ≡ true → NoneLifted l.process → Sound (passed k l).process
unfolding passed
passed-sound k l h g u m none =
    let n = (entry l.process k).count - 1 in
    let c = counted-proper k n l h g in
    let e = g.eight in
    let long : k < length l.process.breaks = omega arith in
    let here = entry-counted k n l.process long in
    lifted-in-sound _ c (none-counted k n l.process long none) (after_pass l.process.run) k (after-pass-lifts l.process.run m) h (rw here u)

report-sound : (kind : ℕ) (words : List ℕ) (l : Local) → Proper l → accepts kind l.process.run ≡ true → Sound (reported kind words l).process
unfolding reported
report-sound kind words l g a = go (verdict_of kind (store_vector_and_replant words l).process) refl
  where
    stored-run : (r : Run) → Sound (with_run r (store_vector_and_replant words l).process)
    stored-run r =
        sound-run r (store_vector_and_replant words l).process (λ k h u x. absurd (none-stored words l g k h u x)) (sound-of (store_vector_and_replant words l) (vector-proper words l g))

    go : (v : Verdict) → verdict_of kind (store_vector_and_replant words l).process ≡ v → Sound (carried_out v kind (store_vector_and_replant words l)).process
    go (Stops host) e = sound-owing Nothing _ (λ i. absurd (true≢false (sym i))) (stored-run (run_after kind))
    go GoesOn e = stored-run Running
    go (CountsDown k) e =
        let proper' = vector-proper words l g in
        passed-sound k (store_vector_and_replant words l) (counts-low kind (store_vector_and_replant words l).process k e) proper' (counts-used kind (store_vector_and_replant words l).process proper'.eight k e)
        (moves-stored words l (accepts-moves kind l.process.run a)) (none-stored words l g)

-- packets and ticks

abandon-go-sound : (p : Process) → Sound p → Sound (without_go p)
abandon-go-sound p s = sound-going no_go p (λ w. absurd (true≢false (sym w))) s

ask-go-sound : (id : ℕ) (p : Process) → Sound p → p.host ≡ pup_host → Sound (go_asked id p)
unfolding go_asked
ask-go-sound id p s h = go (waits_for id (go_of p))
  where
    go : (t : Bool) → Sound (cond t p (going (new_go id) p))
    go true = s
    go false = sound-going (new_go id) p (λ w. (h, omega arith)) s

end-go-sound : (p : Process) → Sound p → Sound (go_ended p)
unfolding go_ended
end-go-sound p s = go (stopped_or_at_break p.run) refl
  where
    go : (t : Bool) → stopped_or_at_break p.run ≡ t → Sound (cond t (with_run Running (without_go p)) (without_go p))
    go true e = resume-sound (without_go p) (abandon-go-sound p s) e
    go false e = abandon-go-sound p s

reply-go-sound : (id : ℕ) (p : Process) → Sound p → Sound (go_replied id p)
unfolding go_replied
reply-go-sound id p s = go (answers_go id (go_of p))
  where
    go : (t : Bool) → Sound (cond t (go_ended p) (without_go p))
    go true = end-go-sound p s
    go false = abandon-go-sound p s

tick-sound : (p : Process) → Sound p → Sound (ticked p)
unfolding ticked is_last_tick
tick-sound p s = go (go_of p).waits refl (eqb (go_of p).ticks 99) refl
  where
    go : (t : Bool) → (go_of p).waits ≡ t → (u : Bool) → eqb (go_of p).ticks 99 ≡ u → Sound (cond t (cond u (go_ended p) (going (ticked_go (go_of p)) p)) p)
    go true e true f = end-go-sound p s
    go true e false f =
        let w = s.waiting e in
        let under : p.session.go.ticks + 1 ≤ 99 = omega (arith, w.1, eqb-false p.session.go.ticks 99 f) in
        sound-going (ticked_go (go_of p)) p (λ i. (w.0, under)) s
    go false e u f = s

store-sound : (a v : ℕ) (l : Local) → Proper l → Sound (word_stored a v l).process
unfolding word_stored
store-sound a v l g = abandon-go-sound _ (deposit-sound _ _ l g)

pub sound-stays : SoundStays
sound-stays = record {
  debug = λ host p s t n b. sound-host host p t n b s;
  end-debug = end-debug-sound;
  watch = sound-watched;
  end-watch = end-watch-sound;
  stop = stop-sound;
  resume = resume-sound;
  step = step-sound;
  proceed = proceed-sound;
  continue = continue-sound;
  step_from = step-from-sound;
  deposit = deposit-sound;
  deposit-vector = sound-vector;
  break = break-sound;
  unbreak = unbreak-sound;
  create = create-sound;
  destroy = destroy-sound;
  report = report-sound;
  abandon-go = abandon-go-sound;
  ask-go = ask-go-sound;
  reply-go = reply-go-sound;
  tick = tick-sound;
  store = store-sound;
}
