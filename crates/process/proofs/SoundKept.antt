-- A sound record stays sound when a breakpoint is planted, lifted, passed, removed or planted again. Assumes nothing.
use mathlib.Core.Path.{◌≡◌, refl, sym, ap, ◌∙◌}
use mathlib.Core.Bool.{Bool, true, false, cond, true≢false}
use mathlib.Core.List.{List}
use Prim.Native.Nat.{ℕ, ◌+◌, ◌≤◌, ◌<◌, ◌%◌}
use native.Mathlib.Omega.{arith}
use borrow.Author.Tests.{ltb-true, ltb-false, eqb-true, eqb-false}
use lib.ListN.{length, get_or, set}
use lib.Seq.{get_or-set_same, get_or-set_other}
use lib.Dec.{ltb, eqb}
use Rattle.breakpoints.specs.declared.entry.Breakpoint.{Breakpoint}
use Rattle.process.specs.declared.record.Process.{Process}
use Rattle.breakpoints.specs.declared.entry_query.EntryQuery.TheVariants.{Lifted, At}
use Rattle.breakpoints.specs.Entry.{free, with_lifted, with_count, in_use}
use Rattle.breakpoints.specs.Seen.{planted}
use Rattle.process.specs.Record.{entry, count_used, with_number, recounted, with_entry}
use Rattle.process.specs.Find.{find}
use Rattle.process.specs.Sound.{Sound, DebugsOrWatches}
use Rattle.run_state.specs.RunState.{stepping_or_passing}
use Rattle.process.specs.Local.{Local, local, extent, Proper}
use Rattle.process.specs.Planting.{planted_in, lifted_in, replanted, lifted_at}
use Rattle.process.proofs.FindLaws.{matches-lifted, matches-at, find-matches, find-before, lifted-matches}
use Rattle.process.proofs.CountLaws.{count_set}
use Rattle.process.proofs.SoundLaws.{sound-kept, sound-apart, sound-entry}
use Rattle.process.proofs.PlantingLaws.{length-replanted, eight-replanted, extent-replanted}
use Rattle.process.proofs.SoundTestLaws.{sound-passes}

-- no breakpoint is lifted
abbrev pub NoneLifted : Process → Type 0
NoneLifted p = (k : ℕ) → k < 8 → in_use (entry p k) ≡ true → (entry p k).lifted ≡ true → ⊥

module _ (p : Process) (s : Sound p) (eight : length p.breaks ≡ 8) where
  -- a process that is neither stepping nor passing has none
  pub still-none : stepping_or_passing p.run ≡ false → NoneLifted p
  still-none e k h u x = true≢false (sym (s.lifted-while k h u x) ∙ e)

  -- ---- one entry

  -- an entry that is in use as before keeps the number right
  number-stays : (k : ℕ) (b : Breakpoint) → in_use b ≡ in_use (entry p k) → p.number ≡ count_used (set p.breaks k b)
  number-stays k b e = s.counted ∙ sym (count_set p.breaks k b e)

  pub sound-removed : (k : ℕ) → k < 8 → Sound (recounted (with_entry k free p))
  sound-removed k h = sound-entry p s eight k h free (λ u. absurd (true≢false (sym u))) (λ j i n v u. absurd (true≢false (sym u))) _ refl

  -- planted at an address that no other entry has, with the number of breakpoints that there are then
  pub sound-planted : (k : ℕ) (b : Breakpoint) (m : List ℕ) (n : ℕ) → n ≡ count_used (set p.breaks k (planted m b)) → k < 8 → (p.host ≡ 0 → ⊥) → DebugsOrWatches p b.setter → b.address % 2 ≡ 0 → b.address + 2 ≤ p.size
      → ((j : ℕ) → j < 8 → (j ≡ k → ⊥) → in_use (entry p j) ≡ true → (entry p j).address ≡ b.address → ⊥) → Sound (with_number n (with_entry k (planted m b) p))
  sound-planted k b m n q h host set-by even within apart =
      sound-entry p s eight k h (planted m b)
      (λ u. record { hosted = host; even = even; within = within; lifted-while = λ z. absurd (true≢false (sym z)); set-by = set-by })
      (λ j i n v u. record { different = apart j i n v; one-lifted = λ c d. true≢false (sym d) })
      n
      q

  -- lifted while the process is stepping or passing and no other is
  pub sound-lifted : (k : ℕ) → k < 8 → in_use (entry p k) ≡ true → stepping_or_passing p.run ≡ true → NoneLifted p → Sound (with_entry k (with_lifted (entry p k)) p)
  sound-lifted k h u m none =
      let e = sound-kept p s k h u in
      sound-entry p s eight k h (with_lifted (entry p k))
      (λ v. record { hosted = e.hosted; even = e.even; within = e.within; lifted-while = λ z. m; set-by = e.set-by })
      (λ j i n v w. record { different = (sound-apart p s j k i h n v u).different; one-lifted = λ c d. none j i v c })
      _
      (number-stays k (with_lifted (entry p k)) refl)

  -- with another count
  pub sound-count : (k n : ℕ) → k < 8 → Sound (with_entry k (with_count n (entry p k)) p)
  sound-count k n h =
      sound-entry p s eight k h (with_count n (entry p k))
      (λ u. let e = sound-kept p s k h u in record { hosted = e.hosted; even = e.even; within = e.within; lifted-while = e.lifted-while; set-by = e.set-by })
      (λ j i m v u. let e = sound-apart p s j k i h m v u in record { different = e.different; one-lifted = e.one-lifted })
      _
      (number-stays k (with_count n (entry p k)) refl)

  -- ---- what finds its entry first

  pub sound-lifted_at : (pc : ℕ) (m : List ℕ) → stepping_or_passing p.run ≡ true → NoneLifted p → Sound (lifted_at pc (local p m)).process
  unfolding lifted_at lifted_in
  sound-lifted_at pc m while none = go (ltb (find (At pc) p) 8) refl
    where
      go : (t : Bool) → ltb (find (At pc) p) 8 ≡ t → Sound (cond t (lifted_in (find (At pc) p) (local p m)) (local p m)).process
      go true e =
          let h : find (At pc) p < 8 = ltb-true _ _ e in
          sound-lifted (find (At pc) p) h (matches-at pc (entry p (find (At pc) p)) (find-matches (At pc) p eight h)).0 while none
      go false e = s

  pub sound-replanted : (m : List ℕ) → Sound (replanted (local p m)).process
  unfolding replanted planted_in
  sound-replanted m = go (ltb (find Lifted p) 8) refl
    where
      go : (t : Bool) → ltb (find Lifted p) 8 ≡ t
          → Sound (cond t (planted_in (find Lifted p) (entry p (find Lifted p)) (local p m)) (local p m)).process
      go true e =
          let k = find Lifted p in
          let h : find Lifted p < 8 = ltb-true _ _ e in
          let u = (matches-lifted (entry p k) (find-matches Lifted p eight h)).0 in
          let c = sound-kept p s k h u in
          sound-planted k (entry p k) m _ (number-stays k (planted m (entry p k)) refl) h c.hosted c.set-by c.even c.within
          (λ j i n v. (sound-apart p s j k i h n v u).different)
      go false e = s

  -- and then none is lifted
  pub none-replanted : (m : List ℕ) → NoneLifted (replanted (local p m)).process
  unfolding replanted planted_in
  none-replanted m = go (ltb (find Lifted p) 8) refl
    where
      go : (t : Bool) → ltb (find Lifted p) 8 ≡ t
          → NoneLifted (cond t (planted_in (find Lifted p) (entry p (find Lifted p)) (local p m)) (local p m)).process
      go true e j i u x = at (eqb j (find Lifted p)) refl u x
        where
          k : ℕ
          k = find Lifted p

          b : Breakpoint
          b = planted m (entry p (find Lifted p))

          at : (t : Bool) → eqb j (find Lifted p) ≡ t → in_use (get_or (set p.breaks (find Lifted p) b) j free) ≡ true
              → (get_or (set p.breaks (find Lifted p) b) j free).lifted ≡ true → ⊥
          at true q u x =
              let h : find Lifted p < 8 = ltb-true _ _ e in
              let here : get_or (set p.breaks (find Lifted p) b) j free ≡ b = rw (eqb-true j (find Lifted p) q) (get_or-set_same p.breaks (find Lifted p) b free (omega arith)) in
              true≢false (sym (sym (ap (λ (c : Breakpoint). c.lifted) here) ∙ x))
          at false q u x =
              let h : find Lifted p < 8 = ltb-true _ _ e in
              let n = eqb-false j (find Lifted p) q in
              let here = get_or-set_other p.breaks (find Lifted p) j b free n in
              let l = matches-lifted (entry p (find Lifted p)) (find-matches Lifted p eight h) in
              (sound-apart p s j (find Lifted p) i h n (rw here at u) l.0).one-lifted (rw here at x) l.1
      go false e j i u x =
          find-before Lifted p j (omega (arith, ltb-false (find Lifted p) 8 e)) (lifted-matches (entry p j) u x)

-- the whole of a process after a lifted breakpoint is planted again
pub proper-replanted : (l : Local) → Sound l.process → length l.process.breaks ≡ 8 → length l.bytes ≡ extent l.process → Proper (replanted l)
proper-replanted l s eight size =
    let e = eight-replanted l ∙ eight in
    record {
      tested = record {
        sound = sound-passes (replanted l).process e (sound-replanted l.process s eight l.bytes);
        size = length-replanted l ∙ size ∙ sym (extent-replanted l);
      };
      eight = e;
    }
