-- Nothing that is seen changes when a breakpoint is set, removed, lifted, passed or planted again; what is deposited is seen.
-- Assumes nothing.
use mathlib.Core.Path.{◌≡◌, refl, sym, ap, ◌∙◌}
use mathlib.Core.Bool.{Bool, true, false, not, cond, ◌&&◌, true≢false}
use Prim.Native.Nat.{ℕ, ◌<◌, ◌%◌}
use native.Mathlib.Omega.{arith}
use borrow.Author.Tests.{ltb-true, ltb-false}
use lib.Dec.{ltb}
use Rattle.breakpoints.specs.declared.entry.Breakpoint.{Breakpoint}
use Rattle.process.specs.declared.record.Process.{Process}
use Rattle.breakpoints.specs.declared.entry_query.EntryQuery.TheVariants.{Free, Lifted, At}
use Rattle.breakpoints.specs.Entry.{free, breakpoint_at, with_lifted, with_count, in_use}
use Rattle.process.specs.Record.{entry, with_entry}
use Rattle.process.specs.Find.{find}
use Rattle.process.specs.Sound.{Sound}
use Rattle.breakpoints.specs.Seen.{is_planted, restored}
use Rattle.process.specs.Local.{Local, local, Proper}
use Rattle.process.specs.Planting.{planted_in, lifted_in, removed_from, replanted, lifted_at}
use Rattle.process.specs.Request.{has_break, has_room}
use Rattle.process.specs.Theorems.{seen_of}
use Rattle.process.proofs.FindLaws.{matches-free, matches-lifted, find-matches, find-before, at-matches}
use Rattle.breakpoints.proofs.SeenLaws.{Spaced, planted-used, seen-unplanted, seen-planted, seen_alike, some-set}
use Rattle.process.proofs.SoundLaws.{sound-apart}
use Rattle.process.proofs.TestedLaws.{tested-sound, tested-spaced}

-- a lifted breakpoint is not planted
lifted-not : (u l : Bool) → l ≡ true → u && not l ≡ false
lifted-not true true e = refl
lifted-not true false e = sym e
lifted-not false l e = refl

module _ (l : Local) (g : Proper l) where
  abbrev p : Process
  p = l.process

  sound : Sound p
  sound = tested-sound p l.bytes g.tested

  spaced : (k : ℕ) → k < 8 → (j : ℕ) → j < k → Spaced (entry p j) (entry p k)
  spaced k h j i = let e = g.eight in tested-spaced p l.bytes g.tested g.eight j k i (omega arith)

  -- ---- one entry

  pub seen-lifted_in : (k : ℕ) → k < 8 → seen_of (lifted_in k l) ≡ seen_of l
  unfolding lifted_in
  seen-lifted_in k h =
      let e = g.eight in
      seen-unplanted p.breaks k (with_lifted (entry p k)) l.bytes (omega arith) (lifted-not (in_use (entry p k)) true refl) (spaced k h)

  pub seen-removed_from : (k : ℕ) → k < 8 → seen_of (removed_from k l) ≡ seen_of l
  unfolding removed_from
  seen-removed_from k h = let e = g.eight in seen-unplanted p.breaks k free l.bytes (omega arith) refl (spaced k h)

  -- a breakpoint planted where no other is
  pub seen-planted_in : (k : ℕ) (b : Breakpoint) → k < 8 → is_planted (entry p k) ≡ false → in_use b ≡ true → b.address % 2 ≡ 0
      → ((j : ℕ) → j < 8 → is_planted (entry p j) ≡ true → (entry p j).address ≡ b.address → ⊥) → seen_of (planted_in k b l) ≡ seen_of l
  unfolding planted_in
  seen-planted_in k b h none used even apart =
      let e = g.eight in
      seen-planted p.breaks k b l.bytes (omega arith) none used
      (λ j i x y. record {
        different = apart j (omega arith) x;
        even = sound.even j (omega arith) (planted-used (entry p j) x);
        even-too = even;
      })

  -- ---- what finds its entry first

  pub seen-lifted_at : (pc : ℕ) → seen_of (lifted_at pc l) ≡ seen_of l
  unfolding lifted_at
  seen-lifted_at pc = go (ltb (find (At pc) p) 8) refl
    where
      go : (t : Bool) → ltb (find (At pc) p) 8 ≡ t → seen_of (cond t (lifted_in (find (At pc) p) l) l) ≡ seen_of l
      go true e = seen-lifted_in (find (At pc) p) (ltb-true _ _ e)
      go false e = refl

  pub seen-replanted : seen_of (replanted l) ≡ seen_of l
  unfolding replanted
  seen-replanted = go (ltb (find Lifted p) 8) refl
    where
      go : (t : Bool) → ltb (find Lifted p) 8 ≡ t
          → seen_of (cond t (planted_in (find Lifted p) (entry p (find Lifted p)) l) l) ≡ seen_of l
      go true e =
          let k = find Lifted p in
          let h : find Lifted p < 8 = ltb-true _ _ e in
          let m = matches-lifted (entry p k) (find-matches Lifted p g.eight h) in
          let none : is_planted (entry p k) ≡ false = lifted-not (in_use (entry p k)) (entry p k).lifted m.1 in
          seen-planted_in k (entry p k) h none m.0 (sound.even k h m.0)
          (λ j i x q. let n : j ≡ k → ⊥ = λ z. true≢false (sym x ∙ ap (λ (y : ℕ). is_planted (entry p y)) z ∙ none) in
          (sound-apart p sound j k i h n (planted-used (entry p j) x) m.0).different q)
      go false e = refl

  pub seen-removed : (a : ℕ) → has_break a p ≡ true → seen_of (removed_from (find (At a) p) l) ≡ seen_of l
  unfolding has_break
  seen-removed a e = seen-removed_from (find (At a) p) (ltb-true _ _ e)

  -- a new breakpoint, in a free entry
  pub seen-new : (host a n : ℕ) → (host ≡ 0 → ⊥) → a % 2 ≡ 0 → has_break a p ≡ false → has_room p ≡ true → seen_of (planted_in (find Free p) (breakpoint_at a n host) l) ≡ seen_of l
  unfolding has_break has_room
  seen-new host a n named even none room =
      let k = find Free p in
      let h : find Free p < 8 = ltb-true _ _ room in
      let u = matches-free (entry p k) (find-matches Free p g.eight h) in
      let past = ltb-false (find (At a) p) 8 none in
      seen-planted_in k (breakpoint_at a n host) h (rw u) (some-set (breakpoint_at a n host) named) even
      (λ j i x q. find-before (At a) p j (omega (arith, past)) (at-matches a (entry p j) (planted-used (entry p j) x) q))

  -- a count
  pub seen-count : (k n : ℕ) → seen_of (local (with_entry k (with_count n (entry p k)) p) l.bytes) ≡ seen_of l
  unfolding restored
  seen-count k n = seen_alike p.breaks k (with_count n (entry p k)) l.bytes (λ x. refl)
