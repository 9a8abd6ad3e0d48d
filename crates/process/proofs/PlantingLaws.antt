-- Laws of planting, lifting and removing: the bytes keep their number, and breakpoints stay within them. Assumes nothing.
use mathlib.Core.Path.{◌≡◌, refl}
use mathlib.Core.Bool.{Bool, true, false, cond}
use mathlib.Core.List.{List}
use Prim.Native.Nat.{ℕ, ◌+◌, ◌<◌}
use native.Mathlib.Omega.{arith}
use borrow.Author.Tests.{eqb-true, eqb-false, ltb-true}
use lib.ListN.{length, length-set}
use lib.Seq.{get_or-set_same, get_or-set_other}
use lib.Dec.{eqb, ltb}
use Rattle.breakpoints.specs.declared.entry.Breakpoint.{Breakpoint}
use Rattle.process.specs.declared.record.Process.{Process}
use Rattle.breakpoints.specs.declared.entry_query.EntryQuery.TheVariants.{Lifted, At}
use Rattle.breakpoints.specs.Entry.{free, in_use}
use Rattle.process.specs.Record.{entry, with_entry}
use Rattle.process.specs.Find.{find}
use Rattle.breakpoints.specs.Seen.{bpt_stored}
use Rattle.process.specs.Local.{Local, local, extent, Inside}
use Rattle.process.specs.Planting.{planted_in, lifted_in, removed_from, replanted, lifted_at}
use Rattle.process.proofs.FindLaws.{find-matches, matches-lifted}
use Rattle.breakpoints.proofs.SeenLaws.{length-restored}

-- ---- the number of bytes

pub length-planted_in : (k : ℕ) (b : Breakpoint) (l : Local) → length (planted_in k b l).bytes ≡ length l.bytes
unfolding planted_in
length-planted_in k b l = simp length-set

pub length-lifted_in : (k : ℕ) (l : Local) → length (lifted_in k l).bytes ≡ length l.bytes
unfolding lifted_in
length-lifted_in k l = length-restored (entry l.process k) l.bytes

pub length-removed_from : (k : ℕ) (l : Local) → length (removed_from k l).bytes ≡ length l.bytes
unfolding removed_from
length-removed_from k l = length-restored (entry l.process k) l.bytes

pub length-replanted : (l : Local) → length (replanted l).bytes ≡ length l.bytes
unfolding replanted
length-replanted l = go (ltb (find Lifted l.process) 8)
  where
    go : (t : Bool) → length (cond t (planted_in (find Lifted l.process) (entry l.process (find Lifted l.process)) l) l).bytes ≡ length l.bytes
    go true = length-planted_in _ _ l
    go false = refl

pub length-lifted_at : (pc : ℕ) (l : Local) → length (lifted_at pc l).bytes ≡ length l.bytes
unfolding lifted_at
length-lifted_at pc l = go (ltb (find (At pc) l.process) 8)
  where
    go : (t : Bool) → length (cond t (lifted_in (find (At pc) l.process) l) l).bytes ≡ length l.bytes
    go true = length-lifted_in _ l
    go false = refl

-- ---- the number of entries

pub length-entry : (k : ℕ) (b : Breakpoint) (p : Process) → length (with_entry k b p).breaks ≡ length p.breaks
length-entry k b p = length-set p.breaks k b

pub eight-replanted : (l : Local) → length (replanted l).process.breaks ≡ length l.process.breaks
unfolding replanted planted_in
eight-replanted l = go (ltb (find Lifted l.process) 8)
  where
    go : (t : Bool) → length (cond t (planted_in (find Lifted l.process) (entry l.process (find Lifted l.process)) l) l).process.breaks ≡ length l.process.breaks
    go true = simp length-set
    go false = refl

-- ---- the process has as many bytes as before

pub extent-replanted : (l : Local) → extent (replanted l).process ≡ extent l.process
unfolding replanted planted_in
extent-replanted l = go (ltb (find Lifted l.process) 8)
  where
    go : (t : Bool) → extent (cond t (planted_in (find Lifted l.process) (entry l.process (find Lifted l.process)) l) l).process ≡ extent l.process
    go true = refl
    go false = refl

pub extent-lifted_at : (pc : ℕ) (l : Local) → extent (lifted_at pc l).process ≡ extent l.process
unfolding lifted_at lifted_in
extent-lifted_at pc l = go (ltb (find (At pc) l.process) 8)
  where
    go : (t : Bool) → extent (cond t (lifted_in (find (At pc) l.process) l) l).process ≡ extent l.process
    go true = refl
    go false = refl

-- ---- its host debugs it, it runs and it owes as before

pub host-replanted : (l : Local) → (replanted l).process.host ≡ l.process.host
unfolding replanted planted_in
host-replanted l = go (ltb (find Lifted l.process) 8)
  where
    go : (t : Bool) → (cond t (planted_in (find Lifted l.process) (entry l.process (find Lifted l.process)) l) l).process.host ≡ l.process.host
    go true = refl
    go false = refl

pub run-replanted : (l : Local) → (replanted l).process.run ≡ l.process.run
unfolding replanted planted_in
run-replanted l = go (ltb (find Lifted l.process) 8)
  where
    go : (t : Bool) → (cond t (planted_in (find Lifted l.process) (entry l.process (find Lifted l.process)) l) l).process.run ≡ l.process.run
    go true = refl
    go false = refl

pub session-replanted : (l : Local) → (replanted l).process.session ≡ l.process.session
unfolding replanted planted_in
session-replanted l = go (ltb (find Lifted l.process) 8)
  where
    go : (t : Bool) → (cond t (planted_in (find Lifted l.process) (entry l.process (find Lifted l.process)) l) l).process.session ≡ l.process.session
    go true = refl
    go false = refl

-- ---- breakpoints within the bytes

-- another breakpoint in an entry, whose word is within them
pub inside-entry : (p : Process) (m : List ℕ) (k : ℕ) (b : Breakpoint) → length p.breaks ≡ 8 → k < 8 → Inside p m → (in_use b ≡ true → b.address + 1 < length m) → Inside (with_entry k b p) m
inside-entry p m k b eight h i w j l = go (eqb j k) refl
  where
    go : (t : Bool) → eqb j k ≡ t → in_use (entry (with_entry k b p) j) ≡ true → (entry (with_entry k b p) j).address + 1 < length m
    go true e =
        let q : entry (with_entry k b p) j ≡ b = rw (eqb-true j k e) (get_or-set_same p.breaks k b free (omega arith)) in
        rw q w
    go false e = rw (get_or-set_other p.breaks k j b free (eqb-false j k e)) (i j l)

pub inside-replanted : (p : Process) (m : List ℕ) → length p.breaks ≡ 8 → Inside p m → Inside (replanted (local p m)).process (replanted (local p m)).bytes
unfolding replanted planted_in
inside-replanted p m eight i = go (ltb (find Lifted p) 8) refl
  where
    go : (t : Bool) → ltb (find Lifted p) 8 ≡ t
        → Inside (cond t (planted_in (find Lifted p) (entry p (find Lifted p)) (local p m)) (local p m)).process
        (cond t (planted_in (find Lifted p) (entry p (find Lifted p)) (local p m)) (local p m)).bytes
    go true q =
        let low = ltb-true (find Lifted p) 8 q in
        let u = (matches-lifted (entry p (find Lifted p)) (find-matches Lifted p eight low)).0 in
        let w = i (find Lifted p) low u in
        let same : length (bpt_stored (entry p (find Lifted p)) m) ≡ length m = simp length-set in
        rw same (inside-entry p m (find Lifted p) _ eight low i (λ x. w))
    go false q = i
