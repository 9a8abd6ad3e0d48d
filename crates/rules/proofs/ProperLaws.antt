-- What a request or report leaves of a process is again a sound record with eight entries and its bytes. Assumes nothing.
use mathlib.Core.Path.{◌≡◌, refl, sym, ◌∙◌}
use mathlib.Core.Bool.{Bool, true, false, cond}
use mathlib.Core.List.{List, [], map}
use Prim.Native.Nat.{ℕ, ◌+◌, ◌≤◌}
use native.Mathlib.Omega.{arith}
use lib.ListN.{length, set, length-set, length-map, length-replicate}
use lib.Seq.{length-paste}
use Rattle.run_state.specs.declared.Run.TheVariants.{Running}
use Rattle.process.specs.Record.{fresh, with_run, with_vector}
use Rattle.process.specs.Sound.{Sound, SizeRight}
use Rattle.run_state.specs.RunState.{stopped_or_at_break, at_break, accepts}
use Rattle.breakpoints.specs.Seen.{seen, saved_from}
use Rattle.process.specs.Request.{sheltered}
use Rattle.process.specs.Local.{Local, local, extent, Proper}
use Rattle.process.specs.Planting.{removed_from}
use Rattle.process.specs.Request.{on_record, has_break, end_debugged, stepped, proceeded, to_be_seen, deposited, break_removed, created, cleared}
use Rattle.process.specs.Report.{reported}
use Rattle.process.proofs.ReportLaws.{length-reported, eight-reported, extent-reported}
use Rattle.process.proofs.SoundTestLaws.{sound-passes}
use Rattle.breakpoints.proofs.SeenLaws.{length_seen}
use Rattle.process.proofs.TestedLaws.{tested-sound}
use Rattle.process.proofs.PlantingLaws.{length-removed_from}
use Rattle.process.proofs.KeptLaws.{shape-stepped, shape-proceeded}
use Rattle.process.proofs.ProperLaws.{shape-proper}
use Rattle.process.proofs.TheoremLaws.{sound-stays}

pub sound-of : (l : Local) → Proper l → Sound l.process
sound-of l g = tested-sound l.process l.bytes g.tested

pub proper-of : (l : Local) → Sound l.process → length l.process.breaks ≡ 8 → length l.bytes ≡ extent l.process → Proper l
proper-of l s eight size = record { tested = record { sound = sound-passes l.process eight s; size = size }; eight = eight }

-- ---- numbers of entries and bytes

-- a choice between two that keep a number keeps it
pub by_cond : {A : Type 0} (f : A → ℕ) (t : Bool) (x y : A) (n : ℕ) → f x ≡ n → f y ≡ n → f (cond t x y) ≡ n
by_cond f true x y n e q = e
by_cond f false x y n e q = q

abbrev entries : Local → ℕ
entries l = length l.process.breaks

abbrev size : Local → ℕ
size l = length l.bytes

entries-removed_from : (k : ℕ) (l : Local) → entries (removed_from k l) ≡ entries l
unfolding removed_from
entries-removed_from k l = simp length-set

-- ---- each request

-- how many bytes the record says that there are
abbrev asked : Local → ℕ
asked l = extent l.process

module _ (l : Local) (g : Proper l) where
  -- as many entries and bytes as before
  kept-proper : (k : Local) → Sound k.process → entries k ≡ entries l → size k ≡ size l → asked k ≡ asked l → Proper k
  kept-proper k sound e n x = proper-of k sound (e ∙ g.eight) (n ∙ g.tested.size ∙ sym x)

  pub end-debug-proper : Proper (end_debugged l)
  unfolding end_debugged
  end-debug-proper = proper-of (end_debugged l) (sound-stays.end-debug l g) refl (length_seen l.process.breaks l.bytes ∙ g.tested.size)

  pub step-proper : stopped_or_at_break l.process.run ≡ true → Proper (stepped l)
  step-proper e = shape-proper (stepped l) l (shape-stepped l) (sound-stays.step l g e) g

  pub proceed-proper : at_break l.process.run ≡ true → Proper (proceeded l)
  proceed-proper e = shape-proper (proceeded l) l (shape-proceeded l) (sound-stays.proceed l g e) g

  pub deposit-proper : (at : ℕ) (string : List ℕ) → at + length string ≤ length l.bytes → Proper (deposited at string l)
  unfolding deposited sheltered
  deposit-proper at string h =
      let bs = l.process.breaks in
      let whole = length_seen bs l.bytes in
      let pasted = length-paste (seen bs l.bytes) at string (length string) (omega (arith, whole)) (omega arith) in
      kept-proper (deposited at string l) (sound-stays.deposit at string l g)
      (length-map bs (saved_from (to_be_seen at string l)))
      (length_seen (map (saved_from l.bytes) bs) (to_be_seen at string l) ∙ pasted ∙ whole)
      refl

  pub unbreak-proper : (a : ℕ) → has_break a l.process ≡ true → Proper (break_removed a l)
  unfolding break_removed removed_from
  unbreak-proper a e =
      kept-proper (break_removed a l) (sound-stays.unbreak a l g e) (entries-removed_from _ l) (length-removed_from _ l) refl

  -- a report
  pub report-proper : (kind : ℕ) (words : List ℕ) → accepts kind l.process.run ≡ true → Proper (reported kind words l)
  report-proper kind words e =
      kept-proper (reported kind words l) (sound-stays.report kind words l g e) (eight-reported kind words l) (length-reported kind words l) (extent-reported kind words l)

-- ---- a new process, and one that is gone

-- whatever its bytes are
pub new-proper : (host size : ℕ) (bytes : List ℕ) → SizeRight size → length bytes ≡ size → Proper (local (created host size).process bytes)
unfolding created fresh
new-proper host size bytes right long = proper-of (local (created host size).process bytes) (sound-stays.create host size right) refl long

pub create-size : (host size : ℕ) → length (created host size).bytes ≡ size
unfolding created
create-size host size = length-replicate {A = ℕ} size 0

pub destroy-proper : Proper (local cleared [])
unfolding cleared fresh
destroy-proper = proper-of (local cleared []) sound-stays.destroy refl refl

-- ---- the record alone

pub resume-proper : (l : Local) → Proper l → stopped_or_at_break l.process.run ≡ true → Proper (on_record (with_run Running) l)
resume-proper l g e = proper-of (on_record (with_run Running) l) (sound-stays.resume l.process (sound-of l g) e) g.eight g.tested.size

pub vector-proper : (v : List ℕ) (l : Local) → Proper l → Proper (on_record (with_vector v) l)
vector-proper v l g = proper-of (on_record (with_vector v) l) (sound-stays.deposit-vector v l.process (sound-of l g)) g.eight g.tested.size

-- a byte that the machine stores
pub store-proper : (a v : ℕ) (l : Local) → Proper l → Proper (local l.process (set l.bytes a v))
store-proper a v l g = proper-of (local l.process (set l.bytes a v)) (sound-of l g) g.eight (length-set l.bytes a v ∙ g.tested.size)
