-- What the requests that stop a process or let it go on, END WATCH, BREAK, UNBREAK and a report leave of it: whether it is there, its host, its size, and how many
-- entries, words and bytes it has. Assumes nothing.
use mathlib.Core.Path.{◌≡◌, refl, ap, ◌∙◌}
use mathlib.Core.Bool.{Bool, true, false, cond}
use mathlib.Core.List.{List}
use Prim.Native.Nat.{ℕ}
use lib.ListN.{length, set, length-set, length-map}
use lib.Dec.{ltb, eqb}
use Rattle.breakpoints.specs.declared.entry.Breakpoint.{Breakpoint}
use Rattle.breakpoints.specs.declared.entry_query.EntryQuery.TheVariants.{Free, Lifted, At}
use Rattle.breakpoints.specs.Entry.{breakpoint_at, with_count}
use Rattle.process.specs.declared.report.Verdict.{Verdict}
use Rattle.process.specs.declared.report.Verdict.TheVariants.{Stops, CountsDown, GoesOn}
use Rattle.process.specs.Record.{entry, recounted, with_run, with_vector, with_entry}
use Rattle.process.specs.Find.{find}
use Rattle.process.specs.Local.{Local}
use Rattle.process.specs.Planting.{planted_in, lifted_in, removed_from, replanted, lifted_at}
use Rattle.process.specs.Request.{pc, on_record, watched, end_watched, brought_to_stop, stopped, resumed, stepped, proceeded, vector_from, going_to, went_on, continued, stepped_from, has_break, break_set, break_removed}
use Rattle.process.specs.Report.{store_vector_and_replant, verdict_of, passed, carried_out, reported}
use Rattle.session.specs.declared.Owed.{Owed}
use Rattle.run_state.specs.declared.Run.{Run}
use Rattle.run_state.specs.declared.Run.TheVariants.{Stopped}
use Rattle.run_state.specs.RunState.{moving, at_break}
use Rattle.breakpoints.proofs.SeenLaws.{length-restored, length_seen}
use Rattle.process.proofs.PlantingLaws.{length-lifted_in}

-- all this of a process
pub record Shape : Type 0 where
  pub there : Bool
  pub host : ℕ
  pub size : ℕ
  pub entries : ℕ
  pub words : ℕ
  pub bytes : ℕ

abbrev pub shape : Local → Shape
shape l = record {
  there = l.process.there;
  host = l.process.host;
  size = l.process.size;
  entries = length l.process.breaks;
  words = length l.process.vector;
  bytes = length l.bytes;
}

-- what is the same of two that have one shape
pub same-there : {s t : Shape} → s ≡ t → s.there ≡ t.there
same-there e = ap (λ (s : Shape). s.there) e

pub same-host : {s t : Shape} → s ≡ t → s.host ≡ t.host
same-host e = ap (λ (s : Shape). s.host) e

pub same_size : {s t : Shape} → s ≡ t → s.size ≡ t.size
same_size e = ap (λ (s : Shape). s.size) e

pub same_entries : {s t : Shape} → s ≡ t → s.entries ≡ t.entries
same_entries e = ap (λ (s : Shape). s.entries) e

pub same-words : {s t : Shape} → s ≡ t → s.words ≡ t.words
same-words e = ap (λ (s : Shape). s.words) e

pub same_bytes : {s t : Shape} → s ≡ t → s.bytes ≡ t.bytes
same_bytes e = ap (λ (s : Shape). s.bytes) e

-- a choice between two of one shape has it
shape-cond : (t : Bool) (j k : Local) (s : Shape) → shape j ≡ s → shape k ≡ s → shape (cond t j k) ≡ s
shape-cond true j k s e q = e
shape-cond false j k s e q = q

-- ---- planting and lifting

shape-planted_in : (k : ℕ) (b : Breakpoint) (l : Local) → shape (planted_in k b l) ≡ shape l
unfolding planted_in
shape-planted_in k b l = simp length-set

shape-lifted_in : (k : ℕ) (l : Local) → shape (lifted_in k l) ≡ shape l
unfolding lifted_in
shape-lifted_in k l = rw (length-lifted_in k l) (simp length-set)

pub shape-replanted : (l : Local) → shape (replanted l) ≡ shape l
unfolding replanted
shape-replanted l = shape-cond (ltb (find Lifted l.process) 8) _ l (shape l) (shape-planted_in _ _ l) refl

pub shape-lifted_at : (at : ℕ) (l : Local) → shape (lifted_at at l) ≡ shape l
unfolding lifted_at
shape-lifted_at at l = shape-cond (ltb (find (At at) l.process) 8) _ l (shape l) (shape-lifted_in _ l) refl

-- ---- requests

pub shape-stopped : (l : Local) → shape (stopped l) ≡ shape l
unfolding stopped brought_to_stop
shape-stopped l = go (moving l.process.run)
  where
    go : (t : Bool) → shape (cond t (on_record (with_run Stopped) (replanted l)) l) ≡ shape l
    go true = shape-replanted l
    go false = refl

pub shape-stepped : (l : Local) → shape (stepped l) ≡ shape l
unfolding stepped
shape-stepped l = shape-cond (at_break l.process.run) (lifted_at (pc l.process) l) l (shape l) (shape-lifted_at (pc l.process) l) refl

pub shape-proceeded : (l : Local) → shape (proceeded l) ≡ shape l
unfolding proceeded
shape-proceeded l = shape-lifted_at (pc l.process) l

pub shape-end_watched : (l : Local) → shape (end_watched l) ≡ shape l
unfolding end_watched
shape-end_watched l = simp (length-map, length_seen)

pub shape-going_to : (a : ℕ) (l : Local) → shape (going_to a l) ≡ shape l
unfolding vector_from
shape-going_to a l = go (eqb a 1)
  where
    go : (t : Bool) → shape (on_record (with_vector (cond t l.process.vector (set l.process.vector 7 a))) l) ≡ shape l
    go true = refl
    go false = simp length-set

pub shape-went_on : (l : Local) → shape (went_on l) ≡ shape l
unfolding went_on
shape-went_on l = shape-cond (at_break l.process.run) (proceeded l) (resumed l) (shape l) (shape-proceeded l) refl

pub shape-continued : (a : ℕ) (l : Local) → shape (continued a l) ≡ shape l
unfolding continued
shape-continued a l = shape-went_on (going_to a l) ∙ shape-going_to a l

pub shape-stepped_from : (a : ℕ) (l : Local) → shape (stepped_from a l) ≡ shape l
unfolding stepped_from
shape-stepped_from a l = shape-stepped (going_to a l) ∙ shape-going_to a l

pub shape-break_set : (host a n : ℕ) (l : Local) → shape (break_set host a n l) ≡ shape l
unfolding break_set
shape-break_set host a n l = shape-cond (has_break a l.process) _ _ (shape l) (simp length-set) (shape-planted_in _ _ l)

pub shape-break_removed : (a : ℕ) (l : Local) → shape (break_removed a l) ≡ shape l
unfolding break_removed removed_from
shape-break_removed a l = simp (length-set, length-restored)

-- ---- what WATCH, END WATCH, BREAK and UNBREAK leave besides: the run state, the vector and the owed answer

pub record Going : Type 0 where
  pub run : Run
  pub vector : List ℕ
  pub owed : Owed

abbrev pub going : Local → Going
going l = record { run = l.process.run; vector = l.process.vector; owed = l.process.session.owed }

pub going-watched : (host : ℕ) (l : Local) → going (watched host l) ≡ going l
going-watched host l = refl

pub going-end_watched : (l : Local) → going (end_watched l) ≡ going l
unfolding end_watched
going-end_watched l = refl

pub going-break_set : (host a n : ℕ) (l : Local) → going (break_set host a n l) ≡ going l
unfolding break_set planted_in
going-break_set host a n l = go (has_break a l.process)
  where
    go : (t : Bool) → going (cond t (on_record (with_entry (find (At a) l.process) (with_count n (entry l.process (find (At a) l.process)))) l) (on_record recounted (planted_in (find Free l.process) (breakpoint_at a n host) l))) ≡ going l
    go true = refl
    go false = refl

pub going-break_removed : (a : ℕ) (l : Local) → going (break_removed a l) ≡ going l
unfolding break_removed removed_from
going-break_removed a l = refl

-- ---- a report

-- it stores its own words, and leaves the rest
pub shape-stored : (words : List ℕ) (l : Local) → shape (store_vector_and_replant words l) ≡ shape (on_record (with_vector words) l)
unfolding store_vector_and_replant
shape-stored words l = shape-replanted (on_record (with_vector words) l)

pub shape-reported : (kind : ℕ) (words : List ℕ) (l : Local) → shape (reported kind words l) ≡ shape (on_record (with_vector words) l)
unfolding reported passed
shape-reported kind words l = go (verdict_of kind (store_vector_and_replant words l).process)
  where
    go : (v : Verdict) → shape (carried_out v kind (store_vector_and_replant words l)) ≡ shape (on_record (with_vector words) l)
    go (Stops host) = shape-stored words l
    go (CountsDown k) = shape-lifted_in k _ ∙ simp length-set (shape-stored words l)
    go GoesOn = shape-stored words l
