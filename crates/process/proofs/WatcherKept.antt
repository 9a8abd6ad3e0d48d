-- Who watches a process stays, whatever a request other than WATCH, END WATCH, END DEBUG, CREATE and DESTROY, or a report, does to it. Assumes nothing.
use mathlib.Core.Path.{◌≡◌, refl, ap, ◌∙◌}
use mathlib.Core.Bool.{Bool, true, false, cond}
use mathlib.Core.List.{List}
use Prim.Native.Nat.{ℕ}
use lib.Dec.{ltb}
use Rattle.breakpoints.specs.declared.entry_query.EntryQuery.TheVariants.{At}
use Rattle.run_state.specs.declared.Run.TheVariants.{Stopped}
use Rattle.run_state.specs.RunState.{moving, at_break}
use Rattle.session.specs.declared.Session.{Session}
use Rattle.process.specs.declared.report.Verdict.{Verdict}
use Rattle.process.specs.declared.report.Verdict.TheVariants.{Stops, CountsDown, GoesOn}
use Rattle.process.specs.Record.{with_run, with_vector}
use Rattle.process.specs.Find.{find}
use Rattle.process.specs.Local.{Local}
use Rattle.process.specs.Planting.{planted_in, lifted_in, removed_from, replanted, lifted_at}
use Rattle.process.specs.Request.{pc, on_record, has_break, brought_to_stop, stopped, resumed, stepped, proceeded, going_to, went_on, continued, stepped_from, deposited, break_set, break_removed}
use Rattle.process.specs.Report.{store_vector_and_replant, verdict_of, passed, carried_out, reported}
use Rattle.process.proofs.PlantingLaws.{session-replanted}

-- who watches it
abbrev pub watcher_of : Local → ℕ
watcher_of l = l.process.session.watcher

watcher-cond : (t : Bool) (j k : Local) (w : ℕ) → watcher_of j ≡ w → watcher_of k ≡ w → watcher_of (cond t j k) ≡ w
watcher-cond true j k w e q = e
watcher-cond false j k w e q = q

pub watcher-replanted : (l : Local) → watcher_of (replanted l) ≡ watcher_of l
watcher-replanted l = ap (λ (s : Session). s.watcher) (session-replanted l)

pub watcher-lifted_at : (at : ℕ) (l : Local) → watcher_of (lifted_at at l) ≡ watcher_of l
unfolding lifted_at lifted_in
watcher-lifted_at at l = watcher-cond (ltb (find (At at) l.process) 8) (lifted_in (find (At at) l.process) l) l (watcher_of l) refl refl

-- ---- requests

pub watcher-stopped : (l : Local) → watcher_of (stopped l) ≡ watcher_of l
unfolding stopped brought_to_stop
watcher-stopped l = watcher-cond (moving l.process.run) (on_record (with_run Stopped) (replanted l)) l (watcher_of l) (watcher-replanted l) refl

pub watcher-stepped : (l : Local) → watcher_of (stepped l) ≡ watcher_of l
unfolding stepped
watcher-stepped l = watcher-cond (at_break l.process.run) (lifted_at (pc l.process) l) l (watcher_of l) (watcher-lifted_at (pc l.process) l) refl

pub watcher-proceeded : (l : Local) → watcher_of (proceeded l) ≡ watcher_of l
unfolding proceeded
watcher-proceeded l = watcher-lifted_at (pc l.process) l

pub watcher-continued : (a : ℕ) (l : Local) → watcher_of (continued a l) ≡ watcher_of l
unfolding continued went_on
watcher-continued a l = watcher-cond (at_break l.process.run) (proceeded (going_to a l)) (resumed (going_to a l)) (watcher_of l) (watcher-proceeded (going_to a l)) refl

pub watcher-stepped_from : (a : ℕ) (l : Local) → watcher_of (stepped_from a l) ≡ watcher_of l
unfolding stepped_from
watcher-stepped_from a l = watcher-stepped (going_to a l)

pub watcher-deposited : (at : ℕ) (string : List ℕ) (l : Local) → watcher_of (deposited at string l) ≡ watcher_of l
unfolding deposited
watcher-deposited at string l = refl

pub watcher-break_set : (host a n : ℕ) (l : Local) → watcher_of (break_set host a n l) ≡ watcher_of l
unfolding break_set planted_in
watcher-break_set host a n l = watcher-cond (has_break a l.process) _ _ (watcher_of l) refl refl

pub watcher-break_removed : (a : ℕ) (l : Local) → watcher_of (break_removed a l) ≡ watcher_of l
unfolding break_removed removed_from
watcher-break_removed a l = refl

-- ---- a report

pub watcher-stored : (words : List ℕ) (l : Local) → watcher_of (store_vector_and_replant words l) ≡ watcher_of l
unfolding store_vector_and_replant
watcher-stored words l = watcher-replanted (on_record (with_vector words) l)

pub watcher-reported : (kind : ℕ) (words : List ℕ) (l : Local) → watcher_of (reported kind words l) ≡ watcher_of l
unfolding reported passed lifted_in
watcher-reported kind words l = go (verdict_of kind (store_vector_and_replant words l).process) ∙ watcher-stored words l
  where
    go : (v : Verdict) → watcher_of (carried_out v kind (store_vector_and_replant words l)) ≡ watcher_of (store_vector_and_replant words l)
    go (Stops host) = refl
    go (CountsDown k) = refl
    go GoesOn = refl
