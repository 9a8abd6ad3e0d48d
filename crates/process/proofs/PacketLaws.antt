-- What a tick does where a Go waits, and what packets and ticks leave of a process: whether it is there, its host, its size, and how many entries, words and
-- bytes it has. Assumes nothing.
use mathlib.Core.Path.{◌≡◌, refl, ap, ◌∙◌}
use mathlib.Core.Bool.{Bool, true, false, cond}
use mathlib.Core.List.{List, [], ◌∷◌, map}
use Prim.Native.Nat.{ℕ, ◌+◌, ◌≤◌}
use native.Mathlib.Omega.{arith}
use lib.ListN.{length, length-map}
use lib.Seq.{length-paste}
use Rattle.lists.specs.Word.{low, high}
use Rattle.run_state.specs.declared.Run.TheVariants.{Running}
use Rattle.run_state.specs.RunState.{stopped_or_at_break}
use Rattle.session.specs.Session.{new_go, ticked_go, waits_for, answers_go, is_last_tick}
use Rattle.breakpoints.specs.Seen.{seen, saved_from}
use Rattle.breakpoints.proofs.SeenLaws.{length_seen}
use Rattle.process.specs.declared.record.Process.{Process}
use Rattle.process.specs.Record.{with_run, going}
use Rattle.process.specs.Local.{Local}
use Rattle.process.specs.Request.{on_record, sheltered, to_be_seen, deposited}
use Rattle.process.specs.Packet.{go_of, without_go, go_asked, go_ended, go_replied, ticked, word_stored}
use Rattle.process.proofs.KeptLaws.{shape}

-- ---- a tick where a Go waits

module _ (p : Process) (e : (go_of p).waits ≡ true) where
  by_last : ticked p ≡ cond (is_last_tick (go_of p)) (go_ended p) (going (ticked_go (go_of p)) p)
  unfolding ticked
  by_last = ap (λ (t : Bool). cond t (cond (is_last_tick (go_of p)) (go_ended p) (going (ticked_go (go_of p)) p)) p) e

  -- the hundredth
  pub ticked-last : is_last_tick (go_of p) ≡ true → ticked p ≡ go_ended p
  ticked-last q = by_last ∙ ap (λ (t : Bool). cond t (go_ended p) (going (ticked_go (go_of p)) p)) q

  -- one before it
  pub ticked-on : is_last_tick (go_of p) ≡ false → ticked p ≡ going (ticked_go (go_of p)) p
  ticked-on q = by_last ∙ ap (λ (t : Bool). cond t (go_ended p) (going (ticked_go (go_of p)) p)) q

-- ---- what stays

pub shape-go_asked : (id : ℕ) (l : Local) → shape (on_record (go_asked id) l) ≡ shape l
unfolding go_asked
shape-go_asked id l = go (waits_for id (go_of l.process))
  where
    go : (t : Bool) → shape (on_record (λ p. cond t p (going (new_go id) p)) l) ≡ shape l
    go true = refl
    go false = refl

pub shape-go_ended : (l : Local) → shape (on_record go_ended l) ≡ shape l
unfolding go_ended
shape-go_ended l = go (stopped_or_at_break l.process.run)
  where
    go : (t : Bool) → shape (on_record (λ p. cond t (with_run Running (without_go p)) (without_go p)) l) ≡ shape l
    go true = refl
    go false = refl

pub shape-go_replied : (id : ℕ) (l : Local) → shape (on_record (go_replied id) l) ≡ shape l
unfolding go_replied
shape-go_replied id l = go (answers_go id (go_of l.process))
  where
    go : (t : Bool) → shape (on_record (λ p. cond t (go_ended p) (without_go p)) l) ≡ shape l
    go true = shape-go_ended l
    go false = refl

pub shape-ticked : (l : Local) → shape (on_record ticked l) ≡ shape l
unfolding ticked
shape-ticked l = go (go_of l.process).waits (is_last_tick (go_of l.process))
  where
    go : (t u : Bool) → shape (on_record (λ p. cond t (cond u (go_ended p) (going (ticked_go (go_of p)) p)) p) l) ≡ shape l
    go true true = shape-go_ended l
    go true false = refl
    go false u = refl

shape-deposited : (at : ℕ) (string : List ℕ) (l : Local) → at + length string ≤ length l.bytes → shape (deposited at string l) ≡ shape l
unfolding deposited sheltered
shape-deposited at string l h =
    let bs = l.process.breaks in
    let whole = length_seen bs l.bytes in
    let pasted = length-paste (seen bs l.bytes) at string (length string) (omega (arith, whole)) (omega arith) in
    let bytes = length_seen (map (saved_from l.bytes) bs) (to_be_seen at string l) ∙ pasted ∙ whole in
    rw (length-map bs (saved_from (to_be_seen at string l)), bytes)

-- a word that is within the process's bytes
pub shape-word_stored : (first v : ℕ) (l : Local) → first + 2 ≤ length l.bytes → shape (word_stored first v l) ≡ shape l
unfolding word_stored
shape-word_stored first v l h = shape-deposited first (low v ∷ high v ∷ []) l h
