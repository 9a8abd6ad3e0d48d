-- Laws of the entry that a BREAK goes to. Assumes nothing.
use mathlib.Core.Path.{◌≡◌, refl}
use mathlib.Core.Bool.{Bool, true, false, cond, ◌||◌}
use Prim.Native.Nat.{ℕ, ◌<◌}
use borrow.Author.Tests.{ltb-true}
use lib.ListN.{length}
use lib.Dec.{ltb}
use Rattle.process.specs.declared.record.Process.{Process}
use Rattle.breakpoints.specs.declared.entry_query.EntryQuery.TheVariants.{Free, At}
use Rattle.process.specs.Record.{entry}
use Rattle.process.specs.Find.{find}
use Rattle.process.specs.Request.{has_break, has_room, entry_for}
use Rattle.process.proofs.FindLaws.{matches-free, matches-at, find-matches}
use Rattle.breakpoints.specs.Entry.{in_use}

module _ (a : ℕ) (p : Process) where
  -- there is one where there is a breakpoint at the address, or room
  pub entry-low : ltb (entry_for a p) 8 ≡ has_break a p || has_room p
  unfolding entry_for has_break has_room
  entry-low = go (ltb (find (At a) p) 8) refl
    where
      go : (t : Bool) → ltb (find (At a) p) 8 ≡ t
          → ltb (cond (ltb (find (At a) p) 8) (find (At a) p) (find Free p)) 8 ≡ ltb (find (At a) p) 8 || ltb (find Free p) 8
      go true e = rw e e
      go false e = rw e refl

  pub entry-there : has_break a p ≡ true → entry_for a p ≡ find (At a) p
  unfolding entry_for
  entry-there e = rw e

  pub entry_new : has_break a p ≡ false → entry_for a p ≡ find Free p
  unfolding entry_for
  entry_new e = rw e

  -- it is in use where there is a breakpoint at the address
  pub entry-used : length p.breaks ≡ 8 → entry_for a p < 8 → in_use (entry p (entry_for a p)) ≡ has_break a p
  unfolding entry_for has_break
  entry-used eight low = go (ltb (find (At a) p) 8) refl
    where
      go : (t : Bool) → ltb (find (At a) p) 8 ≡ t
          → in_use (entry p (cond (ltb (find (At a) p) 8) (find (At a) p) (find Free p))) ≡ ltb (find (At a) p) 8
      go true e = rw e (matches-at a _ (find-matches (At a) p eight (ltb-true (find (At a) p) 8 e))).0
      go false e = rw e (matches-free _ (find-matches Free p eight (rw e at low)))
