-- `process::record::Process::find` meets its contract: the place that the library's search finds is that of the first entry that matches. Assumes
-- nothing.
use mathlib.Core.Bool.{Bool, true, false, cond}
use mathlib.Core.Path.{◌≡◌, refl}
use Prim.Native.Nat.{ℕ, suc, ◌+◌}
use native.Mathlib.Omega.{arith}
use Rattle.std.proofs.Common.{rules, tests}
use Rattle.std.proofs.lemmas.Iterator.{YieldsList-from_slice}
use Rattle.std.proofs.lemmas.Iterator.Search.{position_from_yields_List}
use Rattle.std.proofs.lemmas.List.Recursion.{is_position_or_len}
use Rattle.lists.specs.First.{first}
use lib.ListN.{length}
use Rattle.breakpoints.specs.EntryQuery.{matches}
use Rattle.process.specs.Find.{find, found_entry}
use Rattle.process.proofs.record.Process.find.Goals as goal

-- one more before it
one_more : (t : Bool) (n : ℕ) → cond t 0 (suc n) ≡ cond t 0 (1 + n)
one_more true n = refl
one_more false n = omega arith

pub returns : goal.returns
unfolding find found_entry
returns c =
    let test = matches c.args.query in
    let bs = c.args.self.breaks in
    let eight : length c.args.self.breaks ≡ 8 = search rules in
    let place = is_position_or_len (first test) test refl (λ x xs. one_more (test x) (first test xs)) bs in
    rw (place, ← eight) (position_from_yields_List test _ _ _ c.position.ensures.ran (YieldsList-from_slice bs cc) (λ x b q k. search (rules, tests)))
