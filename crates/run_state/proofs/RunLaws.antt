-- Laws of run states: a number and its run state are each other's inverse, and how the questions relate. Assumes nothing.
use mathlib.Core.Path.{◌≡◌, refl, sym}
use mathlib.Core.Bool.{Bool, true, false, cond}
use Prim.Native.Nat.{ℕ, zero, suc}
use native.Mathlib.Omega.{arith}
use borrow.Author.Tests.{leb-true}
use lib.Dec.{eqb}
use Rattle.run_state.specs.declared.Run.{Run}
use Rattle.run_state.specs.declared.Run.TheVariants.{Running, Stepping, Stopped, AtBreak, Ended, Passing}
use Rattle.run_state.specs.ReportKind.{TTRAP}
use Rattle.run_state.specs.RunState.{run_number, is_run_number, run_of, moving, stepping_or_passing, stopped_or_at_break, at_break, after_pass, accepts}

-- ---- numbers

pub run-back : (r : Run) → run_of (run_number r) ≡ r
unfolding run_of
run-back Running = refl
run-back Stepping = refl
run-back Stopped = refl
run-back AtBreak = refl
run-back Ended = refl
run-back Passing = refl

pub run-formed : (r : Run) → is_run_number (run_number r) ≡ true
run-formed Running = refl
run-formed Stepping = refl
run-formed Stopped = refl
run-formed AtBreak = refl
run-formed Ended = refl
run-formed Passing = refl

pub run-forth : (x : ℕ) → is_run_number x ≡ true → run_number (run_of x) ≡ x
unfolding run_of
run-forth zero e = refl
run-forth (suc zero) e = refl
run-forth (suc (suc zero)) e = refl
run-forth (suc (suc (suc zero))) e = refl
run-forth (suc (suc (suc (suc zero)))) e = refl
run-forth (suc (suc (suc (suc (suc zero))))) e = refl
run-forth (suc (suc (suc (suc (suc (suc x)))))) e = absurd (omega (arith, leb-true (suc (suc (suc (suc (suc (suc x)))))) 5 e))

-- ---- questions

-- where RESUME is allowed no breakpoint may be lifted
pub stopped_or_at_break-still : (r : Run) → stopped_or_at_break r ≡ true → stepping_or_passing r ≡ false
stopped_or_at_break-still Running e = refl
stopped_or_at_break-still Stepping e = sym e
stopped_or_at_break-still Stopped e = refl
stopped_or_at_break-still AtBreak e = refl
stopped_or_at_break-still Ended e = refl
stopped_or_at_break-still Passing e = sym e

pub at_break-stopped : (r : Run) → at_break r ≡ true → stopped_or_at_break r ≡ true
at_break-stopped Running e = e
at_break-stopped Stepping e = e
at_break-stopped Stopped e = refl
at_break-stopped AtBreak e = refl
at_break-stopped Ended e = e
at_break-stopped Passing e = e

-- what does not move has no breakpoint lifted
pub still-not-lifting : (r : Run) → moving r ≡ false → stepping_or_passing r ≡ false
still-not-lifting Running e = refl
still-not-lifting Stepping e = e
still-not-lifting Stopped e = refl
still-not-lifting AtBreak e = refl
still-not-lifting Ended e = refl
still-not-lifting Passing e = e

stepping-or-passing-moves : (r : Run) → stepping_or_passing r ≡ true → moving r ≡ true
stepping-or-passing-moves Running e = refl
stepping-or-passing-moves Stepping e = refl
stepping-or-passing-moves Stopped e = e
stepping-or-passing-moves AtBreak e = e
stepping-or-passing-moves Ended e = e
stepping-or-passing-moves Passing e = refl

-- what passes a breakpoint may have it lifted
pub after-pass-lifts : (r : Run) → moving r ≡ true → stepping_or_passing (after_pass r) ≡ true
after-pass-lifts Running e = refl
after-pass-lifts Stepping e = refl
after-pass-lifts Stopped e = e
after-pass-lifts AtBreak e = e
after-pass-lifts Ended e = e
after-pass-lifts Passing e = refl

pub accepts-moves : (kind : ℕ) (r : Run) → accepts kind r ≡ true → moving r ≡ true
unfolding accepts
accepts-moves kind r e = go (eqb kind TTRAP) e
  where
    go : (t : Bool) → cond t (stepping_or_passing r) (moving r) ≡ true → moving r ≡ true
    go true e = stepping-or-passing-moves r e
    go false e = e
