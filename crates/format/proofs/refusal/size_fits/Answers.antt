-- `format::refusal::size_fits` meets its contract, by the two cases. Assumes nothing.
use mathlib.Core.Path.{◌≡◌}
use Prim.Native.Nat.{◌%◌}
use borrow.Author.Tests.{eq-eqb, ne_eqb}
use Rattle.format.proofs.refusal.size_fits.Goals as goal

pub returns-then-size-eq0 : goal.returns-then-size-eq0
returns-then-size-eq0 c =
    let n = c.args.size in
    let even : n % 2 ≡ 0 = c.if-size-eq0.true in
    rw (eq-eqb (n % 2) 0 even)

pub returns-else-size-eq0 : goal.returns-else-size-eq0
returns-else-size-eq0 c =
    let n = c.args.size in
    let odd : n % 2 ≡ 0 → ⊥ = c.if-size-eq0.false in
    rw (ne_eqb (n % 2) 0 odd)
