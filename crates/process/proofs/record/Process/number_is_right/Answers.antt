-- `process::record::Process::number_is_right` meets its contract. The loop's invariant: what is left of the number lacks those passed. Assumes nothing.
use mathlib.Core.Bool.{Bool, true, false}
use mathlib.Core.Path.{◌≡◌, refl, sym, ap}
use Prim.Native.Nat.{ℕ, ◌≤◌, ◌<◌, ◌+◌}
use native.Mathlib.Omega.{arith}
use borrow.Author.Rules.{rules}
use borrow.Author.Tests.{eq-eqb, ne_eqb, eqb-true, eqb-false}
use lib.Dec.{eqb}
use lib.ListN.{length, get_or, drop_of_length-le}
use Rattle.breakpoints.specs.Entry.{free}
use Rattle.breakpoints.proofs.SeenLaws.{none-set, some-set}
use Rattle.process.specs.Record.{count_used}
use Rattle.process.proofs.CountLaws.{count-used, count-unused}
use Rattle.process.proofs.record.Process.number_is_right.Goals as goal
use Rattle.process.proofs.record.Process.number_is_right.Goals.{then-b-ne0+else-left-eq0, else-b-ne0}

-- nothing is left where the number is that of those in use
none_left : (left number count : ℕ) → number ≡ left + count → eqb left 0 ≡ eqb number count
none_left left number count e = go (eqb left 0) refl
  where
    go : (t : Bool) → eqb left 0 ≡ t → t ≡ eqb number count
    go true z = let q = eqb-true left 0 z in sym (eq-eqb number count (omega arith))
    go false z = sym (ne_eqb number count (λ q. eqb-false left 0 z (omega arith)))

pub loop-b-init : goal.loop-b-init
loop-b-init c = omega arith

pub returns-then-left-eq0 : goal.returns-then-left-eq0
returns-then-left-eq0 c =
    let eight : length c.args.self.breaks ≡ 8 = search rules in
    let low : c.loop-b.b-index < length c.args.self.breaks = omega arith in
    let e = count-used c.args.self.breaks c.loop-b.b-index low (some-set (get_or c.args.self.breaks c.loop-b.b-index free) c.if-b-ne0.true) in
    sym (ne_eqb c.args.self.number (count_used c.args.self.breaks) (λ q. omega arith))

pub loop-b-preserved : goal.loop-b-preserved
loop-b-preserved c =
    let eight : length c.args.self.breaks ≡ 8 = search rules in
    let low : c.loop-b.b-index < length c.args.self.breaks = omega arith in
    elim c.if-b-ne0.branch [
      | then-b-ne0+else-left-eq0 w ↦ let e = count-used c.args.self.breaks c.loop-b.b-index low (some-set (get_or c.args.self.breaks c.loop-b.b-index free) w.if-b-ne0.true) in omega arith
      | else-b-ne0 w ↦ let e = count-unused c.args.self.breaks c.loop-b.b-index low (none-set (get_or c.args.self.breaks c.loop-b.b-index free) w.if-b-ne0.false) in omega arith
    ]

pub returns : goal.returns
unfolding count_used
returns c =
    let eight : length c.args.self.breaks ≡ 8 = search rules in
    let past : length c.args.self.breaks ≤ c.loop-b.b-index = omega arith in
    let e = ap count_used (drop_of_length-le c.args.self.breaks past) in
    none_left c.loop-b.left c.args.self.number (count_used c.args.self.breaks) (omega arith)
