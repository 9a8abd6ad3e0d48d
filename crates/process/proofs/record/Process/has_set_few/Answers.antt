-- `process::record::Process::has_set_few` meets its contract. The loop's invariant: those counted, and those among the entries not passed, are all; and
-- under four are counted. Assumes nothing.
use mathlib.Core.Path.{◌≡◌, sym, ap, ◌∙◌}
use Prim.Native.Nat.{◌≤◌, ◌<◌}
use native.Mathlib.Omega.{arith}
use borrow.Author.Rules.{rules}
use borrow.Author.Tests.{lt-ltb, le-ltb}
use lib.ListN.{length, drop_of_length-le}
use Rattle.process.specs.Request.{count_set_by}
use Rattle.process.proofs.WatchLaws.{count-his, count-other}
use Rattle.process.proofs.record.Process.has_set_few.Goals as goal
use Rattle.process.proofs.record.Process.has_set_few.Goals.{then-is_set_by, else-is_set_by}

pub loop-b-init : goal.loop-b-init
loop-b-init c = (omega arith, omega arith)

pub returns-then-n-eq4 : goal.returns-then-n-eq4
returns-then-n-eq4 c =
    let eight : length c.args.self.breaks ≡ 8 = search rules in
    let low : c.loop-b.b-index < length c.args.self.breaks = omega arith in
    elim c.if-is_set_by.branch [
      | then-is_set_by w ↦ let e = count-his c.args.host c.args.self.breaks c.loop-b.b-index low (sym c.is_set_by.ensures ∙ w.if-is_set_by.true) in
          sym (le-ltb (count_set_by c.args.host c.args.self.breaks) 4 (omega arith))
      | else-is_set_by w ↦ let e = count-other c.args.host c.args.self.breaks c.loop-b.b-index low (sym c.is_set_by.ensures ∙ w.if-is_set_by.false) in
          sym (le-ltb (count_set_by c.args.host c.args.self.breaks) 4 (omega arith))
    ]

pub loop-b-preserved : goal.loop-b-preserved
loop-b-preserved c =
    let eight : length c.args.self.breaks ≡ 8 = search rules in
    let low : c.loop-b.b-index < length c.args.self.breaks = omega arith in
    elim c.if-is_set_by.branch [
      | then-is_set_by w ↦ let e = count-his c.args.host c.args.self.breaks c.loop-b.b-index low (sym c.is_set_by.ensures ∙ w.if-is_set_by.true) in
          (omega arith, omega arith)
      | else-is_set_by w ↦ let e = count-other c.args.host c.args.self.breaks c.loop-b.b-index low (sym c.is_set_by.ensures ∙ w.if-is_set_by.false) in
          (omega arith, omega arith)
    ]

pub returns : goal.returns
unfolding count_set_by
returns c =
    let eight : length c.args.self.breaks ≡ 8 = search rules in
    let past : length c.args.self.breaks ≤ c.loop-b.b-index = omega arith in
    let e = ap (count_set_by c.args.host) (drop_of_length-le c.args.self.breaks past) in
    sym (lt-ltb (count_set_by c.args.host c.args.self.breaks) 4 (omega arith))
