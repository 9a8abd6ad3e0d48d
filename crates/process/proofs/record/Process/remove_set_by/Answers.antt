-- `process::record::Process::remove_set_by` meets its contract. The loop's invariant: of the breakpoints passed those of the host are put back in memory, and their entries are free. Assumes nothing.
use mathlib.Core.List.{List, [], map}
use mathlib.Core.Path.{◌≡◌, refl, sym, ap, ap₂, ◌∙◌}
use Prim.Native.Nat.{ℕ, ◌≤◌, ◌<◌, ◌+◌}
use native.Mathlib.Omega.{arith}
use borrow.Author.Rules.{rules}
use lib.Seq.{take_all}
use lib.ListN.{length, take, get_or, length-map, drop_of_length-le}
use Rattle.breakpoints.specs.declared.entry.Breakpoint.{Breakpoint}
use Rattle.breakpoints.specs.Seen.{seen, restored}
use Rattle.breakpoints.specs.Entry.{free}
use Rattle.process.specs.Record.{with_breaks, with_number, count_used}
use Rattle.process.specs.Request.{count_set_by, without_his, only_his}
use Rattle.breakpoints.proofs.SeenLaws.{length_seen, seen_step}
use Rattle.lists.proofs.MapStep.{map-step, map_whole}
use Rattle.process.proofs.CountLaws.{count-without}
use Rattle.process.proofs.TestedLaws.{tested-inside, tested-counted}
use Rattle.process.proofs.TurnLaws.{still-there}
use Rattle.process.proofs.WatchLaws.{getD-only, count-his, count-other}
use Rattle.process.proofs.record.Process.remove_set_by.Goals as goal
use Rattle.process.proofs.record.Process.remove_set_by.Goals.{then-is_set_by, else-is_set_by}

-- of no entries none is his
none-of-none : (n host : ℕ) → n + count_set_by host [] ≡ n
unfolding count_set_by
none-of-none n host = omega arith

pub loop-b-init : goal.loop-b-init
unfolding seen
loop-b-init c =
    (refl, refl, tested-counted c.args.self c.args.bytes.now c.requires ∙ count-without c.args.host c.args.self.breaks)

pub without_his-requires : goal.without_his-requires
without_his-requires c =
    let bs = c.args.self.breaks in
    let os = map (only_his c.args.host) c.args.self.breaks in
    let k = c.loop-b.b-index in
    let eight : length c.args.self.breaks ≡ 8 = search rules in
    let below : k < length bs = omega arith in
    let same = ap length c.loop-b.invariant.0 ∙ length_seen (take k os) c.args.bytes.now in
    let here : get_or c.loop-b.b-items k free ≡ get_or bs k free = ap (λ (x : List Breakpoint). get_or x k free) c.loop-b.invariant.1 ∙ still-there (without_his c.args.host) free bs k below in
    rw here (λ u. omega (arith, tested-inside c.args.self c.args.bytes.now c.requires k c.loop-b-test.true u, same))

pub overflow_sub-number : goal.overflow_sub-number
overflow_sub-number c =
    let bs = c.args.self.breaks in
    let k = c.loop-b.b-index in
    let eight : length c.args.self.breaks ≡ 8 = search rules in
    let below : k < length bs = omega arith in
    let here : get_or c.loop-b.b-items k free ≡ get_or bs k free = ap (λ (x : List Breakpoint). get_or x k free) c.loop-b.invariant.1 ∙ still-there (without_his c.args.host) free bs k below in
    omega (arith, count-his c.args.host bs k below (rw here at (sym c.is_set_by.ensures ∙ c.if-is_set_by.true)), c.loop-b.invariant.2)

pub loop-b-preserved : goal.loop-b-preserved
loop-b-preserved c =
    let host = c.args.host in
    let bs = c.args.self.breaks in
    let os = map (only_his c.args.host) c.args.self.breaks in
    let m = c.args.bytes.now in
    let k = c.loop-b.b-index in
    let eight : length c.args.self.breaks ≡ 8 = search rules in
    let below : k < length bs = omega arith in
    let low : k < length os = rw (length-map bs (only_his host)) below in
    let here : get_or c.loop-b.b-items k free ≡ get_or bs k free = ap (λ (x : List Breakpoint). get_or x k free) c.loop-b.invariant.1 ∙ still-there (without_his host) free bs k below in
    let step = rw (getD-only host bs k) at (seen_step os m k low) in (
      rw here at c.without_his.ensures.bytes_after ∙ ap (restored (only_his host (get_or bs k free))) c.loop-b.invariant.0 ∙ sym step,
      rw (rw here at c.without_his.ensures.value, c.loop-b.invariant.1) (map-step (without_his host) free bs bs k below below),
      elim c.if-is_set_by.branch [
        | then-is_set_by w ↦ omega (arith, count-his host bs k below (rw here at (sym c.is_set_by.ensures ∙ w.if-is_set_by.true)), c.loop-b.invariant.2)
        | else-is_set_by w ↦ omega (arith, count-other host bs k below (rw here at (sym c.is_set_by.ensures ∙ w.if-is_set_by.false)), c.loop-b.invariant.2)
      ],
    )

pub returns : goal.returns
returns c =
    let host = c.args.host in
    let bs = c.args.self.breaks in
    let os = map (only_his c.args.host) c.args.self.breaks in
    let m = c.args.bytes.now in
    let k = c.loop-b.b-index in
    let eight : length c.args.self.breaks ≡ 8 = search rules in
    let past : length bs ≤ k = omega arith in
    let all : length os ≤ k = rw (length-map bs (only_his host)) past in record {
      value = ap₂ (λ (x : List Breakpoint) (n : ℕ). with_number n (with_breaks x c.args.self))
          (c.loop-b.invariant.1 ∙ map_whole (without_his host) free bs bs k (omega arith) (omega arith))
          (c.loop-b.invariant.2 ∙ ap (λ (rest : List Breakpoint). count_used (map (without_his host) bs) + count_set_by host rest) (drop_of_length-le bs past) ∙ none-of-none _ host);
      bytes_after = c.loop-b.invariant.0 ∙ ap (λ (x : List Breakpoint). seen x m) (take_all k os all);
    }
