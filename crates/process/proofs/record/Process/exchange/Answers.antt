-- `process::record::Process::exchange` meets its contract. The loop's invariant: the breakpoints passed are put back in memory, and each has the word that was there. That word is still the one of the memory before, since no two breakpoints of a sound record meet. Assumes nothing.
use mathlib.Core.List.{List}
use mathlib.Core.Path.{◌≡◌, refl, sym, ap, ◌∙◌}
use Prim.Native.Nat.{ℕ, ◌<◌}
use native.Mathlib.Omega.{arith}
use borrow.Author.Rules.{rules}
use lib.Seq.{take-length}
use lib.ListN.{length, take, get_or}
use Rattle.breakpoints.specs.Seen.{seen, saved_from, restored}
use Rattle.breakpoints.specs.Entry.{free}
use Rattle.process.specs.Record.{with_breaks}
use Rattle.breakpoints.specs.declared.entry.Breakpoint.{Breakpoint}
use Rattle.process.proofs.DepositLaws.{saved_from-passed}
use Rattle.process.proofs.TestedLaws.{tested-inside, tested-spaced}
use Rattle.process.proofs.TurnLaws.{still-there}
use Rattle.breakpoints.proofs.SeenLaws.{length_seen, seen_step}
use Rattle.lists.proofs.MapStep.{map-step, map_whole}
use Rattle.process.proofs.record.Process.exchange.Goals as goal

pub loop-b-init : goal.loop-b-init
unfolding seen
loop-b-init c = (refl, refl)

pub exchange-requires : goal.exchange-requires
exchange-requires c =
    let bs = c.args.self.breaks in
    let k = c.loop-b.b-index in
    let eight : length c.args.self.breaks ≡ 8 = search rules in
    let below : k < length bs = omega arith in
    let same = ap length c.loop-b.invariant.0 ∙ length_seen (take k bs) c.args.bytes.now in
    let here : get_or c.loop-b.b-items k free ≡ get_or bs k free = ap (λ (x : List Breakpoint). get_or x k free) c.loop-b.invariant.1 ∙ still-there (saved_from c.args.bytes.now) free bs k below in
    rw here (λ u. omega (arith, tested-inside c.args.self c.args.bytes.now c.requires k c.loop-b-test.true u, same))

pub loop-b-preserved : goal.loop-b-preserved
loop-b-preserved c =
    let bs = c.args.self.breaks in
    let m = c.args.bytes.now in
    let k = c.loop-b.b-index in
    let eight : length c.args.self.breaks ≡ 8 = search rules in
    let below : k < length bs = omega arith in
    let b = get_or bs k free in
    let here : get_or c.loop-b.b-items k free ≡ get_or bs k free = ap (λ (x : List Breakpoint). get_or x k free) c.loop-b.invariant.1 ∙ still-there (saved_from m) free bs k below in
    let spaced = tested-spaced c.args.self m c.requires eight in
    let saved = rw here at c.exchange.ensures.value ∙ ap (λ (x : List ℕ). saved_from x b) c.loop-b.invariant.0 ∙ saved_from-passed bs m k below spaced in (
      rw here at c.exchange.ensures.bytes_after ∙ ap (restored b) c.loop-b.invariant.0 ∙ sym (seen_step bs m k below),
      rw (saved, c.loop-b.invariant.1) (map-step (saved_from m) free bs bs k below below),
    )

pub returns : goal.returns
returns c =
    let bs = c.args.self.breaks in
    let m = c.args.bytes.now in
    let k = c.loop-b.b-index in
    let eight : length c.args.self.breaks ≡ 8 = search rules in
    let all : length bs ≡ k = omega arith in
    let whole : take k bs ≡ bs = rw (← all) (take-length bs) in record {
      value = ap (λ (x : List Breakpoint). with_breaks x c.args.self) (c.loop-b.invariant.1 ∙ map_whole (saved_from m) free bs bs k (omega arith) (omega arith));
      bytes_after = c.loop-b.invariant.0 ∙ ap (λ (x : List Breakpoint). seen x m) whole;
    }
