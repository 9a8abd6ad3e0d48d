-- `packets::block::halve_to_fit` meets its contract. The loop's invariant: the lengths that are left lead to the block. Assumes nothing.
use Rattle.std.proofs.Common.{Some}
use mathlib.Core.Path.{◌≡◌, refl, sym, ap, ◌∙◌}
use mathlib.Core.Bool.{true, false}
use native.Mathlib.Omega.{arith}
use Rattle.packets.specs.declared.units.WordAddress.{WordAddress}
use Rattle.packets.specs.Units.{holds}
use Rattle.packets.specs.Block.{base_of}
use Rattle.packets.proofs.LengthLaws.{some-sendable, none-or-most, half-sendable}
use Rattle.packets.proofs.BlockLaws.{halved_none, halved-fits, halved-next}
use Rattle.packets.proofs.block.halve_to_fit.Goals as goal

pub loop-count-init : goal.loop-count-init
loop-count-init c = (6, omega (arith, none-or-most c.args.longest.0 c.requires), c.requires, refl)

pub base_of-base-requires : goal.base_of-base-requires
base_of-base-requires c =
    some-sendable c.loop-count.count.0 c.loop-count.invariant.2 c.loop-count-test.true

pub returns-then-holds : goal.returns-then-holds
returns-then-holds c =
    let fits : holds c.args.size (base_of c.args.at c.loop-count.count) c.loop-count.count ≡ true =
    ap (λ (base : WordAddress). holds c.args.size base c.loop-count.count) (sym c.base_of-base.ensures) ∙ sym c.holds.ensures ∙ c.if-holds.true in
    ap (λ (base : WordAddress). Some (base, c.loop-count.count)) c.base_of-base.ensures
    ∙ sym (halved-fits c.args.size c.args.at c.loop-count.count c.loop-count.invariant.0 c.loop-count-test.true c.loop-count.invariant.1 fits)
    ∙ c.loop-count.invariant.3

pub loop-count-preserved : goal.loop-count-preserved
loop-count-preserved c =
    let past : holds c.args.size (base_of c.args.at c.loop-count.count) c.loop-count.count ≡ false =
    ap (λ (base : WordAddress). holds c.args.size base c.loop-count.count) (sym c.base_of-base.ensures) ∙ sym c.holds.ensures ∙ c.if-holds.false in
    let next = halved-next c.args.size c.args.at c.loop-count.count c.loop-count.invariant.0 c.loop-count-test.true c.loop-count.invariant.1 past in
    let rest = half-sendable c.loop-count.count.0 (some-sendable c.loop-count.count.0 c.loop-count.invariant.2 c.loop-count-test.true) in
    rw c.half-count.ensures (next.0, next.1, rest, next.2 ∙ c.loop-count.invariant.3)

pub returns : goal.returns
returns c =
    sym (halved_none c.args.size c.args.at c.loop-count.count c.loop-count.invariant.0 (omega (arith, c.loop-count-test.false))) ∙ c.loop-count.invariant.3
