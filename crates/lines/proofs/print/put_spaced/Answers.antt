-- `lines::print::put_spaced` meets its contract. The loop's invariant: the bytes passed are laid over the buffer. Assumes nothing.
use mathlib.Core.Path.{refl, ◌∙◌}
use Prim.Native.Nat.{◌<◌}
use native.Mathlib.Omega.{arith}
use lib.ListN.{length}
use Rattle.lists.specs.Buffer.{overlay}
use Rattle.lines.specs.Hex.{spaced}
use Rattle.lines.proofs.PrintLaws.{spaced-step}
use Rattle.lines.proofs.print.put_spaced.Goals as goal

pub loop-i-init : goal.loop-i-init
unfolding overlay spaced
loop-i-init c = refl

pub loop-i-preserved : goal.loop-i-preserved
loop-i-preserved c =
    let h : c.loop-i.i < length c.args.bytes.now = omega arith in
    c.put_pair.ensures ∙ spaced-step c.args.bytes.now c.args.out.now c.loop-i.out c.loop-i.i h c.requires c.loop-i.invariant
