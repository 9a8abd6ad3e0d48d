-- `lines::print::put_parted` meets its contract: the first pair, and the others after it. Assumes nothing.
use mathlib.Core.Path.{refl, ap, ◌∙◌}
use mathlib.Core.List.{List}
use Prim.Native.Nat.{ℕ, ◌-◌}
use native.Mathlib.Omega.{arith}
use lib.ListN.{length, take, drop, get_or}
use Rattle.lists.specs.Buffer.{overlay}
use Rattle.lists.proofs.Buffer.{laid-part}
use Rattle.lines.specs.Hex.{pair, spaced}
use Rattle.lines.specs.Scan.{kept}
use Rattle.lines.proofs.PutLaws.{kept-overlay, pairs-parted}
use Rattle.lines.proofs.print.put_parted.Goals as goal

pub returns : goal.returns
returns c =
    let xs = pair (get_or c.args.bytes.now 0 0) in
    let ys = spaced (take (length c.args.bytes.now - 1) (drop 1 c.args.bytes.now)) in
    let first = c.put.ensures.1 ∙ ap (λ (l : List ℕ). kept 0 l c.args.out.now) c.pair.ensures ∙ kept-overlay xs c.args.out.now (omega (arith, c.requires.0, c.requires.1)) in
    laid-part xs ys c.args.out.now c.put.new.out c.put_spaced.new.out 2 refl first c.put_spaced.ensures
    ∙ ap (λ (l : List ℕ). overlay l c.args.out.now) (pairs-parted c.args.bytes.now c.requires.0)
