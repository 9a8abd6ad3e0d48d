-- `calls::listing::Listing::part` meets its contract. The loop's invariant: what is left of the text leads to the same end. Assumes nothing.
use mathlib.Core.Path.{sym, ap, ◌∙◌}
use Prim.Native.Nat.{◌+◌, ◌<◌}
use native.Mathlib.Omega.{arith}
use lib.ListN.{length, drop}
use Rattle.calls.specs.declared.listing.Listing.{Listing}
use Rattle.calls.specs.Listing.{listed}
use Rattle.calls.proofs.ListingLaws.{listed-turn, listed-end}
use Rattle.calls.proofs.listing.Listing.part.Goals as goal

pub loop-c-preserved : goal.loop-c-preserved
loop-c-preserved c =
    let t = c.args.text.now in
    let i = c.loop-c.c-index in
    let h : i < length t = omega arith in
    ap (λ (r : Listing). listed r (drop (i + 1) t)) c.push-listing.ensures ∙ sym (listed-turn c.loop-c.listing t i h) ∙ c.loop-c.invariant

pub returns : goal.returns
returns c =
    let t = c.args.text.now in
    sym (listed-end c.loop-c.listing t c.loop-c.c-index (omega arith)) ∙ c.loop-c.invariant
