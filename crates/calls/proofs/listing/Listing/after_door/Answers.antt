-- `calls::listing::Listing::after_door` meets its contract, by whether the number goes on. Assumes nothing.
use mathlib.Core.Path.{◌≡◌, sym, ◌∙◌}
use mathlib.Core.Bool.{true, false}
use native.Mathlib.Omega.{arith}
use Rattle.calls.specs.Listing.{goes_on, no_door, next_in}
use Rattle.calls.proofs.ListingLaws.{goes-range}
use Rattle.calls.proofs.listing.Listing.after_door.Goals as goal

pub overflow_mul-self : goal.overflow_mul-self
overflow_mul-self c = omega (arith, (goes-range no_door c.args.self.door c.args.c (sym c.goes_on.ensures ∙ c.if-goes_on.true)).1)

pub overflow_sub-c : goal.overflow_sub-c
overflow_sub-c c = (goes-range no_door c.args.self.door c.args.c (sym c.goes_on.ensures ∙ c.if-goes_on.true)).0

pub overflow_add-self : goal.overflow_add-self
overflow_add-self c = omega (arith, (goes-range no_door c.args.self.door c.args.c (sym c.goes_on.ensures ∙ c.if-goes_on.true)).1)

pub returns-then-goes_on : goal.returns-then-goes_on
unfolding next_in
returns-then-goes_on c =
    let e : goes_on no_door c.args.self.door c.args.c ≡ true = sym c.goes_on.ensures ∙ c.if-goes_on.true in
    rw e c.doored.ensures

pub returns : goal.returns
unfolding next_in
returns c =
    let e : goes_on no_door c.args.self.door c.args.c ≡ false = sym c.goes_on.ensures ∙ c.if-goes_on.false in
    rw e c.at.ensures
