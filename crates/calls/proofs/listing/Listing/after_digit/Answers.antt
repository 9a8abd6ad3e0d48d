-- `calls::listing::Listing::after_digit` meets its contract, by whether the size goes on. Assumes nothing.
use mathlib.Core.Path.{◌≡◌, sym, ◌∙◌}
use mathlib.Core.Bool.{true, false}
use native.Mathlib.Omega.{arith}
use Rattle.calls.specs.Listing.{goes_on, most_size, size_of, next_in}
use Rattle.calls.proofs.ListingLaws.{goes-range}
use Rattle.calls.proofs.listing.Listing.after_digit.Goals as goal

pub overflow_mul-size : goal.overflow_mul-size
overflow_mul-size c = omega (arith, (goes-range most_size _ c.args.c (sym c.goes_on.ensures ∙ c.if-goes_on.true)).1)

pub overflow_sub-c : goal.overflow_sub-c
overflow_sub-c c = (goes-range most_size _ c.args.c (sym c.goes_on.ensures ∙ c.if-goes_on.true)).0

pub overflow_add-size : goal.overflow_add-size
overflow_add-size c = omega (arith, (goes-range most_size _ c.args.c (sym c.goes_on.ensures ∙ c.if-goes_on.true)).1)

pub returns-then-goes_on : goal.returns-then-goes_on
unfolding next_in
returns-then-goes_on c =
    let e : goes_on most_size (size_of c.args.self) c.args.c ≡ true = rw c.number.ensures.value at (sym c.goes_on.ensures ∙ c.if-goes_on.true) in
    rw e (rw c.number.ensures.value at c.sized.ensures)

pub returns : goal.returns
unfolding next_in
returns c =
    let e : goes_on most_size (size_of c.args.self) c.args.c ≡ false = rw c.number.ensures.value at (sym c.goes_on.ensures ∙ c.if-goes_on.false) in
    rw e c.only.ensures
