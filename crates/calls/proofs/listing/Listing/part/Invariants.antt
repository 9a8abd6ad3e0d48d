-- `calls::listing::Listing::part` meets its contract. The loop's invariant: what is left of the text leads to the same end. Assumes nothing.
use mathlib.Core.Path.{◌≡◌}
use lib.ListN.{drop}
use Rattle.calls.specs.Listing.{listed}
use Rattle.calls.proofs.listing.Listing.part.Given as goal

abbrev pub invariant-loop-c : goal.invariant-loop-c
invariant-loop-c l = listed l.listing (drop l.c-index l.text) ≡ listed l.initial.listing l.text
