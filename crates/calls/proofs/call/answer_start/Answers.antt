-- `calls::call::answer_start` meets its contract, by whether the line may end. Assumes nothing.
use mathlib.Core.Path.{◌≡◌, sym, ap, ◌∙◌}
use mathlib.Core.Bool.{true, false}
use Rattle.calls.specs.declared.listing.Listing.{Listing}
use Rattle.calls.specs.Listing.{complete}
use Rattle.calls.specs.Meaning.{start_listing, start_effect}
use Rattle.calls.proofs.MeaningLaws.{does-right, does-wrong, start-listing}
use Rattle.calls.proofs.call.answer_start.Goals as goal

pub returns-then-not-is_complete : goal.returns-then-not-is_complete
unfolding start_effect
returns-then-not-is_complete c =
    let line = c.args.line.now in
    let is = start-listing _ _ _ line c.new.ensures c.at_most-word.ensures.0 c.part-listing.ensures in
    let wrong : complete (start_listing line).place ≡ false = ap (λ (x : Listing). complete x.place) (sym is) ∙ sym c.is_complete.ensures ∙ c.if-not-is_complete.true in
    does-wrong _ _ _ _ _ _ _ _ _ wrong c.answer_unknown.ensures

pub returns : goal.returns
unfolding start_effect
returns c =
    let line = c.args.line.now in
    let is = start-listing _ _ _ line c.new.ensures c.at_most-word.ensures.0 c.part-listing.ensures in
    let right : complete (start_listing line).place ≡ true = ap (λ (x : Listing). complete x.place) (sym is) ∙ sym c.is_complete.ensures ∙ c.if-not-is_complete.false in
    does-right _ _ _ _ _ _ _ _ _ right (rw is at c.make_start.ensures)
