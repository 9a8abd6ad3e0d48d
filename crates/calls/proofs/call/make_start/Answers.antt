-- `calls::call::make_start` meets its contract, by whether the fresh start is granted. Assumes nothing.
use borrow.Author.Rules.{rules}
use Rattle.calls.specs.Meaning.{number_line}
use Rattle.calls.proofs.MeaningLaws.{start-refused, start-granted}
use Rattle.calls.proofs.call.make_start.Goals as goal

pub returns-then-number-ne0 : goal.returns-then-number-ne0
unfolding number_line
returns-then-number-ne0 c =
    start-refused c.fresh_start-started.result c.args.listing.there c.args.listing.sizes c.args.listing.door c.args.state.now c.args.memory.now c.fresh_start-started.new.state c.fresh_start-started.ensures c.number_of-number.result c.number_of-number.ensures
    c.if-number-ne0.true _ _ _ c.put_numbered.ensures

pub returns : goal.returns
returns c =
    start-granted c.fresh_start-started.result c.args.listing.there c.args.listing.sizes c.args.listing.door c.args.state.now c.args.memory.now c.fresh_start-started.new.state c.fresh_start-started.ensures c.number_of-number.result c.number_of-number.ensures
    c.if-number-ne0.false _ _ (search rules)
