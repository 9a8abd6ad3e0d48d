-- `calls::show::put_slot` meets its contract. Assumes nothing.
use mathlib.Core.Path.{ap}
use Rattle.lines.specs.Hex.{pairs_line}
use Rattle.calls.proofs.MeaningLaws.{prints-as, part-slot}
use Rattle.calls.proofs.show.put_slot.Goals as goal

pub returns : goal.returns
returns c =
    let same = part-slot c.args.from c.args.count c.at_most-start.result c.at_most-end.result c.args.memory.now c.at_most-start.ensures.0 c.at_most-end.ensures.0 in
    prints-as _ _ _ _ _ (ap pairs_line same) (record { size = c.put_pairs.ensures.value; fits = c.put_pairs.ensures.upper_bound; laid = c.put_pairs.ensures.out_after })
