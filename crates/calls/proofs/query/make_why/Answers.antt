-- `calls::query::make_why` meets its contract: the line is what the query says. Assumes nothing.
use mathlib.Core.Path.{◌≡◌, refl, ap, ◌∙◌}
use Rattle.gateway.specs.Called.{why_on}
use Rattle.display.specs.Reason.{why_line}
use Rattle.calls.specs.Meaning.{recounted, why_made}
use Rattle.calls.proofs.MeaningLaws.{prints-as}
use Rattle.calls.proofs.query.make_why.Goals as goal

pub returns : goal.returns
unfolding why_made
returns c =
    let said : c.recounted-reason.result ≡ recounted c.args.count (why_on c.args.state.now c.args.message.now) = c.recounted-reason.ensures ∙ ap (recounted c.args.count) c.why.ensures in
    record { state = refl; memory = refl; text = prints-as _ _ _ _ _ (ap why_line said) (record { size = c.put_reason.ensures.value; fits = c.put_reason.ensures.upper_bound; laid = c.put_reason.ensures.out_after }) }
