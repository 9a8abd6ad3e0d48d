-- `c_api::calls::palustrode_why` meets its contract: that of the gateway's query, by whether two numbers are lent. Assumes nothing.
use mathlib.Core.Path.{◌≡◌, refl, ap, ◌∙◌}
use borrow.Author.Tests.{eq-eqb, ne_eqb}
use mir.Syntax.{w64}
use mir.Val.{to_z, of_z}
use Rattle.format.specs.Outcome.{number_of, is_granted}
use Rattle.reasons.specs.Reason.{reason_number, two_facts}
use Rattle.gateway.specs.Called.{why_on}
use Rattle.c_api.specs.Called.{minus, signed, why_with}
use Rattle.c_api.proofs.QueryLaws.{minus-signed}
use borrow.Author.Rules.{rules}
use Rattle.c_api.proofs.calls.palustrode_why.Goals as goal

pub returns-then-facts-ne2 : goal.returns-then-facts-ne2
unfolding why_with signed is_granted number_of
returns-then-facts-ne2 c memory =
    let same : to_z w64 (of_z w64 c.minus.result) ≡ c.minus.result = search rules in
    rw (ne_eqb _ 2 c.if-facts-ne2.true) (record { result-is = same ∙ c.minus.ensures; state-is = refl; memory-is = refl; buffer-is = refl })

pub returns : goal.returns
unfolding why_with
returns c memory =
    let same : to_z w64 (of_z w64 c.minus-2.result) ≡ c.minus-2.result = search rules in
    let number = c.number.ensures ∙ ap reason_number c.why-reason.ensures in
    rw (eq-eqb _ 2 c.if-facts-ne2.false)
    (record {
      result-is = same ∙ c.minus-2.ensures ∙ ap minus number ∙ minus-signed (reason_number (why_on c.args.state.now c.args.message.now));
      state-is = refl;
      memory-is = refl;
      buffer-is = c.hand_facts.ensures ∙ c.facts.ensures ∙ ap two_facts c.why-reason.ensures;
    })
