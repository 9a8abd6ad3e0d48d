-- `c_api::calls::palustrode_fresh_start` meets its contract: that of the gateway's fresh start, where the sizes are eight and no bit is above the
-- eighth. Assumes nothing.
use mathlib.Core.Path.{◌≡◌, refl, sym, ap, ◌∙◌, subst}
use mir.Syntax.{w64}
use mir.Val.{to_z, of_z}
use Rattle.gateway.specs.Called.{StartResult}
use Rattle.c_api.specs.Called.{minus, Short, start_number}
use Rattle.c_api.proofs.ReturnLaws.{start-returns}
use Rattle.c_api.proofs.StartLaws.{start-same, start-over, start-uneven, start_on-short, start-signed}
use borrow.Author.Rules.{rules}
use Rattle.c_api.proofs.calls.palustrode_fresh_start.Goals as goal

pub returns-then-sizes-ne8 : goal.returns-then-sizes-ne8
returns-then-sizes-ne8 c =
    let same : to_z w64 (of_z w64 c.minus.result) ≡ c.minus.result = search rules in
    rw (start-uneven c.args.there c.args.sizes.now c.args.door c.args.state.now c.if-sizes-ne8.true)
    (record { result-is = same ∙ c.minus.ensures ∙ start-signed 1; state-is = refl })

pub returns-then-there-ge256 : goal.returns-then-there-ge256
returns-then-there-ge256 c =
    let same : to_z w64 (of_z w64 c.minus-then-there-ge256.result) ≡ c.minus-then-there-ge256.result = search rules in
    rw (start-over c.args.there c.args.sizes.now c.args.door c.args.state.now c.if-there-ge256.true)
    (record { result-is = same ∙ c.minus-then-there-ge256.ensures ∙ ap minus c.start_refusal.ensures ∙ start-signed (start_number c.args.there c.args.sizes.now c.args.state.now); state-is = refl })

pub signed-requires : goal.signed-requires
signed-requires c = subst Short (sym (ap (λ (x : StartResult). x.outcome) c.fresh_start-outcome.ensures)) (start_on-short _ _ _ _)

pub returns : goal.returns
returns c =
    let same : to_z w64 (of_z w64 c.signed.result) ≡ c.signed.result = search rules in
    rw (start-same c.args.there c.args.sizes.now c.args.door c.args.state.now c.if-there-ge256.false c.if-sizes-ne8.false)
    (start-returns _ _ _ (rw (c.bits.ensures, c.eight.ensures, c.byte_of.ensures) at c.fresh_start-outcome.ensures) _ (same ∙ c.signed.ensures))
