-- `c_api::desk::palustrode_write_request` meets its contract: that of the desk's writer, where every field has room for its number. Assumes nothing.
use mathlib.Core.Path.{◌≡◌, refl, sym, ap, ◌∙◌, subst}
use mathlib.Core.Bool.{Bool, true}
use Prim.Native.Nat.{ℕ}
use native.Mathlib.Omega.{arith}
use mir.Syntax.{w64}
use mir.Val.{to_z, of_z}
use Rattle.c_api.specs.Called.{minus, signed, Short}
use Rattle.c_api.specs.Desk.{fields, fields_fit}
use Rattle.c_api.specs.InRange.{Fits}
use Rattle.c_api.proofs.DeskLaws.{fits, fit-writes, misfit-writes, writes_short}
use borrow.Author.Rules.{rules}
use Rattle.format.specs.Outcome.{number_of, is_granted}
use Rattle.c_api.proofs.desk.palustrode_write_request.Goals as goal

-- the fields of a request whose tests are passed
module _ (host cmd pid arg1 arg2 : ℕ) (fit : Bool) (e : fit ≡ fields_fit (fields host cmd pid arg1 arg2)) (yes : fit ≡ true) where
  known : Fits (fields host cmd pid arg1 arg2)
  known = fits (fields host cmd pid arg1 arg2) (sym e ∙ yes)

pub returns-then-not-fields_fit : goal.returns-then-not-fields_fit
unfolding signed is_granted number_of
returns-then-not-fields_fit c =
    let h = fields c.args.host c.args.cmd c.args.pid c.args.arg1 c.args.arg2 in
    let same : to_z w64 (of_z w64 c.minus.result) ≡ c.minus.result = search rules in
    rw (misfit-writes h c.args.string.now c.args.request.now (sym c.fields_fit.ensures ∙ c.if-not-fields_fit.true))
    (record { result-is = same ∙ c.minus.ensures ∙ ap minus c.misfit_refusal.ensures; buffer-is = refl })

pub overflow_cast-header : goal.overflow_cast-header
overflow_cast-header c = omega (arith, (known _ _ _ _ _ _ c.fields_fit.ensures c.if-not-fields_fit.false).host)

pub overflow_cast-header-2 : goal.overflow_cast-header-2
overflow_cast-header-2 c = omega (arith, (known _ _ _ _ _ _ c.fields_fit.ensures c.if-not-fields_fit.false).cmd)

pub overflow_cast-header-3 : goal.overflow_cast-header-3
overflow_cast-header-3 c = omega (arith, (known _ _ _ _ _ _ c.fields_fit.ensures c.if-not-fields_fit.false).pid)

pub overflow_cast-header-4 : goal.overflow_cast-header-4
overflow_cast-header-4 c = omega (arith, (known _ _ _ _ _ _ c.fields_fit.ensures c.if-not-fields_fit.false).arg1)

pub overflow_cast-header-5 : goal.overflow_cast-header-5
overflow_cast-header-5 c = omega (arith, (known _ _ _ _ _ _ c.fields_fit.ensures c.if-not-fields_fit.false).arg2)

pub signed-requires : goal.signed-requires
signed-requires c =
    let h = fields c.args.host c.args.cmd c.args.pid c.args.arg1 c.args.arg2 in
    subst Short (sym c.write_request-outcome.ensures.value) (writes_short h c.args.string.now c.args.request.now)

pub returns : goal.returns
returns c =
    let h = fields c.args.host c.args.cmd c.args.pid c.args.arg1 c.args.arg2 in
    let same : to_z w64 (of_z w64 c.signed.result) ≡ c.signed.result = search rules in
    rw (fit-writes h c.args.string.now c.args.request.now (sym c.fields_fit.ensures ∙ c.if-not-fields_fit.false))
    (record { result-is = same ∙ c.signed.ensures ∙ ap signed c.write_request-outcome.ensures.value; buffer-is = c.write_request-outcome.ensures.buffer_after })
