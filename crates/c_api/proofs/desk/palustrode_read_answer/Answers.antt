-- `c_api::desk::palustrode_read_answer` meets its contract, by what the desk's reader found. Assumes nothing.
use mathlib.Core.Path.{◌≡◌, refl, sym, ◌∙◌}
use Prim.Native.Nat.{◌-◌}
use native.Mathlib.Omega.{arith}
use borrow.Author.Tests.{eq-eqb, ne_eqb}
use lib.ListN.{length}
use mir.Syntax.{w64}
use mir.Val.{to_z, of_z}
use Rattle.format.specs.Layout.{string_of}
use Rattle.format.proofs.LayoutLaws.{length-string_of}
use Rattle.c_api.specs.Called.{signed}
use Rattle.c_api.specs.Desk.{hand_over, read_on}
use Rattle.c_api.proofs.DeskLaws.{read_length}
use borrow.Author.Rules.{rules}
use Rattle.format.specs.Outcome.{number_of, length_of, is_granted}
use Rattle.c_api.proofs.desk.palustrode_read_answer.Goals as goal

pub returns-then-fields-ne5 : goal.returns-then-fields-ne5
unfolding read_on signed is_granted number_of
returns-then-fields-ne5 c =
    let same : to_z w64 (of_z w64 c.minus.result) ≡ c.minus.result = search rules in
    rw (ne_eqb _ 5 c.if-fields-ne5.true) (record { result-is = same ∙ c.minus.ensures; buffer-is = refl })

pub overflow_sub-message : goal.overflow_sub-message
overflow_sub-message c = omega (arith, (read_length _ _ (sym c.read_answer.ensures ∙ c.in-Ok.is)).0)

pub signed-requires : goal.signed-requires
unfolding length_of
signed-requires c = omega (arith, (read_length _ _ (sym c.read_answer.ensures ∙ c.in-Ok.is)).1)

pub returns-in-Ok : goal.returns-in-Ok
unfolding read_on hand_over signed is_granted number_of length_of
returns-in-Ok c =
    let found = sym c.read_answer.ensures ∙ c.in-Ok.is in
    let same : to_z w64 (of_z w64 c.signed.result) ≡ c.signed.result = search rules in
    let long = (read_length c.args.message.now _ found).0 in
    let string : length (string_of c.args.message.now) ≡ length c.args.message.now - 10 = omega (arith, length-string_of c.args.message.now long) in
    rw (eq-eqb _ 5 c.if-fields-ne5.false, found, string)
    (record { result-is = same ∙ c.signed.ensures; buffer-is = c.hand_over.ensures })

pub returns-in-Err : goal.returns-in-Err
unfolding read_on hand_over signed is_granted number_of length_of
returns-in-Err c =
    let found = sym c.read_answer.ensures ∙ c.in-Err.is in
    let same : to_z w64 (of_z w64 c.minus-in-Err.result) ≡ c.minus-in-Err.result = search rules in
    rw (eq-eqb _ 5 c.if-fields-ne5.false, found) (record { result-is = same ∙ c.minus-in-Err.ensures; buffer-is = refl })
