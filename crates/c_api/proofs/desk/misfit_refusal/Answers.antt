-- `c_api::desk::misfit_refusal` meets its contract: at each `return` the tests before it have passed. Assumes nothing.
use mathlib.Core.Path.{sym, ap, ◌∙◌}
use Prim.Native.Nat.{◌+◌, ◌<◌, ◌≤◌}
use native.Mathlib.Omega.{arith}
use borrow.Author.Tests.{lt-ltb, le-ltb, eq-eqb, ne_eqb}
use lib.Dec.{eqb}
use Rattle.ops.specs.Table.{request_form}
use Rattle.format.specs.Outcome.{first_failing}
use Rattle.format.specs.Refusal.{wrong_length}
use Rattle.c_api.specs.Desk.{misfit_number}
use Rattle.c_api.proofs.DeskLaws.{form-byte, or-true}
use Rattle.c_api.proofs.desk.misfit_refusal.Goals as goal

pub returns-then-request-lt-MESSAGE_BYTES : goal.returns-then-request-lt-MESSAGE_BYTES
unfolding misfit_number first_failing
returns-then-request-lt-MESSAGE_BYTES c = rw (lt-ltb _ 266 c.if-request-lt-MESSAGE_BYTES.true)

pub returns-then-carried-gt-STRING_BYTES : goal.returns-then-carried-gt-STRING_BYTES
unfolding misfit_number first_failing wrong_length
returns-then-carried-gt-STRING_BYTES c =
    let enough : 10 ≤ 10 + c.args.carried = omega arith in
    let long : 266 < 10 + c.args.carried = omega arith in
    rw (le-ltb _ 266 c.if-request-lt-MESSAGE_BYTES.false, le-ltb _ _ enough, lt-ltb _ _ long)

pub returns-then-host-eq0 : goal.returns-then-host-eq0
unfolding misfit_number first_failing wrong_length
returns-then-host-eq0 c =
    let enough : 10 ≤ 10 + c.args.carried = omega arith in
    let short : 10 + c.args.carried ≤ 266 = omega arith in
    rw (le-ltb _ 266 c.if-request-lt-MESSAGE_BYTES.false, le-ltb _ _ enough, le-ltb _ _ short, eq-eqb c.args.host 0 c.if-host-eq0.true)

pub returns-then-host-ge256 : goal.returns-then-host-ge256
unfolding misfit_number first_failing wrong_length
returns-then-host-ge256 c =
    let enough : 10 ≤ 10 + c.args.carried = omega arith in
    let short : 10 + c.args.carried ≤ 266 = omega arith in
    rw (le-ltb _ 266 c.if-request-lt-MESSAGE_BYTES.false, le-ltb _ _ enough, le-ltb _ _ short, le-ltb c.args.host 256 c.if-host-ge256.true, or-true (eqb c.args.host 0))

pub returns-in-Some : goal.returns-in-Some
unfolding misfit_number first_failing wrong_length
returns-in-Some c =
    let enough : 10 ≤ 10 + c.args.carried = omega arith in
    let short : 10 + c.args.carried ≤ 266 = omega (arith, c.if-carried-gt-STRING_BYTES.false) in
    let form = sym c.in-Some.is ∙ c.request_form.ensures ∙ ap request_form c.byte_of.ensures ∙ form-byte c.args.cmd in
    rw (le-ltb _ 266 c.if-request-lt-MESSAGE_BYTES.false, le-ltb _ _ enough, le-ltb _ _ short, ne_eqb c.args.host 0 c.if-host-eq0.false, lt-ltb c.args.host 256 c.if-host-ge256.false, ← form)

pub returns-in-None : goal.returns-in-None
unfolding misfit_number first_failing wrong_length
returns-in-None c =
    let enough : 10 ≤ 10 + c.args.carried = omega arith in
    let short : 10 + c.args.carried ≤ 266 = omega (arith, c.if-carried-gt-STRING_BYTES.false) in
    let form = sym c.in-None.is ∙ c.request_form.ensures ∙ ap request_form c.byte_of.ensures ∙ form-byte c.args.cmd in
    rw (le-ltb _ 266 c.if-request-lt-MESSAGE_BYTES.false, le-ltb _ _ enough, le-ltb _ _ short, ne_eqb c.args.host 0 c.if-host-eq0.false, lt-ltb c.args.host 256 c.if-host-ge256.false, ← form)
