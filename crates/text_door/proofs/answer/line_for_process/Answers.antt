-- `text_door::answer::line_for_process` meets its contract: refused with the number of its tests, or granted. Assumes nothing.
use mathlib.Core.Path.{◌≡◌, sym, refl, subst, ap₂, ◌∙◌}
use Prim.Native.Nat.{ℕ}
use Rattle.format.proofs.OutcomeLaws.{unless-ok, unless-err}
use Rattle.process.specs.Local.{local}
use Rattle.service.specs.At.{leaving}
use Rattle.text_door.specs.At.{text_at}
use Rattle.text_door.proofs.TextLaws.{number-high, passed-there, passed, text-granted, text-refused}
use Rattle.text_door.proofs.answer.line_for_process.Goals as goal

pub fail-requires : goal.fail-requires
fail-requires c =
    let failed = unless-err _ _ _ (sym c.check_line.ensures ∙ c.in-Err.is) in
    record {
      le_number = rw (← failed.0) (number-high c.args.line c.args.process failed.1);
      line_bytes_in_bounds = c.requires.line_bytes_in_bounds;
    }

pub returns-in-Err : goal.returns-in-Err
unfolding text_at
returns-in-Err c =
    let failed = unless-err _ _ _ (sym c.check_line.ensures ∙ c.in-Err.is) in
    let number = subst (λ (n : ℕ). n ≡ 0 → ⊥) failed.0 failed.1 in
    rw (failed.0, text-refused _ number c.args.line c.args.out.now (local c.args.process c.args.bytes.now)) (ap₂ leaving c.fail.ensures refl)

pub grant-requires : goal.grant-requires
grant-requires c =
    let z = unless-ok _ _ _ (sym c.check_line.ensures ∙ c.in-Ok.is) in
    record {
      present = record { tested = c.requires.tested; there = passed-there c.args.line c.args.process z };
      passed = rw c.request_of-request.ensures (passed c.args.line c.args.process z);
      line_bytes_in_bounds = c.requires.line_bytes_in_bounds;
    }

pub returns-in-Ok : goal.returns-in-Ok
unfolding text_at
returns-in-Ok c =
    let z = unless-ok _ _ _ (sym c.check_line.ensures ∙ c.in-Ok.is) in
    rw (z, text-granted c.args.line c.args.out.now (local c.args.process c.args.bytes.now), ← c.request_of-request.ensures) c.grant.ensures
