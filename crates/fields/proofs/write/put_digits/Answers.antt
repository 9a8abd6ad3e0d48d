-- `fields::write::put_digits` meets its contract. The loop's invariant: the digits of what is left of the number complete the buffer. Assumes nothing.
use mathlib.Core.Path.{◌≡◌, refl, ap, ◌∙◌}
use Prim.Native.Nat.{ℕ, ◌+◌, ◌-◌, ◌/◌, ◌≤◌, ◌<◌}
use native.Mathlib.Omega.{arith}
use lib.ListN.{length, set}
use lib.Seq.{sets}
use Rattle.fields.specs.Hex.{hex_digits}
use Rattle.fields.proofs.HexLaws.{one_less, one_alone, one_of_several}
use Rattle.fields.proofs.WriteLaws.{digits-turn, digits-done}
use Rattle.fields.proofs.write.put_digits.Goals as goal

pub loop-i-init : goal.loop-i-init
loop-i-init c = record { fits = omega arith; here = omega (arith, c.digit_count.ensures.value); laid = refl }

pub loop-i-preserved : goal.loop-i-preserved
loop-i-preserved c =
    let rest = c.loop-i.rest in
    let at = c.args.at in
    let i = c.loop-i.i - 1 in
    let large : 16 ≤ rest = one_of_several rest (omega (arith, c.loop-i.invariant.here)) in
    let here : i ≡ at + length (hex_digits (rest / 16)) = omega (arith, c.loop-i.invariant.here, one_less rest large) in
    record {
      fits = omega (arith, c.loop-i.invariant.fits);
      here = here;
      laid =
          ap (λ (d : ℕ). sets (set c.loop-i.out i d) at (hex_digits (rest / 16))) c.digit.ensures
          ∙ digits-turn rest i at c.loop-i.out large here
          ∙ c.loop-i.invariant.laid;
    }

pub overflow_cast-rest-2 : goal.overflow_cast-rest-2
overflow_cast-rest-2 c =
    let small : c.loop-i.rest < 16 = one_alone c.loop-i.rest (omega (arith, c.loop-i.invariant.here)) in omega arith

pub digit-requires-2 : goal.digit-requires-2
digit-requires-2 c = one_alone c.loop-i.rest (omega (arith, c.loop-i.invariant.here))

pub returns : goal.returns
returns c =
    let rest = c.loop-i.rest in
    let small : rest < 16 = one_alone rest (omega (arith, c.loop-i.invariant.here)) in
    record {
      put = (
        omega (arith, c.digit_count.ensures.value),
        ap (λ (v : ℕ). set c.loop-i.out c.args.at v) c.digit-2.ensures ∙ digits-done rest c.args.at c.loop-i.out small ∙ c.loop-i.invariant.laid,
      );
      upper_bound = omega (arith, c.digit_count.ensures.upper_bound);
    }
