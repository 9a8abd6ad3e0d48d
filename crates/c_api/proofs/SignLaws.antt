-- Numbers of 63 bits as signed ones. Assumes nothing.
use mathlib.Core.Path.{◌≡◌, sym, ap, ◌∙◌, subst}
use Prim.Native.Nat.{ℕ, zero, suc, ◌<◌}
use native.Mathlib.Omega.{arith}
use lib.IntN.{ℤ, pos, negsuc, ◌-ℤ◌, +ℤ_idl}
use mir.Syntax.{w64}
use mir.Val.{SFits, to_z, of_z}
use mir.Facts.{to_z_pos, to_z-of_z}

pub minus-fits : (n : ℕ) → n < 65536 → SFits w64 (pos 0 -ℤ pos n)
minus-fits zero h = record { sfits = omega arith }
minus-fits (suc n) h = subst (SFits w64) (sym (+ℤ_idl (negsuc n))) (record { sfits = omega (arith, h) })

pub signed-small : (n : ℕ) → n < 9223372036854775808 → to_z w64 n ≡ pos n
signed-small n h = to_z_pos w64 (omega (arith, h))

pub minus-small : (n : ℕ) → n < 65536 → SFits w64 (pos 0 -ℤ to_z w64 n)
minus-small n h = rw (signed-small n (omega (arith, h))) (minus-fits n h)

pub minus-read : (n : ℕ) → n < 65536 → to_z w64 (of_z w64 (pos 0 -ℤ to_z w64 n)) ≡ pos 0 -ℤ pos n
minus-read n h = to_z-of_z {w = w64} (minus-small n h) ∙ ap (λ (z : ℤ). pos 0 -ℤ z) (signed-small n (omega (arith, h)))

-- and read back from the bits that hold them
pub minus-again : (n : ℕ) → n < 65536 → to_z w64 (of_z w64 (pos 0 -ℤ pos n)) ≡ pos 0 -ℤ pos n
minus-again n h = to_z-of_z {w = w64} (minus-fits n h)

pub small-again : (n : ℕ) → n < 9223372036854775808 → to_z w64 (of_z w64 (pos n)) ≡ pos n
small-again n h = to_z-of_z {w = w64} (record { sfits = omega (arith, h) })

pub small-fits : (n : ℕ) → n < 9223372036854775808 → SFits w64 (pos n)
small-fits n h = record { sfits = omega (arith, h) }
