-- `decimal::number::Number::digits` meets its contract. The loop's invariant: what is left of the digits completes their value. Assumes nothing.
use mathlib.Core.Path.{◌≡◌}
use Prim.Native.Nat.{◌+◌, ◌≤◌}
use lib.ListN.{length, drop}
use Rattle.decimal.specs.Numeral.{digits_of, value_from}
use Rattle.decimal.proofs.number.Number.digits.Given as goal

abbrev pub invariant-loop-i : goal.invariant-loop-i
invariant-loop-i l = (l.value ≤ l.most) × (value_from l.value (digits_of (drop l.i l.line)) ≡ value_from 0 (digits_of (drop l.at l.line))) × (l.i + length (digits_of (drop l.i l.line)) ≡ l.at + length (digits_of (drop l.at l.line)))
