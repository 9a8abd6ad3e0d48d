-- `fields::number::Number::digits` meets its contract. The loop's invariant: what is left of the digits completes their value. Assumes nothing.
use mathlib.Core.Path.{◌≡◌}
use Prim.Native.Nat.{◌+◌, ◌≤◌}
use lib.ListN.{length, drop}
use Rattle.fields.specs.Hex.{digits_of, value_from, most_number}
use Rattle.fields.proofs.number.Number.digits.Given as goal

abbrev pub invariant-loop-c : goal.invariant-loop-c
invariant-loop-c l = record {
  here : l.next ≡ l.at + l.c-index;
  fits : l.value ≤ most_number;
  same : value_from l.value (digits_of (drop l.next l.text)) ≡ value_from 0 (digits_of (drop l.at l.text));
  passed : l.next + length (digits_of (drop l.next l.text)) ≡ l.at + length (digits_of (drop l.at l.text));
}
