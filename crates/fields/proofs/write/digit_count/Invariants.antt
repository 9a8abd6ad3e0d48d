-- `fields::write::digit_count` meets its contract. The loop's invariant: the digits counted and those left are all, and one more. Assumes nothing.
use mathlib.Core.Path.{◌≡◌}
use Prim.Native.Nat.{◌+◌}
use lib.ListN.{length}
use Rattle.fields.specs.Hex.{hex_digits}
use Rattle.fields.proofs.write.digit_count.Given as goal

abbrev pub invariant-loop-count : goal.invariant-loop-count
invariant-loop-count l = l.count + length (hex_digits l.rest) ≡ length (hex_digits l.n) + 1
