-- `fields::write::put_digits` meets its contract. The loop's invariant: the digits of what is left of the number complete the buffer. Assumes nothing.
use mathlib.Core.Path.{◌≡◌}
use Prim.Native.Nat.{◌+◌, ◌<◌}
use lib.ListN.{length}
use lib.Seq.{sets}
use Rattle.fields.specs.Hex.{hex_digits}
use Rattle.fields.proofs.write.put_digits.Given as goal

abbrev pub invariant-loop-i : goal.invariant-loop-i
invariant-loop-i l = record {
  fits : l.rest < 4294967296;
  here : l.i ≡ l.at + length (hex_digits l.rest);
  laid : sets l.out l.at (hex_digits l.rest) ≡ sets l.initial.out l.at (hex_digits l.n);
}
