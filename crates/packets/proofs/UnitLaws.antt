-- Laws of words and bytes. Assumes nothing.
use mathlib.Core.Path.{◌≡◌}
use mathlib.Core.Bool.{true}
use Prim.Native.Nat.{◌+◌, ◌*◌, ◌≤◌}
use native.Mathlib.Omega.{arith}
use borrow.Author.Tests.{leb-true, le-leb}
use Rattle.packets.specs.declared.units.WordAddress.{WordAddress}
use Rattle.packets.specs.declared.units.WordCount.{WordCount}
use Rattle.packets.specs.declared.units.ByteCount.{ByteCount}
use Rattle.packets.specs.Units.{word_count, holds}
use Rattle.packets.specs.Theorems.{UnitsFit}

-- words that a process holds end within its size
pub holds-within : (size : ByteCount) (at : WordAddress) (count : WordCount) → holds size at count ≡ true → 2 * (at.0 + count.0) ≤ size.0
unfolding holds
holds-within size at count e = omega (arith, leb-true (2 * at.0 + 2 * count.0) size.0 e)

-- and it holds words that end there
pub within-holds : (size : ByteCount) (at : WordAddress) (count : WordCount) → 2 * (at.0 + count.0) ≤ size.0 → holds size at count ≡ true
unfolding holds
within-holds size at count h = le-leb (2 * at.0 + 2 * count.0) size.0 (omega arith)

pub units-fit : UnitsFit
units-fit = record {
  two_bytes = λ a. omega arith;
  next_word = λ a b e. omega arith;
  first-apart = λ a b e. omega arith;
  second-apart = λ a b e. omega arith;
  held = λ size a e. omega (arith, holds-within size a (word_count 1) e);
  holding = λ size a h. within-holds size a (word_count 1) (omega arith);
}
