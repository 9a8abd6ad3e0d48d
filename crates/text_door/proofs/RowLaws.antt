-- The row of a letter is the row of what it asks for, and what its range says. Assumes nothing.
use mathlib.Core.Path.{◌≡◌, refl}
use mathlib.Core.Bool.{Bool, true, false, cond, ◌&&◌, ◌||◌}
use Prim.Native.Nat.{ℕ, ◌+◌, ◌≤◌, ◌<◌, ◌%◌}
use native.Mathlib.Omega.{arith}
use borrow.Author.Tests.{eqb-true, leb-true, ltb-true, lt-leb}
use lib.Dec.{eqb, leb}
use Rattle.lists.proofs.Bool.{&&-right}
use Rattle.fields.specs.declared.read.Line.{Line}
use Rattle.breakpoints.specs.Entry.{valid_break_address}
use Rattle.process.specs.Sizes.{memory_bytes}
use Rattle.rules.specs.TextRule.{text_rule_of, word_range, register_range, pc_range}
use Rattle.text_door.specs.declared.request.TextRequest.{TextRequest}
use Rattle.text_door.specs.At.{request_of, row_of}

row-cond : (t : Bool) (x y : TextRequest) → row_of (cond t x y) ≡ cond t (row_of x) (row_of y)
row-cond true x y = refl
row-cond false x y = refl

pub row-of : (letter : ℕ) → text_rule_of letter ≡ row_of (request_of letter)
unfolding text_rule_of request_of row_of
row-of letter = simp row-cond

-- ---- ranges

pub word-within : (x : Line) (size : ℕ) → word_range x size ≡ true → x.third + 4 ≤ size
unfolding word_range
word-within x size e = leb-true (x.third + 4) size (&&-right (eqb (x.third % 4) 0) (leb (x.third + 4) size) e)

pub register-low : (x : Line) (size : ℕ) → register_range x size ≡ true → x.third < 9
unfolding register_range
register-low x size e = ltb-true x.third 9 e

pub pc-low : (x : Line) (size : ℕ) → size ≤ memory_bytes → pc_range x size ≡ true → x.third < 65536
unfolding pc_range valid_break_address
pc-low x size h e = go (eqb x.third 1) refl e
  where
    go : (t : Bool) → eqb x.third 1 ≡ t → (t || valid_break_address size x.third) ≡ true → x.third < 65536
    go true q r = omega (arith, eqb-true x.third 1 q)
    go false q r = omega (arith, leb-true (x.third + 2) size (&&-right (eqb (x.third % 2) 0) (leb (x.third + 2) size) r))

-- what begins past the end does not lie inside
pub far : (size a : ℕ) → size < a + 2 → valid_break_address size a ≡ false
unfolding valid_break_address
far size a h = rw (lt-leb (a + 2) size h) (no (eqb (a % 2) 0))
  where
    no : (t : Bool) → (t && false) ≡ false
    no true = refl
    no false = refl
