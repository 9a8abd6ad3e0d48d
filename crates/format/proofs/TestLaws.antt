-- Laws of the tests of a message's layout. Assumes nothing.
use mathlib.Core.Path.{◌≡◌, refl, sym}
use mathlib.Core.Bool.{Bool, true, false, ◌&&◌, false≢true}
use Prim.Native.Nat.{ℕ, ◌+◌, ◌%◌, ◌≤◌}
use native.Mathlib.Omega.{arith}
use borrow.Author.Tests.{ltb-false, leb-true, eqb-true, not-false}
use lib.Dec.{ltb, leb, eqb}
use Rattle.lists.proofs.Bool.{&&-left, &&-right, ||-left, ||-right}
use Rattle.format.specs.declared.header.Header.{Header}
use Rattle.ops.specs.declared.table.ArgUse.TheVariants.{Size}
use Rattle.ops.specs.declared.table.Carried.{Carried}
use Rattle.ops.specs.declared.table.Carried.TheVariants.{Nothing, Counted, Vector}
use Rattle.ops.specs.declared.table.Form.{Form}
use Rattle.std.proofs.Common.{Option}
use Rattle.ops.specs.Codes.{CREATE}
use Rattle.ops.specs.Table.{sized, row_of, request_form}
use Rattle.format.specs.Outcome.{first_failing}
use Rattle.format.specs.Refusal.{used_or_zero, size_fits, arg_fits, fields_right, carried_length, wrong_length, wrong_header, unknown, misfits, malformed, layout_tests}
use Rattle.format.proofs.OutcomeLaws.{first_passes, rest-passes}

-- a carried string is a state vector, or no longer than ARG2
pub carried_length-≤ : (carried : Carried) (arg2 : ℕ) → carried_length carried arg2 ≤ arg2 + 18
unfolding carried_length
carried_length-≤ Nothing arg2 = omega arith
carried_length-≤ Counted arg2 = omega arith
carried_length-≤ Vector arg2 = omega arith

-- none of the tests 3 to 6 fails
pub record Passed (fixed : Bool) (found : Option Form) (h : Header) (length : ℕ) : Type 0 where
  pub sized : wrong_length length ≡ false
  pub headed : wrong_header fixed h.host ≡ false
  pub known : unknown found ≡ false
  pub formed : malformed found h length ≡ false

module _ (fixed : Bool) (found : Option Form) (h : Header) (length : ℕ) where
  -- number 0 says that none fails
  pub zero-passed : first_failing (layout_tests fixed found h length) ≡ 0 → Passed fixed found h length
  zero-passed e =
      let e4 = rest-passes 2 _ _ e in
      let e5 = rest-passes 3 _ _ e4 in
      let e6 = rest-passes 4 _ _ e5 in
      record {
        sized = first_passes 2 _ _ e;
        headed = first_passes 3 _ _ e4;
        known = first_passes 4 _ _ e5;
        formed = first_passes 5 _ _ e6;
      }

  -- where none fails the number is 0
  pub passed-zero : Passed fixed found h length → first_failing (layout_tests fixed found h length) ≡ 0
  unfolding first_failing
  passed-zero p = rw (p.sized, p.headed, p.known, p.formed)

-- a length that passes test 3
pub sized-between : (length : ℕ) → wrong_length length ≡ false → (10 ≤ length) × (length ≤ 266)
unfolding wrong_length
sized-between length e =
    (ltb-false _ _ (||-left (ltb length 10) (ltb 266 length) e), ltb-false _ _ (||-right (ltb length 10) (ltb 266 length) e))

-- a header that passes test 4 has the right TYPE, LINK and STYPE
pub headed-fixed : (fixed : Bool) (host : ℕ) → wrong_header fixed host ≡ false → fixed ≡ true
unfolding wrong_header
headed-fixed true host e = refl
headed-fixed false host e = sym e

-- ---- a size

-- a size that fits is even, and at most 4,096
pub record FittingSize (n : ℕ) : Type 0 where
  pub even : n % 2 ≡ 0
  pub most : n ≤ 4096

pub size_fits-fitting : (n : ℕ) → size_fits n ≡ true → FittingSize n
size_fits-fitting n e = go (eqb (n % 2) 0) (leb n 4096) refl refl
  where
    go : (a b : Bool) → eqb (n % 2) 0 ≡ a → leb n 4096 ≡ b → FittingSize n
    go true true p q = record { even = eqb-true (n % 2) 0 p; most = leb-true n 4096 q }
    go true false p q = absurd (false≢true (rw (p, q) at e))
    go false b p q = absurd (false≢true (rw p at e))

-- where the fields are right for a form that has a size in ARG1, that size fits
fields_right-size : (f : Form) (h : Header) → f.arg1 ≡ Size → fields_right f h ≡ true → size_fits h.arg1 ≡ true
unfolding fields_right
fields_right-size f h s e =
    let p = used_or_zero f.pid h.pid in
    let a = arg_fits f.arg1 h.arg1 in
    rw s at (&&-right p a (&&-left (p && a) (used_or_zero f.arg2 h.arg2) e))

-- a CREATE that passes the tests 3 to 6 has a size that fits in ARG1
pub create-size : (fixed : Bool) (h : Header) (length : ℕ) → Passed fixed (request_form CREATE) h length → size_fits h.arg1 ≡ true
unfolding request_form row_of misfits
create-size fixed h length p = fields_right-size sized h refl (not-false (fields_right sized h) (||-left _ _ p.formed))
