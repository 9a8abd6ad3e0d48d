-- The number of a request, stage by stage: what the message says by itself, and what is asked of the process. Assumes nothing.
use mathlib.Core.Path.{◌≡◌, refl, sym, subst}
use mathlib.Core.Bool.{Bool, true, false, not, cond, true≢false}
use mathlib.Core.List.{List, [], ◌∷◌, ◌++◌}
use Prim.Native.Nat.{ℕ, zero, suc, ◌+◌, ◌≤◌}
use native.Mathlib.Omega.{arith}
use borrow.Author.Tests.{eqb-true, not-false, not-true}
use lib.ListN.{length}
use lib.Dec.{eqb, ltb, eqb-suc-zero}
use Rattle.lists.specs.Every.{every}
use Rattle.lists.proofs.Bool.{&&-left, &&-right, ||-right}
use Rattle.lists.proofs.Every.{every-getD}
use Rattle.ops.specs.declared.table.Carried.{Carried}
use Rattle.ops.specs.declared.table.Carried.TheVariants.{Nothing, Counted, Vector}
use Rattle.ops.specs.declared.table.Op.{Op}
use Rattle.format.specs.Outcome.{Test, test, first_failing}
use Rattle.ops.specs.Codes.{CREATE}
use Rattle.ops.specs.Table.{bare, row, ops, op, asks, request_form}
use Rattle.format.specs.Layout.{header_of, string_of, fixed_right}
use Rattle.format.specs.Refusal.{carried_length, fields_right, misfits, layout_tests}
use Rattle.format.proofs.OutcomeLaws.{rest-passes}
use Rattle.format.proofs.TestLaws.{Passed, FittingSize, zero-passed, sized-between, size_fits-fitting, create-size}
use Rattle.format.proofs.LayoutLaws.{length-string_of}
use Rattle.message.proofs.AnswerLaws.{Asked, asked-passed, request_form-known}

-- the tests of a message and its reply buffer by themselves
abbrev pub envelope_tests : List ℕ → List ℕ → List Test
envelope_tests m buffer =
    test 1 (ltb (length buffer) 266) ∷ layout_tests (fixed_right m) (request_form (header_of m).cmd) (header_of m) (length m)

unfoldable pub envelope : List ℕ → List ℕ → ℕ
envelope m buffer = first_failing (envelope_tests m buffer)

-- the first number that is not 0
abbrev pub or_else : ℕ → ℕ → ℕ
or_else a b = cond (eqb a 0) b a

-- a choice, by its test
pub by-test : {A : Type 0} (F : A → Type 0) (t : Bool) {x y : A} → (t ≡ true → F x) → (t ≡ false → F y) → F (cond t x y)
by-test F true f g = f refl
by-test F false f g = g refl

-- a choice between two that are the same
pub same_cond : {A : Type 0} (t : Bool) (x : A) → cond t x x ≡ x
same_cond true x = refl
same_cond false x = refl

pub or_else-zero : (a b : ℕ) → or_else a b ≡ 0 → (a ≡ 0) × (b ≡ 0)
or_else-zero zero b e = (refl, e)
or_else-zero (suc a) b e = let z = rw (eqb-suc-zero a) at e in absurd (omega arith)

pub or_else-none : (a : ℕ) → or_else a 0 ≡ a
or_else-none zero = refl
or_else-none (suc a) = rw (eqb-suc-zero a)

pub or_else-assoc : (a b c : ℕ) → or_else (or_else a b) c ≡ or_else a (or_else b c)
or_else-assoc a b c = go (eqb a 0) refl
  where
    go : (t : Bool) → eqb a 0 ≡ t → or_else (or_else a b) c ≡ or_else a (or_else b c)
    go true e = rw e
    go false e = rw (e, e)

-- one list of tests after another, none of which has the number 0
pub first-append : (ts us : List Test) → every (λ (t : Test). not (eqb t.number 0)) ts ≡ true → first_failing (ts ++ us) ≡ or_else (first_failing ts) (first_failing us)
unfolding first_failing
first-append [] us e = refl
first-append (t ∷ ts) us e = go t.fails (first-append ts us (&&-right (not (eqb t.number 0)) _ e))
  where
    go : (b : Bool) → first_failing (ts ++ us) ≡ or_else (first_failing ts) (first_failing us)
        → cond b t.number (first_failing (ts ++ us)) ≡ or_else (cond b t.number (first_failing ts)) (first_failing us)
    go true i = rw (not-true (eqb t.number 0) (&&-left (not (eqb t.number 0)) _ e))
    go false i = i

-- a test over the numbers of a list of tests holds of the number that it gives
pub first-listed : (F : ℕ → Bool) (ts : List Test) → F 0 ≡ true → every (λ (t : Test). F t.number) ts ≡ true → F (first_failing ts) ≡ true
unfolding first_failing
first-listed F [] z e = z
first-listed F (t ∷ ts) z e =
    by-test (λ (n : ℕ). F n ≡ true) t.fails
    (λ b. &&-left (F t.number) (every (λ (u : Test). F u.number) ts) e)
    (λ b. first-listed F ts z (&&-right (F t.number) (every (λ (u : Test). F u.number) ts) e))

-- ---- what a message that passes says

-- no request carries a state vector
uncounted : Carried → Bool
uncounted Nothing = true
uncounted Counted = true
uncounted Vector = false

requests-counted : every (λ (o : Op). uncounted (asks o).carried) ops ≡ true
unfolding uncounted
requests-counted = refl

carried-short : (c : Carried) (n : ℕ) → uncounted c ≡ true → carried_length c n ≤ n
unfolding carried_length uncounted
carried-short Nothing n e = omega arith
carried-short Counted n e = omega arith
carried-short Vector n e = absurd (true≢false (sym e))

pub record Sent (m : List ℕ) : Type 0 where
  pub asked : Asked (header_of m)
  pub long : 10 ≤ length m
  pub carried : length (string_of m) ≤ (header_of m).arg2
  pub size : (header_of m).cmd ≡ CREATE → FittingSize (header_of m).arg1

pub layout-sent : (m : List ℕ) → first_failing (layout_tests (fixed_right m) (request_form (header_of m).cmd) (header_of m) (length m)) ≡ 0 → Sent m
unfolding misfits
layout-sent m e =
    let h = header_of m in
    let p = zero-passed (fixed_right m) (request_form h.cmd) h (length m) e in
    let a = asked-passed (fixed_right m) h (length m) p in
    let long = (sized-between (length m) p.sized).0 in
    let f = asks (op h.cmd) in
    let formed = rw (request_form-known h.cmd a.known) at p.formed in
    let counted = eqb-true (length m) (10 + carried_length f.carried h.arg2) (not-false _ (||-right (not (fields_right f h)) _ formed)) in
    let short = carried-short f.carried h.arg2
    (every-getD (λ (o : Op). uncounted (asks o).carried) ops (row bare bare) h.cmd requests-counted a.known) in
    record {
      asked = a;
      long = long;
      carried = omega (arith, length-string_of m long);
      size = λ create. size_fits-fitting h.arg1 (create-size (fixed_right m) h (length m) (subst (λ (cmd : ℕ). Passed (fixed_right m) (request_form cmd) h (length m)) create p));
    }

pub envelope-sent : (m buffer : List ℕ) → envelope m buffer ≡ 0 → Sent m
unfolding envelope
envelope-sent m buffer e = layout-sent m (rest-passes 0 _ _ e)
