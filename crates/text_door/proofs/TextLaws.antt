-- What the number of the tests of a text line says. Assumes nothing.
use mathlib.Core.Path.{◌≡◌, refl}
use mathlib.Core.Bool.{Bool, true, false, not, cond}
use mathlib.Core.List.{List}
use Prim.Native.Nat.{ℕ, zero, suc, ◌≤◌}
use native.Mathlib.Omega.{arith}
use borrow.Author.Tests.{not-false}
use Rattle.format.specs.Outcome.{first_failing}
use Rattle.format.proofs.OutcomeLaws.{first_passes, rest-passes}
use Rattle.fields.specs.declared.read.Line.{Line}
use Rattle.process.specs.declared.record.Process.{Process}
use Rattle.process.specs.Local.{Local}
use Rattle.rules.specs.Rule.{public}
use Rattle.rules.specs.TextRule.{text_rule_of, answer_owed}
use Rattle.rules.specs.Step.{text_refusal}
use Rattle.service.specs.At.{leaving}
use Rattle.text_door.specs.At.{request_of, Passed, granted_by, text_number_at, text_by}
use Rattle.text_door.proofs.RowLaws.{row-of}

-- every number of these tests is 100 or more
abbrev first : Bool → Bool → Bool → Bool → Bool → ℕ
first a b c d e = cond a 103 (cond b 101 (cond c 116 (cond d 122 (cond e 114 0))))

five : (a b c d e : Bool) → (first a b c d e ≡ 0 → ⊥) → 100 ≤ first a b c d e
five true b c d e z = omega arith
five false true c d e z = omega arith
five false false true d e z = omega arith
five false false false true e z = omega arith
five false false false false true z = omega arith
five false false false false false z = absurd (z refl)

pub number-high : (x : Line) (p : Process) → (text_number_at x p ≡ 0 → ⊥) → 100 ≤ text_number_at x p
unfolding text_number_at first_failing
number-high x p =
    let r = text_rule_of x.letter in
    five (not p.there) (not (r.right (public p))) (answer_owed p) (not (r.state x p)) (not (r.range x p.size))

module _ (x : Line) (p : Process) (e : text_number_at x p ≡ 0) where
  -- where none fails the process is there
  pub passed-there : p.there ≡ true
  unfolding text_number_at
  passed-there = not-false _ (first_passes 102 _ _ e)

  -- and the line has passed
  pub passed : Passed (request_of x.letter) x p
  unfolding text_number_at
  passed =
      let owed = rest-passes 100 _ _ (rest-passes 102 _ _ e) in
      let state = rest-passes 115 _ _ owed in
      let runs : (text_rule_of x.letter).state x p ≡ true = not-false _ (first_passes 121 _ _ state) in
      let lies : (text_rule_of x.letter).range x p.size ≡ true = not-false _ (first_passes 113 _ _ (rest-passes 121 _ _ state)) in
      record { state = rw (row-of x.letter) at runs; range = rw (row-of x.letter) at lies }

-- ---- by the number

pub text-granted : (x : Line) (buffer : List ℕ) (l : Local) → text_by 0 x buffer l ≡ granted_by (request_of x.letter) x buffer l
unfolding text_by
text-granted x buffer l = rw (row-of x.letter)

pub text-refused : (n : ℕ) → (n ≡ 0 → ⊥) → (x : Line) (buffer : List ℕ) (l : Local) → text_by n x buffer l ≡ leaving (text_refusal n x buffer) l
unfolding text_by
text-refused zero z x buffer l = absurd (z refl)
text-refused (suc n) z x buffer l = refl
