-- Laws of answers. Assumes nothing.
use Rattle.std.proofs.Common.{Some}
use mathlib.Core.Path.{◌≡◌, refl, sym, ap, ◌∙◌, subst}
use mathlib.Core.Bool.{Bool, true, false, cond, ◌&&◌, ◌||◌, true≢false}
use mathlib.Core.List.{List}
use Prim.Native.Nat.{ℕ, ◌<◌}
use native.Mathlib.Omega.{arith}
use borrow.Author.Tests.{eqb-true}
use lib.Dec.{eqb}
use Rattle.lists.proofs.Bool.{&&-left, &&-right}
use Rattle.fields.specs.declared.answer.TextAnswer.{TextAnswer}
use Rattle.fields.specs.Written.{written, Sayable}
use Rattle.fields.specs.Read.{line_of, whole_line}
use Rattle.fields.specs.Answer.{failed_flag, is_flag, answer_fields, answer_from, answer_of, SayableAnswer}
use Rattle.fields.specs.Theorems.{ReadsAnswers}
use Rattle.fields.proofs.ReadLaws.{some_only}
use Rattle.fields.proofs.LineLaws.{written-is-read, read-is-written}

flag-fits : (t : Bool) → cond t failed_flag 0 < 4294967296
flag-fits true = omega arith
flag-fits false = omega arith

answer_back : (pid letter : ℕ) (failed : Bool) (value : ℕ)
    → answer_from (whole_line (answer_fields (record { pid = pid; letter = letter; failed = failed; value = value })))
    ≡ Some (record { pid = pid; letter = letter; failed = failed; value = value })
unfolding answer_from answer_fields is_flag
answer_back pid letter true value = refl
answer_back pid letter false value = refl

sayable : (a : TextAnswer) → SayableAnswer a → Sayable (answer_fields a)
unfolding answer_fields
sayable a s = record { letter-known = s.letter-known; pid-fits = s.pid-fits; third-fits = flag-fits a.failed; fourth-fits = s.value-fits }

answer-is-read : (a : TextAnswer) → SayableAnswer a → answer_of (written (answer_fields a)) ≡ Some a
unfolding answer_of
answer-is-read a s = ap answer_from (written-is-read (answer_fields a) (sayable a s)) ∙ answer_back a.pid a.letter a.failed a.value

flag-back : (n : ℕ) → is_flag n ≡ true → n ≡ cond (eqb n failed_flag) failed_flag 0
unfolding is_flag
flag-back n = go (eqb n 0) refl (eqb n failed_flag) refl
  where
    go : (s : Bool) → eqb n 0 ≡ s → (t : Bool) → eqb n failed_flag ≡ t → s || t ≡ true → n ≡ cond t failed_flag 0
    go s e true f o = eqb-true n failed_flag f
    go true e false f o = eqb-true n 0 e
    go false e false f o = absurd (true≢false (sym o))

read-is-answer : (text : List ℕ) (a : TextAnswer) → answer_of text ≡ Some a → (text ≡ written (answer_fields a)) × SayableAnswer a
unfolding answer_of answer_from answer_fields
read-is-answer text a e =
    let l = line_of text in
    let w = l.whole in
    let q = is_flag l.third in
    let b : TextAnswer = record { pid = l.pid; letter = l.letter; failed = eqb l.third failed_flag; value = l.fourth } in
    let found = some_only (w && q) b a e in
    let read = read-is-written text (&&-left w q found.0) in
    let flag : l.third ≡ cond (eqb l.third failed_flag) failed_flag 0 = flag-back l.third (&&-right w q found.0) in
    let is : text ≡ written (answer_fields b) = read.0 ∙ ap (λ (n : ℕ). written (record { pid = l.pid; letter = l.letter; third = n; fourth = l.fourth })) flag in
    let say : SayableAnswer b = record { letter-known = read.1.letter-known; pid-fits = read.1.pid-fits; value-fits = read.1.fourth-fits } in
    subst (λ (x : TextAnswer). (text ≡ written (answer_fields x)) × SayableAnswer x) found.1 (is, say)

pub reads-answers : ReadsAnswers
reads-answers = record { answer-is-read = answer-is-read; read-is-answer = read-is-answer }
