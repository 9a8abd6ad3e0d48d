-- A text line stage by stage: refused by what is lent or by what can be read of it, or answered at its process. Assumes nothing.
use mathlib.Core.Path.{◌≡◌, refl, ◌∙◌}
use mathlib.Core.Bool.{Bool, true, false, not, cond, ◌&&◌, ◌||◌}
use mathlib.Core.List.{List, ◌++◌}
use Prim.Native.Nat.{ℕ, zero, suc, ◌≤◌, ◌<◌}
use native.Mathlib.Omega.{arith}
use borrow.Author.Tests.{ne_eqb, lt-ltb, le-ltb}
use lib.Dec.{eqb, ltb}
use Rattle.lists.specs.Buffer.{overlay}
use Rattle.format.specs.Outcome.{first_failing}
use Rattle.format.proofs.OutcomeLaws.{outcome-other}
use Rattle.fields.specs.declared.read.Line.{Line}
use Rattle.fields.specs.Letters.{READ-CODE, READ-DATA, WRITE-CODE, WRITE-DATA, READ-REGISTER, WRITE-REGISTER, CONTINUE}
use Rattle.fields.specs.Read.{line_of}
use Rattle.process.specs.Local.{Local}
use Rattle.process.specs.Request.{deposited}
use Rattle.process.proofs.KeptLaws.{same-there, shape-continued, shape-stepped_from}
use Rattle.rules.specs.Rule.{public}
use Rattle.rules.specs.TextRule.{TextRule, text_rule_of, failure}
use Rattle.rules.specs.Tests.{State, record_of, no_line_room, unsound, text_outer_tests, text_inner_tests, text_number}
use Rattle.rules.specs.Step.{StepResult, local_of, text_refusal, text_step}
use Rattle.rules.specs.Turn.{single}
use Rattle.rules.proofs.NumberLaws.{or_else, by-test}
use Rattle.rules.proofs.StateLaws.{put_same}
use Rattle.text_door.specs.At.{text_number_at, text_by, text_at}
use Rattle.gateway.specs.Stage.{lent_number, line_step}
use Rattle.gateway.proofs.StageLaws.{silent}
use Rattle.gateway.proofs.AskedLaws.{stepped, unmoved}

-- ---- a process that is there stays

-- what a row does leaves it there
Stays : TextRule → Type 0
Stays r = (x : Line) (l : Local) → (r.effect x l).process.there ≡ l.process.there

row_stays : (letter : ℕ) → Stays (text_rule_of letter)
unfolding Stays text_rule_of deposited
row_stays letter =
    by-test Stays (eqb letter READ-CODE || eqb letter READ-DATA) (λ e x l. refl)
    (λ e. by-test Stays (eqb letter WRITE-CODE || eqb letter WRITE-DATA) (λ i x l. refl)
    (λ i. by-test Stays (eqb letter READ-REGISTER) (λ j x l. refl)
    (λ j. by-test Stays (eqb letter WRITE-REGISTER) (λ k x l. refl)
    (λ k. by-test Stays (eqb letter CONTINUE) (λ c x l. same-there (shape-continued x.third l)) (λ c x l. same-there (shape-stepped_from x.third l))))))

stays_by : (n : ℕ) (x : Line) (buffer : List ℕ) (l : Local) → (text_by n x buffer l).left.process.there ≡ l.process.there
unfolding text_by Stays
stays_by zero x buffer l = row_stays x.letter x l
stays_by (suc n) x buffer l = refl

pub line_stays : (x : Line) (buffer : List ℕ) (l : Local) → (text_at x buffer l).left.process.there ≡ l.process.there
unfolding text_at
line_stays x buffer l = stays_by (text_number_at x l.process) x buffer l

-- ---- the number

-- 6, 122 and 103, which look at no process
line_away : Line → ℕ
line_away x = cond (not x.headed) 6 (cond (not x.whole) 122 (cond (not (ltb x.pid 8)) 103 0))

staged : (a b c d e f : Bool) (n : ℕ)
    → cond a 1 (cond b 2 (cond c 6 (cond d 122 (cond (not (e && f)) 103 n))))
    ≡ or_else (cond a 1 (cond b 2 0)) (or_else (cond c 6 (cond d 122 (cond (not e) 103 0))) (cond (not f) 103 n))
staged true b c d e f n = refl
staged false true c d e f n = refl
staged false false true d e f n = refl
staged false false false true e f n = refl
staged false false false false false f n = refl
staged false false false false true false n = refl
staged false false false false true true n = refl

low-lent : (a b : Bool) → ltb (cond a 1 (cond b 2 0)) 100 ≡ true
low-lent true b = refl
low-lent false true = refl
low-lent false false = refl

module _ (s : State) (text buffer : List ℕ) where
  abbrev short : Bool
  short = no_line_room s.memory buffer

  abbrev whole : StepResult
  whole = text_step text buffer s

  abbrev x : Line
  x = line_of text

  stages : text_number s text buffer ≡ or_else (lent_number s short) (or_else (line_away x) (text_number_at x (record_of s x.pid)))
  unfolding text_number lent_number line_away text_number_at first_failing
  stages =
      staged short (unsound s) (not x.headed) (not x.whole) (ltb x.pid 8) (record_of s x.pid).there
      (first_failing (text_outer_tests x (public (record_of s x.pid)) ++ text_inner_tests x (record_of s x.pid)))

  -- ---- a line that is refused

  refused-by : (n : ℕ) → text_number s text buffer ≡ n → (n ≡ 0 → ⊥) → whole ≡ unmoved (text_refusal n x buffer) s
  unfolding text_step
  refused-by n e z = rw (e, ne_eqb n 0 z)

  -- under 100 nothing is written
  silently : (n : ℕ) → text_number s text buffer ≡ n → (n ≡ 0 → ⊥) → ltb n 100 ≡ true → whole ≡ silent n (single buffer) s
  unfolding failure overlay
  silently n e z low = refused-by n e z ∙ rw (low, outcome-other n 0 z)

  pub line-lent : (n : ℕ) → n ≡ lent_number s short → (n ≡ 0 → ⊥) → whole ≡ silent n (single buffer) s
  unfolding lent_number first_failing
  line-lent n e z = silently n (stages ∙ rw (← e, ne_eqb n 0 z)) z (rw e (low-lent short (unsound s)))

  module _ (fit : lent_number s short ≡ 0) where
    pub line-unread : x.headed ≡ false → whole ≡ silent 6 (single buffer) s
    unfolding line_away
    line-unread h = silently 6 (stages ∙ rw (fit, h)) (λ z. omega (arith, z)) refl

    module _ (headed : x.headed ≡ true) where
      pub line-broken : x.whole ≡ false → whole ≡ unmoved (text_refusal 122 x buffer) s
      unfolding line_away
      line-broken w = refused-by 122 (stages ∙ rw (fit, headed, w)) (λ z. omega (arith, z))

      module _ (read : x.whole ≡ true) where
        pub line-beyond : 8 ≤ x.pid → whole ≡ unmoved (text_refusal 103 x buffer) s
        unfolding line_away
        line-beyond h = refused-by 103 (stages ∙ rw (fit, headed, read, le-ltb x.pid 8 h)) (λ z. omega (arith, z))

        -- ---- a line that is answered at its process

        near : x.pid < 8 → line_away x ≡ 0
        unfolding line_away
        near low = rw (headed, read, lt-ltb x.pid 8 low)

        by_number : x.pid < 8 → (k : ℕ) → text_number_at x (record_of s x.pid) ≡ k → whole ≡ stepped x.pid (text_by k x buffer (local_of s x.pid)) s
        unfolding text_step text_by
        by_number low zero e = rw (stages, fit, near low, e)
        by_number low (suc k) e = rw (stages, fit, near low, e, ne_eqb (suc k) 0 (λ z. omega (arith, z)), put_same x.pid s)

        pub line_known : x.pid < 8 → whole ≡ line_step x buffer s
        unfolding text_at line_step
        line_known low = by_number low (text_number_at x (record_of s x.pid)) refl
