-- A machine report stage by stage: refused by what is lent or by its own fields, or heard at its process. Assumes nothing.
use mathlib.Core.Path.{◌≡◌, refl, ap, ◌∙◌}
use mathlib.Core.Bool.{Bool, true, false, not, cond, ◌&&◌}
use mathlib.Core.List.{List}
use Prim.Native.Nat.{ℕ, zero, suc, ◌<◌}
use native.Mathlib.Omega.{arith}
use borrow.Author.Tests.{ne_eqb, ltb-true, not-false}
use lib.Dec.{ltb}
use Rattle.lists.specs.Buffer.{overlay}
use Rattle.format.specs.Outcome.{first_failing}
use Rattle.format.proofs.OutcomeLaws.{outcome-other, first_passes, rest-passes}
use Rattle.run_state.specs.RunState.{accepts}
use Rattle.process.specs.Local.{Local}
use Rattle.rules.specs.Rule.{Public, public}
use Rattle.rules.specs.Tests.{State, record_of, no_report_room, unsound, bad_report, report_number}
use Rattle.rules.specs.Window.{Buffers}
use Rattle.rules.specs.Step.{StepResult, local_of, notified, report_step}
use Rattle.rules.proofs.NumberLaws.{or_else}
use Rattle.rules.proofs.RuleLaws.{public-reported}
use Rattle.rules.proofs.StateLaws.{put_same}
use Rattle.service.specs.At.{report_away, report_number_at, report_by, report_at}
use Rattle.gateway.specs.Stage.{lent_number}
use Rattle.gateway.proofs.StageLaws.{silent}
use Rattle.gateway.proofs.AskedLaws.{stepped}

staged : (a b c d e f : Bool)
    → cond a 1 (cond b 2 (cond c 14 (cond (not (d && e)) 7 (cond f 9 0))))
    ≡ or_else (cond a 1 (cond b 2 0)) (or_else (cond c 14 (cond (not d) 7 0)) (cond (not e) 7 (cond f 9 0)))
staged true b c d e f = refl
staged false true c d e f = refl
staged false false true d e f = refl
staged false false false false e f = refl
staged false false false true false f = refl
staged false false false true true f = refl

-- a process that is there stays
stays_by : (n p kind reason : ℕ) (words buffer line : List ℕ) (l : Local) → (report_by n p kind reason words buffer line l).left.process.there ≡ l.process.there
unfolding report_by public
stays_by zero p kind reason words buffer line l = ap (λ (u : Public). u.there) (public-reported kind words l)
stays_by (suc n) p kind reason words buffer line l = refl

pub report-stays : (p kind reason : ℕ) (words buffer line : List ℕ) (l : Local)
    → (report_at p kind reason words buffer line l).left.process.there ≡ l.process.there
unfolding report_at
report-stays p kind reason words buffer line l = stays_by (report_number_at kind l.process) p kind reason words buffer line l

-- the two buffers of a report
abbrev pub both : List ℕ → List ℕ → Buffers
both buffer line = record { own = buffer; line = line }

module _ (s : State) (p kind reason : ℕ) (words buffer line : List ℕ) where
  abbrev short : Bool
  short = no_report_room s.memory buffer line

  abbrev whole : StepResult
  whole = report_step p kind reason words buffer line s

  stages : report_number s p kind reason buffer line ≡ or_else (lent_number s short) (or_else (report_away p kind reason) (report_number_at kind (record_of s p)))
  unfolding report_number lent_number report_away report_number_at first_failing
  stages = staged short (unsound s) (bad_report kind reason) (ltb p 8) (record_of s p).there (not (accepts kind (record_of s p).run))

  refused-by : (n : ℕ) → report_number s p kind reason buffer line ≡ n → (n ≡ 0 → ⊥) → whole ≡ silent n (both buffer line) s
  unfolding report_step overlay
  refused-by n e z = rw (e, ne_eqb n 0 z, outcome-other n 0 z)

  pub report-lent : (n : ℕ) → n ≡ lent_number s short → (n ≡ 0 → ⊥) → whole ≡ silent n (both buffer line) s
  report-lent n e z = refused-by n (stages ∙ rw (← e, ne_eqb n 0 z)) z

  module _ (fit : lent_number s short ≡ 0) where
    pub report-away : (n : ℕ) → n ≡ report_away p kind reason → (n ≡ 0 → ⊥) → whole ≡ silent n (both buffer line) s
    report-away n e z = refused-by n (stages ∙ rw (fit, ← e, ne_eqb n 0 z)) z

    module _ (near : report_away p kind reason ≡ 0) where
      by_number : (k : ℕ) → report_number_at kind (record_of s p) ≡ k → whole ≡ stepped p (report_by k p kind reason words buffer line (local_of s p)) s
      unfolding report_step notified report_by
      by_number zero e = rw (stages, fit, near, e)
      by_number (suc k) e = rw (stages, fit, near, e, ne_eqb (suc k) 0 (λ z. omega (arith, z)), put_same p s)

      pub report-heard : whole ≡ stepped p (report_at p kind reason words buffer line (local_of s p)) s
      unfolding report_at
      report-heard = by_number (report_number_at kind (record_of s p)) refl

-- a report that is not refused by its own fields is about one of the eight processes
pub report-low : (p kind reason : ℕ) → report_away p kind reason ≡ 0 → p < 8
unfolding report_away
report-low p kind reason near = ltb-true p 8 (not-false _ (first_passes 6 _ _ (rest-passes 13 _ _ near)))
