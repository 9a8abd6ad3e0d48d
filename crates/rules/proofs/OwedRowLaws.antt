-- What is left of an owed answer by each row of the rules: those of the op codes, those of the letters, and a report. Assumes nothing.
use mathlib.Core.Path.{◌≡◌, refl, sym}
use mathlib.Core.Bool.{Bool, true, false, cond, ◌||◌, true≢false}
use mathlib.Core.List.{List, []}
use mathlib.Core.Logic.{◌⊎◌, inl, inr}
use Prim.Native.Nat.{ℕ, ◌≤◌}
use native.Mathlib.Omega.{arith}
use borrow.Author.Tests.{eqb-true, ne_eqb, ltb-true, ltb-false}
use lib.ListN.{length, get_or-eq_default}
use lib.Dec.{eqb, ltb}
use Rattle.lists.proofs.Bool.{||-left, ||-right}
use Rattle.ops.specs.Codes.{STOP, END-DEBUG, DESTROY}
use Rattle.ops.specs.Table.{ops}
use Rattle.format.specs.declared.header.Header.{Header}
use Rattle.fields.specs.declared.read.Line.{Line}
use Rattle.fields.specs.Letters.{READ-CODE, READ-DATA, WRITE-CODE, WRITE-DATA, READ-REGISTER, WRITE-REGISTER, CONTINUE, STEP, known}
use Rattle.session.specs.declared.Owed.{Owed}
use Rattle.session.specs.declared.Owed.TheVariants.{Nothing, Continue, Step}
use Rattle.session.specs.Session.{owes, owed_letter}
use Rattle.breakpoints.specs.declared.entry_query.EntryQuery.TheVariants.{At}
use Rattle.run_state.specs.RunState.{at_break}
use Rattle.process.specs.declared.record.Process.{Process}
use Rattle.process.specs.Record.{fresh}
use Rattle.process.specs.Find.{find}
use Rattle.process.specs.Sound.{Sound}
use Rattle.process.specs.Local.{Local}
use Rattle.process.specs.Planting.{planted_in, lifted_in, removed_from, lifted_at}
use Rattle.process.specs.Request.{pc, has_break, end_debugged, end_watched, stopped, stepped, proceeded, continued, stepped_from, deposited, break_set, break_removed, cleared}
use Rattle.process.specs.declared.report.Verdict.{Verdict}
use Rattle.process.specs.declared.report.Verdict.TheVariants.{Stops, CountsDown, GoesOn}
use Rattle.process.specs.Report.{store_vector_and_replant, verdict_of, told_by, recipient_of, answered_by, answer_of}
use Rattle.process.proofs.AnswerLaws.{none-owed-nothing}
use Rattle.rules.specs.Rule.{Rule, rules, no_rule, rule_of}
use Rattle.rules.specs.TextRule.{TextRule, text_rule_of, owed_line}
use Rattle.rules.specs.Owed.{cancelling}
use Rattle.rules.proofs.RuleLaws.{Each, each-rule}
use Rattle.rules.proofs.NumberLaws.{by-test}

-- the answer that a process owes
abbrev pub owed_in : Local → Owed
owed_in l = l.process.session.owed

-- a process that owes an answer is there
pub absent-owes : (p : Process) → Sound p → p.there ≡ false → p.session.owed ≡ Nothing
absent-owes p g absent = go (owes p.session.owed) refl
  where
    go : (t : Bool) → owes p.session.owed ≡ t → p.session.owed ≡ Nothing
    go true e = absurd (omega (arith, g.owed e, (g.absent absent).0))
    go false e = none-owed-nothing p.session.owed e

-- ---- op codes

-- a granted request with this row leaves nothing owed where its op code cancels, and else what was
abbrev OwedRow : ℕ → Rule → Type 0
OwedRow cmd r = (h : Header) (string : List ℕ) (l : Local) → owed_in (r.effect h string l) ≡ cond (cancelling cmd) Nothing (owed_in l)

owed-lifted_at : (at : ℕ) (l : Local) → owed_in (lifted_at at l) ≡ owed_in l
unfolding lifted_at lifted_in
owed-lifted_at at l = by-test (λ (k : Local). owed_in k ≡ owed_in l) (ltb (find (At at) l.process) 8) (λ e. refl) (λ e. refl)

owed-stepped : (l : Local) → owed_in (stepped l) ≡ owed_in l
unfolding stepped
owed-stepped l = by-test (λ (k : Local). owed_in k ≡ owed_in l) (at_break l.process.run) (λ e. owed-lifted_at (pc l.process) l) (λ e. refl)

owed-proceeded : (l : Local) → owed_in (proceeded l) ≡ owed_in l
unfolding proceeded
owed-proceeded l = owed-lifted_at (pc l.process) l

owed-break_set : (host a n : ℕ) (l : Local) → owed_in (break_set host a n l) ≡ owed_in l
unfolding break_set planted_in
owed-break_set host a n l = by-test (λ (k : Local). owed_in k ≡ owed_in l) (has_break a l.process) (λ e. refl) (λ e. refl)

each_row : Each OwedRow 0 rules
unfolding end_debugged end_watched stopped deposited break_removed removed_from cleared fresh
each_row =
    ((λ h s l. refl), ((λ h s l. refl), ((λ h s l. refl), ((λ h s l. refl), ((λ h s l. refl), ((λ h s l. refl), ((λ h s l. refl), ((λ h s l. refl), ((λ h s l. owed-break_set h.host h.arg1 h.arg2 l), ((λ h s l. refl), ((λ h s l. owed-stepped l), ((λ h s l. owed-proceeded l), ((λ h s l. refl), ((λ h s l. refl), ((λ h s l. refl), ((λ h s l. refl), ((λ h s l. refl), tt)))))))))))))))))

-- an op code past the table has no row, and does not cancel
past-owed : (cmd : ℕ) → length ops ≤ cmd → OwedRow cmd (rule_of cmd)
unfolding rule_of
past-owed cmd past h string l =
    rw (get_or-eq_default rules no_rule past, ne_eqb cmd STOP (λ e. omega arith), ne_eqb cmd END-DEBUG (λ e. omega arith), ne_eqb cmd DESTROY (λ e. omega arith))

pub rule-owed : (cmd : ℕ) → OwedRow cmd (rule_of cmd)
rule-owed cmd = go (ltb cmd (length ops)) refl
  where
    go : (t : Bool) → ltb cmd (length ops) ≡ t → OwedRow cmd (rule_of cmd)
    go true e = each-rule OwedRow each_row cmd (ltb-true cmd (length ops) e)
    go false e = past-owed cmd (ltb-false cmd (length ops) e)

-- ---- letters

-- a `c` or an `s`, with the answer that it makes owed
pub record Later (letter : ℕ) : Type 0 where
  pub owed : Owed
  pub later : owes owed ≡ true
  pub is : letter ≡ owed_letter owed

-- a row that leaves what was owed
abbrev pub Keeps : TextRule → Type 0
Keeps r = (x : Line) (l : Local) → owed_in (r.effect x l) ≡ owed_in l

-- the eighth of the letters, where it is none of the seven others
is-step : (letter : ℕ) → known letter ≡ true → eqb letter READ-CODE || eqb letter READ-DATA ≡ false → eqb letter WRITE-CODE || eqb letter WRITE-DATA ≡ false
    → eqb letter READ-REGISTER ≡ false → eqb letter WRITE-REGISTER ≡ false → eqb letter CONTINUE ≡ false → letter ≡ STEP
unfolding known
is-step letter k words writes r w c =
    eqb-true letter STEP
    (rw (||-left (eqb letter READ-CODE) _ words, ||-right (eqb letter READ-CODE) _ words, ||-left (eqb letter WRITE-CODE) _ writes, ||-right (eqb letter WRITE-CODE) _ writes, r, w, c) at k)

-- each letter leaves what was owed, or is a `c` or an `s`
pub letter-owed : (letter : ℕ) → known letter ≡ true → Keeps (text_rule_of letter) ⊎ Later letter
unfolding text_rule_of deposited
letter-owed letter k =
    by-test Or (eqb letter READ-CODE || eqb letter READ-DATA) (λ e. inl (λ x l. refl))
    (λ e₁. by-test Or (eqb letter WRITE-CODE || eqb letter WRITE-DATA) (λ e. inl (λ x l. refl))
    (λ e₂. by-test Or (eqb letter READ-REGISTER) (λ e. inl (λ x l. refl))
    (λ e₃. by-test Or (eqb letter WRITE-REGISTER) (λ e. inl (λ x l. refl))
    (λ e₄. by-test Or (eqb letter CONTINUE) (λ e. inr (record { owed = Continue; later = refl; is = eqb-true letter CONTINUE e }))
    (λ e₅. inr (record { owed = Step; later = refl; is = is-step letter k e₁ e₂ e₃ e₄ e₅ }))))))
  where
    Or : TextRule → Type 0
    Or r = Keeps r ⊎ Later letter

-- a `c` or an `s` leaves its answer owed, and is answered by nothing at once
module _ (x : Line) (l : Local) where
  answer-owed : (o : Owed) → owes o ≡ true → owed_in ((text_rule_of (owed_letter o)).effect x l) ≡ o
  unfolding text_rule_of continued stepped_from
  answer-owed Nothing e = absurd (true≢false (sym e))
  answer-owed Continue e = refl
  answer-owed Step e = refl

  answer-later : (o : Owed) → owes o ≡ true → (text_rule_of (owed_letter o)).reply x l ≡ []
  unfolding text_rule_of
  answer-later Nothing e = absurd (true≢false (sym e))
  answer-later Continue e = refl
  answer-later Step e = refl

  pub later-owed : (letter : ℕ) (o : Owed) → owes o ≡ true → letter ≡ owed_letter o → owed_in ((text_rule_of letter).effect x l) ≡ o
  later-owed letter o e i = rw i (answer-owed o e)

  pub later-silent : (letter : ℕ) (o : Owed) → owes o ≡ true → letter ≡ owed_letter o → (text_rule_of letter).reply x l ≡ []
  later-silent letter o e i = rw i (answer-later o e)

-- ---- a report

-- the line of an answer that is not owed is none
pub no_line : (p kind : ℕ) (o : Owed) → owes o ≡ false → owed_line p kind o ≡ []
unfolding owed_line
no_line p kind o e = rw e

-- a report stops the process and gives the answer that is owed, or does neither
pub answer-or : (kind : ℕ) (words : List ℕ) (l : Local)
    → ((verdict_of kind (store_vector_and_replant words l).process ≡ Stops (recipient_of kind words l)) × (answer_of kind words l ≡ owed_in l))
    ⊎ ((verdict_of kind (store_vector_and_replant words l).process ≡ Stops (recipient_of kind words l) → ⊥) × (owes (answer_of kind words l) ≡ false))
unfolding answer_of recipient_of
answer-or kind words l = go (verdict_of kind (store_vector_and_replant words l).process)
  where
    go : (v : Verdict) → ((v ≡ Stops (told_by v)) × (answered_by v (owed_in l) ≡ owed_in l)) ⊎ ((v ≡ Stops (told_by v) → ⊥) × (owes (answered_by v (owed_in l)) ≡ false))
    go (Stops host) = inl (refl, refl)
    go (CountsDown k) = inr ((λ e. let z : ◌≡◌ {A = ℕ} 0 1 = cc in omega arith), refl)
    go GoesOn = inr ((λ e. let z : ◌≡◌ {A = ℕ} 0 1 = cc in omega arith), refl)
