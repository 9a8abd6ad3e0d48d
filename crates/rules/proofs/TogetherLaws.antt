-- Whole lists of calls, where processes may be created again for the hosts: the claim for sets, from the laws of one call and the induction
-- over lists. Assumes nothing.
use mathlib.Core.Path.{◌≡◌, refl, sym, ap, ◌∙◌, subst}
use mathlib.Core.Bool.{Bool, true, false, cond, ◌&&◌}
use mathlib.Core.List.{List, [], ◌∷◌, ◌++◌}
use Rattle.lists.proofs.Bool.{&&-right}
use Rattle.rules.specs.Tests.{State}
use Rattle.rules.specs.Step.{Answer, Call, step}
use Rattle.rules.specs.Ready.{Ready}
use Rattle.rules.specs.Run.{TraceItem, trace_item, run, final}
use Rattle.rules.specs.Isolation.{Hosts, Processes, asker, subject, event, is_one, part, heard, struck, without_data, Apart, NoneDebugs, theirs}
use Rattle.rules.specs.Together.{hidden_after, Away, strike_run, without_theirs, calls_of, TwoRuns, Together}
use Rattle.rules.proofs.StepLaws.{step-ready}
use Rattle.rules.proofs.IsolationLaws.{apart-same, apart-back, free-apart, struck-apart, struck-part, both, stays-without_data, theirs-idle}
use Rattle.rules.proofs.AgainLaws.{subject-hidden, goes}
use Rattle.rules.proofs.TraceLaws.{Machine, Stepwise, Idle, heard_of, strike_of, AwayOf, final_of, run_of, leave_of, rest_of}
use Rattle.rules.proofs.TraceLaws.{both-away as away, same-heard as heard-alike, same_next as next-alike, left_out as run-left, same_end as end-left}

-- the calls, as these hosts see them, with what is hidden after each call
abbrev pub machine : Hosts → (Processes → State → Call → Processes) → Machine
machine H next = record {
  S = State;
  C = Call;
  A = Answer;
  K = Processes;
  after = λ s c. (step s c).after;
  part = λ s c. part H (trace_item s c);
  struck = struck;
  without_data = without_data H;
  next = next;
  Ready = Ready;
  Apart = Apart;
  NoneDebugs = NoneDebugs H;
}

module _ (H : Hosts) where
  -- what is created again for them is no longer hidden
  abbrev hiding : Machine
  hiding = machine H (λ P s c. hidden_after H P (trace_item s c))

  struck-hidden : (P : Processes) (s : State) (c : Call) → struck P c ≡ true → hidden_after H P (trace_item s c) ≡ P
  unfolding struck
  struck-hidden P s c e = subject-hidden H P s c (&&-right (event c) (subject P c) e)

  theirs-hidden : (P : Processes) (s : State) (c : Call) → theirs H P c ≡ true → hidden_after H P (trace_item s c) ≡ P
  unfolding theirs
  theirs-hidden P s c e = subject-hidden H P s c (&&-right (is_one H (asker c)) (subject P c) e)

  stepwise : Stepwise hiding
  stepwise = record {
    ready = step-ready;
    itself = apart-same;
    back = apart-back;
    free = free-apart H;
    struck-next = struck-hidden;
    struck-apart = λ P s t r a c e. struck-apart H P s t r a c e;
    struck-part = λ P s r f c e. struck-part H P s r f c e;
    stays-next = λ P s t r q a f c e. (goes H P s t r q a f c).next;
    stays-apart = λ P s t r q a f c e. (goes H P s t r q a f c).apart;
    stays-part = λ P s t r q a f c e. (stays-without_data H P s t r q a c).parts f;
  }

  idles : Idle hiding (theirs H)
  idles = record {
    ready = step-ready;
    idle = λ P s r c e f g. theirs-idle H P s r c e f (subst (λ (Q : Processes). NoneDebugs H Q (step s c).after) (theirs-hidden P s c e) g);
  }

  -- ---- the definitions of the claim are those of the machine

  is-heard : (s : State) (l : List Call) → heard H (run s l) ≡ heard_of hiding s l
  unfolding heard run heard_of
  is-heard s [] = refl
  is-heard s (c ∷ l) = ap (λ (x : List Answer). part H (trace_item s c) ++ x) (is-heard (step s c).after l)

  is-strike : (l : List Call) (P : Processes) (s : State) → strike_run H P (run s l) ≡ strike_of hiding P s l
  unfolding strike_run run strike_of
  is-strike [] P s = refl
  is-strike (c ∷ l) P s = go (λ Q. is-strike l Q (step s c).after) (struck P c) refl
    where
      go : ((Q : Processes) → strike_run H Q (run (step s c).after l) ≡ strike_of hiding Q (step s c).after l) → (t : Bool) → struck P c ≡ t
          → strike_run H P (run s (c ∷ l)) ≡ strike_of hiding P s (c ∷ l)
      go i true e = rw e (ap (λ (Q : Processes). strike_run H Q (run (step s c).after l)) (struck-hidden P s c e) ∙ i P)
      go i false e = rw e (ap (λ (x : List Call). without_data H P c ∷ x) (i (hidden_after H P (trace_item s c))))

  is-away : (l : List Call) (P : Processes) (s : State) → Away H P s (run s l) ≡ AwayOf hiding P s l
  unfolding Away run AwayOf
  is-away [] P s = refl
  is-away (c ∷ l) P s = ap (λ (T : Type 0). NoneDebugs H P s × T) (is-away l (hidden_after H P (trace_item s c)) (step s c).after)

  is-final : (s : State) (l : List Call) → final s l ≡ final_of hiding s l
  unfolding final final_of
  is-final s [] = refl
  is-final s (c ∷ l) = is-final (step s c).after l

  is-run : (s : State) (l : List Call) → run s l ≡ run_of hiding trace_item (theirs H) s l
  unfolding run run_of
  is-run s [] = refl
  is-run s (c ∷ l) = ap (λ (x : List TraceItem). trace_item s c ∷ x) (is-run (step s c).after l)

  is-rest : (marks : List Bool) (l : List Call) (P : Processes) (s : State) → without_theirs H P marks (run s l) ≡ rest_of hiding trace_item (theirs H) P s marks l
  unfolding without_theirs run rest_of
  is-rest [] l P s = is-run s l
  is-rest (m ∷ ms) [] P s = refl
  is-rest (m ∷ ms) (c ∷ l) P s = rw (is-rest ms l (hidden_after H P (trace_item s c)) (step s c).after)

  pub calls-run : (s : State) (l : List Call) → calls_of (run s l) ≡ l
  unfolding run
  calls-run s [] = refl
  calls-run s (c ∷ l) = ap (λ (x : List Call). c ∷ x) (calls-run (step s c).after l)

  is-leave : (marks : List Bool) (l : List Call) (P : Processes) (s : State)
      → calls_of (without_theirs H P marks (run s l)) ≡ leave_of hiding trace_item (theirs H) P s marks l
  unfolding without_theirs run leave_of
  is-leave [] l P s = calls-run s l
  is-leave (m ∷ ms) [] P s = refl
  is-leave (m ∷ ms) (c ∷ l) P s = go (is-leave ms l (hidden_after H P (trace_item s c)) (step s c).after) (m && theirs H P c)
    where
      kept : List TraceItem
      kept = without_theirs H (hidden_after H P (trace_item s c)) ms (run (step s c).after l)

      left : List Call
      left = leave_of hiding trace_item (theirs H) (hidden_after H P (trace_item s c)) (step s c).after ms l

      go : calls_of kept ≡ left → (t : Bool) → calls_of (cond t kept (trace_item s c ∷ kept)) ≡ cond t left (c ∷ left)
      go i true = i
      go i false = ap (λ (x : List Call). c ∷ x) i

  -- ---- the claim

  module _ (P : Processes) (s₁ s₂ : State) (l₁ l₂ : List Call) (w : TwoRuns H P s₁ s₂ l₁ l₂) where
    alike : strike_of hiding P s₁ l₁ ≡ strike_of hiding P s₂ l₂
    alike = sym (is-strike l₁ P s₁) ∙ w.alike ∙ is-strike l₂ P s₂

    apart : AwayOf hiding P s₁ l₁
    apart = subst (λ (T : Type 0). T) (is-away l₁ P s₁) w.away

    same-heard : heard H (run s₁ l₁) ≡ heard H (run s₂ l₂)
    same-heard = is-heard s₁ l₁ ∙ heard-alike hiding stepwise P s₁ s₂ w.ready₁ w.ready₂ w.apart l₁ l₂ alike apart ∙ sym (is-heard s₂ l₂)

    same_next : (c : Call) → is_one H (asker c) ≡ true → (step (final s₁ l₁) c).answer ≡ (step (final s₂ l₂) c).answer
    same_next c h =
        ap (λ (s : State). (step s c).answer) (is-final s₁ l₁)
        ∙ next-alike hiding stepwise (λ (s : State). (step s c).answer) (λ Q s t r q b f. (both H Q s t r q b c).same f h) P s₁ s₂ w.ready₁ w.ready₂ w.apart l₁ l₂ alike apart
        ∙ sym (ap (λ (s : State). (step s c).answer) (is-final s₂ l₂))

    both-away : Away H P s₂ (run s₂ l₂)
    both-away = subst (λ (T : Type 0). T) (sym (is-away l₂ P s₂)) (away hiding stepwise P s₁ s₂ w.ready₁ w.ready₂ w.apart l₁ l₂ alike apart)

  module _ (P : Processes) (s : State) (r : Ready s) (l : List Call) (w : Away H P s (run s l)) (marks : List Bool) where
    still : AwayOf hiding P s l
    still = subst (λ (T : Type 0). T) (is-away l P s) w

    left_out : run s (calls_of (without_theirs H P marks (run s l))) ≡ without_theirs H P marks (run s l)
    left_out =
        ap (run s) (is-leave marks l P s)
        ∙ is-run s (leave_of hiding trace_item (theirs H) P s marks l)
        ∙ run-left hiding trace_item (theirs H) idles marks l P s r still
        ∙ sym (is-rest marks l P s)

    same_end : final s (calls_of (without_theirs H P marks (run s l))) ≡ final s l
    same_end =
        ap (final s) (is-leave marks l P s)
        ∙ is-final s (leave_of hiding trace_item (theirs H) P s marks l)
        ∙ end-left hiding trace_item (theirs H) idles marks l P s r still
        ∙ sym (is-final s l)

  pub together : (P : Processes) → Together H P
  together P = record { same-heard = same-heard P; same_next = same_next P; both-away = both-away P; left_out = left_out P; same_end = same_end P }
