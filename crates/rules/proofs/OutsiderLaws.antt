-- One host and one process: the claim for sets, at the set of one each; and all of isolation together. Assumes nothing.
use mathlib.Core.Path.{◌≡◌, refl, sym, ap, ◌∙◌, subst, fun_ext}
use mathlib.Core.Bool.{Bool, true, false}
use mathlib.Core.List.{List, [], ◌∷◌}
use Prim.Native.Nat.{ℕ, ◌<◌}
use borrow.Author.Tests.{eqb-true, eqb-false, eq-eqb}
use lib.Dec.{eqb}
use Rattle.process.specs.Local.{Local}
use Rattle.rules.specs.Rule.{Public, public}
use Rattle.rules.specs.Tests.{State, record_of}
use Rattle.rules.specs.Access.{insider}
use Rattle.rules.specs.Step.{Call, step}
use Rattle.rules.specs.Ready.{Ready}
use Rattle.rules.specs.Run.{run}
use Rattle.rules.specs.Isolation.{is_one, Apart, NoneDebugs, NeverDebugs, told_of, public_of, Debuggers, Claim}
use Rattle.rules.specs.Outsider.{only, Differ, Never, Outside, Outsider, Outsiders}
use Rattle.rules.specs.Together.{Isolation}
use Rattle.rules.proofs.StepLaws.{step-ready}
use Rattle.rules.proofs.TogetherLaws.{together}
use Rattle.rules.proofs.ListLaws.{claim}
use Rattle.rules.proofs.DebuggerLaws.{debuggers}

-- states that differ in one process differ in the set of it
differ-apart : (p : ℕ) (s₁ s₂ : State) → Differ p s₁ s₂ → Apart (only p) s₁ s₂
unfolding public
differ-apart p s₁ s₂ d = record {
  shown = λ q h. shown q h (eqb p q) refl;
  others = λ q h n. d.others q h (λ e. eqb-false p q n (sym e));
}
  where
    here : public (record_of s₁ p) ≡ public (record_of s₂ p)
    here = rw (d.there, d.host, d.watcher, d.size)

    shown : (q : ℕ) → q < 8 → (t : Bool) → eqb p q ≡ t → public_of s₁ q ≡ public_of s₂ q
    shown q h true e = rw (← eqb-true p q e) here
    shown q h false e = ap (λ (l : Local). public l.process) (d.others q h (λ i. eqb-false p q e (sym i)))

-- ---- not to debug it, by the answers and by the states

module _ (host p : ℕ) where
  out-free : (s : State) → insider (public_of s p) host ≡ false → NoneDebugs (only host) (only p) s
  out-free s n q low e k i = rw (← eqb-true p q e, ← eqb-true host k i) n

  free-out : p < 8 → (s : State) → NoneDebugs (only host) (only p) s → insider (public_of s p) host ≡ false
  free-out low s f = f p low (eq-eqb p p refl) host (eq-eqb host host refl)

  -- what the calls tell is what the states hold
  told-after : (s : State) → Ready s → (c : Call) → told_of (public_of s) c (step s c).answer ≡ public_of (step s c).after
  unfolding Debuggers
  told-after s r c = fun_ext (λ q. sym (debuggers s r c q))

  out-away : (l : List Call) (s : State) → Ready s → Outside host p s l → NeverDebugs (only host) (only p) s l
  unfolding Never NeverDebugs run
  out-away [] s r w = out-free s w
  out-away (c ∷ l) s r w = (
    out-free s w.0,
    out-away l (step s c).after (step-ready s r c)
        (subst (λ (who : ℕ → Public). Never host p who (run (step s c).after l)) (told-after s r c) w.1),
  )

  away-out : p < 8 → (l : List Call) (s : State) → Ready s → NeverDebugs (only host) (only p) s l → Outside host p s l
  unfolding Never NeverDebugs run
  away-out low [] s r w = free-out low s w
  away-out low (c ∷ l) s r w = (
    free-out low s w.0,
    subst (λ (who : ℕ → Public). Never host p who (run (step s c).after l)) (sym (told-after s r c))
        (away-out low l (step s c).after (step-ready s r c) w.1),
  )

  outsider : p < 8 → Outsider host p
  unfolding is_one
  outsider low = record {
    either = λ s₁ s₂ r₁ r₂ d l₁ l₂ e w. away-out low l₂ s₂ r₂ (c.both-away s₁ s₂ r₁ r₂ (differ-apart p s₁ s₂ d) l₁ l₂ e (out-away l₁ s₁ r₁ w));
    same-answers = λ s₁ s₂ r₁ r₂ d l₁ l₂ e w. c.same-heard s₁ s₂ r₁ r₂ (differ-apart p s₁ s₂ d) l₁ l₂ e (out-away l₁ s₁ r₁ w);
    same_next = λ s₁ s₂ r₁ r₂ d l₁ l₂ e w a h.
        c.same_next s₁ s₂ r₁ r₂ (differ-apart p s₁ s₂ d) l₁ l₂ e (out-away l₁ s₁ r₁ w) a (ap (is_one (only host)) h ∙ eq-eqb host host refl);
    unnoticed = λ s r l w. c.left_out s r l (out-away l s r w);
    same_end = λ s r l w. c.same_end s r l (out-away l s r w);
  }
    where
      c : Claim (only host) (only p)
      c = claim (only host) (only p)

outsiders : Outsiders
unfolding Outsiders
outsiders = outsider

pub isolation : Isolation
isolation = record { debuggers = debuggers; together = together; claim = claim; outsiders = outsiders }
