-- Where no process is created again for the hosts, lists are alike by their calls alone: the claim for sets as document 01 says it, from the
-- claim along the runs. Assumes nothing.
use mathlib.Core.Path.{◌≡◌, refl, sym, ap, ◌∙◌, subst}
use mathlib.Core.Bool.{Bool, true, false, cond, ◌&&◌}
use mathlib.Core.List.{List, [], ◌∷◌}
use Rattle.rules.specs.Tests.{State}
use Rattle.rules.specs.Step.{Call, step}
use Rattle.rules.specs.Ready.{Ready}
use Rattle.rules.specs.Run.{TraceItem, trace_item, run, final, leave}
use Rattle.rules.specs.Isolation.{Hosts, Processes, strike, Alike, Apart, NoneDebugs, NeverDebugs, theirs, Claim}
use Rattle.rules.specs.Together.{Away, strike_run, without_theirs, calls_of, TwoRuns, Together}
use Rattle.rules.proofs.StepLaws.{step-ready}
use Rattle.rules.proofs.IsolationLaws.{apart-same, apart-back, free-apart, struck-apart, struck-part, stays-without_data}
use Rattle.rules.proofs.AgainLaws.{stays-hidden}
use Rattle.rules.proofs.TraceLaws.{Machine, Stepwise, strike_of, AwayOf}
use Rattle.rules.proofs.TraceLaws.{both-away as away}
use Rattle.rules.proofs.TogetherLaws.{machine, calls-run, together}

module _ (H : Hosts) (P : Processes) where
  -- ---- who stays away in one gateway does so in the other

  -- the same processes stay hidden
  abbrev steady : Machine
  steady = machine H (λ Q s c. Q)

  stepwise : Stepwise steady
  stepwise = record {
    ready = step-ready;
    itself = apart-same;
    back = apart-back;
    free = free-apart H;
    struck-next = λ Q s c e. refl;
    struck-apart = λ Q s t r a c e. struck-apart H Q s t r a c e;
    struck-part = λ Q s r f c e. struck-part H Q s r f c e;
    stays-next = λ Q s t r q a f c e. refl;
    stays-apart = λ Q s t r q a f c e. (stays-without_data H Q s t r q a c).apart;
    stays-part = λ Q s t r q a f c e. (stays-without_data H Q s t r q a c).parts f;
  }

  is-strike : (s : State) (l : List Call) → strike H P l ≡ strike_of steady P s l
  unfolding strike strike_of
  is-strike s [] = refl
  is-strike s (c ∷ l) = rw (is-strike (step s c).after l)

  is-away : (s : State) (l : List Call) → NeverDebugs H P s l ≡ AwayOf steady P s l
  unfolding NeverDebugs AwayOf
  is-away s [] = refl
  is-away s (c ∷ l) = ap (λ (T : Type 0). NoneDebugs H P s × T) (is-away (step s c).after l)

  both-away : (s₁ s₂ : State) → Ready s₁ → Ready s₂ → Apart P s₁ s₂ → (l₁ l₂ : List Call) → Alike H P l₁ l₂ → NeverDebugs H P s₁ l₁ → NeverDebugs H P s₂ l₂
  both-away s₁ s₂ r₁ r₂ a l₁ l₂ e w =
      subst (λ (T : Type 0). T) (sym (is-away s₂ l₂))
      (away steady stepwise P s₁ s₂ r₁ r₂ a l₁ l₂ (sym (is-strike s₁ l₁) ∙ e ∙ is-strike s₂ l₂) (subst (λ (T : Type 0). T) (is-away s₁ l₁) w))

  -- ---- what is hidden stays so, and the definitions along the run are those on lists

  never-now : (s : State) (l : List Call) → NeverDebugs H P s l → NoneDebugs H P s
  unfolding NeverDebugs
  never-now s [] w = w
  never-now s (c ∷ l) w = w.0

  still-away : (l : List Call) (s : State) → Ready s → NeverDebugs H P s l → Away H P s (run s l)
  unfolding NeverDebugs Away run
  still-away [] s r w = w
  still-away (c ∷ l) s r w =
      let t = (step s c).after in
      (w.0, rw (stays-hidden H P s r c w.0 (never-now t l w.1)) (still-away l t (step-ready s r c) w.1))

  same-strike : (l : List Call) (s : State) → Ready s → NeverDebugs H P s l → strike_run H P (run s l) ≡ strike H P l
  unfolding NeverDebugs strike_run strike run
  same-strike [] s r w = refl
  same-strike (c ∷ l) s r w =
      let t = (step s c).after in
      rw (stays-hidden H P s r c w.0 (never-now t l w.1), same-strike l t (step-ready s r c) w.1)

  abbrev their_entry : TraceItem → Bool
  their_entry e = theirs H P e.call

  same_left : (marks : List Bool) (l : List Call) (s : State) → Ready s → NeverDebugs H P s l → without_theirs H P marks (run s l) ≡ leave their_entry marks (run s l)
  unfolding NeverDebugs without_theirs leave run
  same_left [] l s r w = refl
  same_left (m ∷ ms) [] s r w = refl
  same_left (m ∷ ms) (c ∷ l) s r w =
      let t = (step s c).after in
      rw (stays-hidden H P s r c w.0 (never-now t l w.1), same_left ms l t (step-ready s r c) w.1)

  calls-left : (marks : List Bool) (l : List Call) (s : State) → calls_of (leave their_entry marks (run s l)) ≡ leave (theirs H P) marks l
  unfolding leave run
  calls-left [] l s = calls-run H s l
  calls-left (m ∷ ms) [] s = refl
  calls-left (m ∷ ms) (c ∷ l) s = go (calls-left ms l (step s c).after) (m && theirs H P c)
    where
      kept : List TraceItem
      kept = leave their_entry ms (run (step s c).after l)

      left : List Call
      left = leave (theirs H P) ms l

      go : calls_of kept ≡ left → (t : Bool) → calls_of (cond t kept (trace_item s c ∷ kept)) ≡ cond t left (c ∷ left)
      go i true = i
      go i false = ap (λ (x : List Call). c ∷ x) i

  -- ---- the claim

  all : Together H P
  all = together H P

  two : (s₁ s₂ : State) → Ready s₁ → Ready s₂ → Apart P s₁ s₂ → (l₁ l₂ : List Call) → Alike H P l₁ l₂ → NeverDebugs H P s₁ l₁ → TwoRuns H P s₁ s₂ l₁ l₂
  two s₁ s₂ r₁ r₂ a l₁ l₂ e w = record {
    ready₁ = r₁;
    ready₂ = r₂;
    apart = a;
    alike = same-strike l₁ s₁ r₁ w ∙ e ∙ sym (same-strike l₂ s₂ r₂ (both-away s₁ s₂ r₁ r₂ a l₁ l₂ e w));
    away = still-away l₁ s₁ r₁ w;
  }

  module _ (s : State) (r : Ready s) (l : List Call) (w : NeverDebugs H P s l) (marks : List Bool) where
    same_rest : calls_of (without_theirs H P marks (run s l)) ≡ leave (theirs H P) marks l
    same_rest = ap calls_of (same_left marks l s r w) ∙ calls-left marks l s

    left_out : run s (leave (theirs H P) marks l) ≡ leave their_entry marks (run s l)
    left_out = ap (run s) (sym same_rest) ∙ all.left_out s r l (still-away l s r w) marks ∙ same_left marks l s r w

    same_end : final s (leave (theirs H P) marks l) ≡ final s l
    same_end = ap (final s) (sym same_rest) ∙ all.same_end s r l (still-away l s r w) marks

  pub claim : Claim H P
  claim = record {
    same-heard = λ s₁ s₂ r₁ r₂ a l₁ l₂ e w. all.same-heard s₁ s₂ l₁ l₂ (two s₁ s₂ r₁ r₂ a l₁ l₂ e w);
    same_next = λ s₁ s₂ r₁ r₂ a l₁ l₂ e w. all.same_next s₁ s₂ l₁ l₂ (two s₁ s₂ r₁ r₂ a l₁ l₂ e w);
    both-away = both-away;
    left_out = left_out;
    same_end = same_end;
  }
