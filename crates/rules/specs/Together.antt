-- Any set of hosts and any set of processes, over the runs of two gateways: what the hosts receive together, and what they ask together.
-- A process that is created again for one of them is hidden until then, and theirs from then on. Words in quotation marks are the change
-- request's (K13).
use Rattle.std.specs.Prelude.{◌≡◌, Bool, true, not, cond, ◌&&◌, List, [], ◌∷◌, map, ℕ, get_or, eqb}
use Rattle.rules.specs.Rule.{creates}
use Rattle.rules.specs.Tests.{State}
use Rattle.rules.specs.Step.{Call, step}
use Rattle.rules.specs.Ready.{Ready}
use Rattle.rules.specs.Run.{TraceItem, run, final}
use Rattle.rules.specs.Isolation.{Hosts, Processes, asker, fields_of, is_one, is_granted, Debuggers, heard, struck, without_data, Apart, NoneDebugs, theirs, Claim}
use Rattle.rules.specs.Outsider.{Outsiders}

-- ---- the processes that are hidden

-- 'A process created again for one of them': by a granted CREATE of one of the hosts, whose reply carries its number
unfoldable pub created_for : Hosts → TraceItem → ℕ → Bool
created_for H e p =
    is_one H (asker e.call) && (creates (fields_of e.call).cmd && (is_granted e.answer.outcome && eqb p (get_or e.answer.buffer 5 0)))

-- 'counts as theirs from that CREATE on': the others stay hidden
unfoldable pub hidden_after : Hosts → Processes → TraceItem → Processes
hidden_after H P e p = P p && not (created_for H e p)

-- 'any set of processes none of them debugs or watches': neither at the start nor after any call, while it is hidden
unfoldable pub Away : Hosts → Processes → State → List TraceItem → Type 0
Away H P s [] = NoneDebugs H P s
Away H P s (e ∷ es) = NoneDebugs H P s × Away H (hidden_after H P e) e.after es

-- ---- runs that are alike

-- the calls of a run, struck and passed over: at each call, of the processes that are hidden then
unfoldable pub strike_run : Hosts → Processes → List TraceItem → List Call
strike_run H P [] = []
strike_run H P (e ∷ es) =
    cond (struck P e.call) (strike_run H (hidden_after H P e) es) (without_data H P e.call ∷ strike_run H (hidden_after H P e) es)

-- of a process created again for one of them 'its later reports, stores and deposits being alike'
abbrev pub AlikeRuns : Hosts → Processes → List TraceItem → List TraceItem → Type 0
AlikeRuns H P es₁ es₂ = strike_run H P es₁ ≡ strike_run H P es₂

-- ---- what is left out

-- a run without some or all of 'their requests naming those', those that are marked; 'only requests before it are left out'
unfoldable pub without_theirs : Hosts → Processes → List Bool → List TraceItem → List TraceItem
without_theirs H P [] es = es
without_theirs H P (m ∷ ms) [] = []
without_theirs H P (m ∷ ms) (e ∷ es) =
    cond (m && theirs H P e.call) (without_theirs H (hidden_after H P e) ms es) (e ∷ without_theirs H (hidden_after H P e) ms es)

-- the calls of a run
abbrev pub calls_of : List TraceItem → List Call
calls_of es = map (λ (e : TraceItem). e.call) es

-- ---- the claim

-- two gateways that differ in the hidden processes alone, with lists that are alike; the hosts stay away in one of the two
pub record TwoRuns (H : Hosts) (P : Processes) (s₁ s₂ : State) (l₁ l₂ : List Call) : Type 0 where
  pub ready₁ : Ready s₁
  pub ready₂ : Ready s₂
  pub apart : Apart P s₁ s₂
  pub alike : AlikeRuns H P (run s₁ l₁) (run s₂ l₂)
  pub away : Away H P s₁ (run s₁ l₁)

-- 'Demand 3 shall hold for any set of hosts and any set of processes none of them debugs or watches'
pub record Together (H : Hosts) (P : Processes) : Type 0 where
  -- 'all they receive together is the same', in its order
  pub same-heard : (s₁ s₂ : State) (l₁ l₂ : List Call) → TwoRuns H P s₁ s₂ l₁ l₂ → heard H (run s₁ l₁) ≡ heard H (run s₂ l₂)
  -- and so is the next answer to one of them, also to the DEBUG, WATCH or CREATE that makes a process theirs
  pub same_next : (s₁ s₂ : State) (l₁ l₂ : List Call) → TwoRuns H P s₁ s₂ l₁ l₂ → (c : Call) → is_one H (asker c) ≡ true
      → (step (final s₁ l₁) c).answer ≡ (step (final s₂ l₂) c).answer
  -- who stays away in one gateway does so in the other
  pub both-away : (s₁ s₂ : State) (l₁ l₂ : List Call) → TwoRuns H P s₁ s₂ l₁ l₂ → Away H P s₂ (run s₂ l₂)
  -- 'their requests naming those can be left out together': every other call has the same answer and the same state after it
  pub left_out : (s : State) → Ready s → (l : List Call) → Away H P s (run s l) → (marks : List Bool)
      → run s (calls_of (without_theirs H P marks (run s l))) ≡ without_theirs H P marks (run s l)
  -- and at the end
  pub same_end : (s : State) → Ready s → (l : List Call) → Away H P s (run s l) → (marks : List Bool)
      → final s (calls_of (without_theirs H P marks (run s l))) ≡ final s l

-- isolation: who debugs and who watches is told by the calls and their answers; the claim for sets, where processes may be created again on the
-- way; where none is, by the lists alone; and for one host and one process
pub record Isolation : Type 0 where
  pub debuggers : Debuggers
  pub together : (H : Hosts) (P : Processes) → Together H P
  pub claim : (H : Hosts) (P : Processes) → Claim H P
  pub outsiders : Outsiders
