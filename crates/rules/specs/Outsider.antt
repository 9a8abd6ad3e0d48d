-- Isolation of one host from one process, in document 01's own words. It follows from the claim for sets.
use Rattle.std.specs.Prelude.{◌≡◌, Bool, false, List, [], ◌∷◌, ℕ, ◌<◌, eqb}
use Rattle.rules.specs.Rule.{Public}
use Rattle.rules.specs.Tests.{State, record_of}
use Rattle.rules.specs.Access.{by, insider}
use Rattle.rules.specs.Step.{Call, step, local_of}
use Rattle.rules.specs.Ready.{Ready}
use Rattle.rules.specs.Run.{TraceItem, run, final, leave}
use Rattle.rules.specs.Isolation.{asker, heard, Alike, theirs, told_of, public_of}

-- one host, or one process
abbrev pub only : ℕ → ℕ → Bool
only n k = eqb n k

-- 'The start states differ only in P's memory and P's record, and agree on whether P is there, on its host'
pub record Differ (p : ℕ) (s₁ s₂ : State) : Type 0 where
  pub there : (record_of s₁ p).there ≡ (record_of s₂ p).there
  pub host : (record_of s₁ p).host ≡ (record_of s₂ p).host
  -- 'and on whatever is later called public': its watcher and its size
  pub watcher : (record_of s₁ p).session.watcher ≡ (record_of s₂ p).session.watcher
  pub size : (record_of s₁ p).size ≡ (record_of s₂ p).size
  pub others : (q : ℕ) → q < 8 → (q ≡ p → ⊥) → local_of s₁ q ≡ local_of s₂ q

-- 'Who debugs a process: at the start the host in its record'; then by what each call is answered: not this host, at any time; 'Demand 3 counts
-- a watcher as debugging'
unfoldable pub Never : ℕ → ℕ → (ℕ → Public) → List TraceItem → Type 0
Never host p who [] = insider (who p) host ≡ false
Never host p who (e ∷ es) = (insider (who p) host ≡ false) × Never host p (told_of who e.call e.answer) es

-- the host debugs or watches the process neither at the start nor after any call
abbrev pub Outside : ℕ → ℕ → State → List Call → Type 0
Outside host p s l = Never host p (public_of s) (run s l)

-- one host and one process
pub record Outsider (host p : ℕ) : Type 0 where
  -- 'It is enough that the host does not debug P in one of the two gateways.'
  pub either : (s₁ s₂ : State) → Ready s₁ → Ready s₂ → Differ p s₁ s₂ → (l₁ l₂ : List Call) → Alike (only host) (only p) l₁ l₂
      → Outside host p s₁ l₁ → Outside host p s₂ l₂
  -- part one: the sequence of answers to him is the same in both
  pub same-answers : (s₁ s₂ : State) → Ready s₁ → Ready s₂ → Differ p s₁ s₂ → (l₁ l₂ : List Call) → Alike (only host) (only p) l₁ l₂
      → Outside host p s₁ l₁ → heard (only host) (run s₁ l₁) ≡ heard (only host) (run s₂ l₂)
  -- and so is the answer to his next request, also to the DEBUG, WATCH or CREATE by which he debugs or watches P
  pub same_next : (s₁ s₂ : State) → Ready s₁ → Ready s₂ → Differ p s₁ s₂ → (l₁ l₂ : List Call) → Alike (only host) (only p) l₁ l₂
      → Outside host p s₁ l₁ → (c : Call) → asker c ≡ by host → (step (final s₁ l₁) c).answer ≡ (step (final s₂ l₂) c).answer
  -- part two: without some or all of his requests that name P, every other call has the same answer and the same state after it
  pub unnoticed : (s : State) → Ready s → (l : List Call) → Outside host p s l → (marks : List Bool)
      → run s (leave (theirs (only host) (only p)) marks l) ≡ leave (λ (e : TraceItem). theirs (only host) (only p) e.call) marks (run s l)
  -- and at the end
  pub same_end : (s : State) → Ready s → (l : List Call) → Outside host p s l → (marks : List Bool)
      → final s (leave (theirs (only host) (only p)) marks l) ≡ final s l

-- for every host, so for 1 to 255, and for the processes 0 to 7
unfoldable pub Outsiders : Type 0
Outsiders = (host p : ℕ) → p < 8 → Outsider host p
