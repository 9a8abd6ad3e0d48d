-- A call in its parts: who asks, its tests in their order, what is written, and what is left of the process that it is about.
use Rattle.std.specs.Prelude.{cond, List, [], ℕ, length, eqb}
use Rattle.lists.specs.Buffer.{overlay}
use Rattle.format.specs.Outcome.{outcome, Test, first_failing}
use Rattle.process.specs.Local.{Local}
use Rattle.rules.specs.Rule.{Public, public}
unfoldable pub use Rattle.rules.specs.Rule.{insider}
use Rattle.rules.specs.Tests.{State}
use Rattle.rules.specs.Window.{Buffers, Answer, StepResult, local_of, put}

-- who asks a call: a host, or nobody
pub data Asker : Type 0 where
  nobody : Asker
  by : (host : ℕ) → Asker

-- what a granted call writes: to its own buffer and, of a report, to the line buffer
pub record Output : Type 0 where
  pub own : List ℕ
  pub line : List ℕ

-- to its own buffer alone
abbrev pub alone : List ℕ → Output
alone bytes = record { own = bytes; line = [] }

-- what a call asks of one process, and what it does to it
pub record Access : Type 0 where
  -- the tests by the public part alone
  pub outer : Public → List Test
  -- the tests by the process with its bytes
  pub inner : Local → List Test
  -- what is written where all pass
  pub reply : Local → Output
  -- the bytes written where the test of this number fails
  pub refusal : Local → ℕ → List ℕ
  -- what is left of the process where all pass
  pub effect : Local → Local

-- where a call goes: to no process, and writes this; or to a process
pub data Place : Type 0 where
  nowhere : (output : Output) → Place
  at_process : (p : ℕ) (access : Access) → Place

-- a call: the tests before it looks at a process, the bytes written where one of these fails, and where it goes
pub record Turn : Type 0 where
  pub tests : List Test
  pub refusal : ℕ → List ℕ
  pub place : Place

-- the number of the first test that fails at a process, or 0
unfoldable pub number_at : Access → Local → ℕ
number_at a l =
    cond (eqb (first_failing (a.outer (public l.process))) 0) (first_failing (a.inner l)) (first_failing (a.outer (public l.process)))

-- granted: what is written is laid over the start of the buffers
abbrev pub grants : Output → Buffers → Answer
grants w b = record {
  outcome = outcome 0 (length w.own);
  buffer = overlay w.own b.own;
  line_length = length w.line;
  line = overlay w.line b.line;
}

-- refused with a number
abbrev pub refuses : ℕ → List ℕ → Buffers → Answer
refuses number bytes b = record { outcome = outcome number 0; buffer = overlay bytes b.own; line_length = 0; line = b.line }

-- a call whose first tests pass; 'State and memory are unchanged by a refusal'
unfoldable pub reached : Place → Buffers → State → StepResult
reached (nowhere output) b s = record { answer = grants output b; after = s }
reached (at_process p a) b s =
    cond (eqb (number_at a (local_of s p)) 0)
    (record { answer = grants (a.reply (local_of s p)) b; after = put p (a.effect (local_of s p)) s })
    (record { answer = refuses (number_at a (local_of s p)) (a.refusal (local_of s p) (number_at a (local_of s p))) b; after = s })

-- a call, with its output buffers
unfoldable pub taken : Turn → Buffers → State → StepResult
taken t b s =
    cond (eqb (first_failing t.tests) 0) (reached t.place b s)
    (record { answer = refuses (first_failing t.tests) (t.refusal (first_failing t.tests)) b; after = s })
