-- 'One memory for all', in the words of a user: what CREATE and DESTROY do to it, and that nothing of a destroyed process is left. Words in
-- quotation marks are the change request's (K9).
use Rattle.std.specs.Prelude.{◌≡◌, true, List, map, ◌⊎◌, ℕ, ◌+◌, ◌≤◌, ◌<◌, get_or, replicate}
use Rattle.format.specs.Outcome.{number_of, first_failing}
use Rattle.format.specs.Layout.{header_of}
use Rattle.ops.specs.Codes.{CREATE, DESTROY}
use Rattle.process.specs.Theorems.{seen_of}
use Rattle.state.specs.Records.{start_of}
use Rattle.state.specs.Layout.{extent_at, used, free_bytes, slot}
use Rattle.rules.specs.Rule.{size_asked}
use Rattle.rules.specs.Tests.{State, record_of}
use Rattle.rules.specs.Step.{Answer, StepResult, Call, request, request_step, step, local_of}
use Rattle.rules.specs.Turn.{message_tests}
use Rattle.rules.specs.Ready.{Ready}
use Rattle.rules.specs.Run.{TraceItem, run, final}
use Rattle.rules.specs.Isolation.{cmd_of, pid_of, fields_of, is_granted, public_of}

-- ---- free bytes

-- the processes are the same, record and bytes, wherever in memory they lie; free bytes may differ
abbrev pub SameProcesses : State → State → Type 0
SameProcesses s t = (p : ℕ) → p < 8 → local_of s p ≡ local_of t p

-- the answers of a run, in their order
abbrev pub answers_of : List TraceItem → List Answer
answers_of es = map (λ (e : TraceItem). e.answer) es

-- free bytes are not read, nor is the order in which processes lie
pub record FreeBytes : Type 0 where
  -- two gateways with the same processes give the same answers, and have the same processes after them
  pub same-answers : (s t : State) → Ready s → Ready t → SameProcesses s t → (l : List Call) → answers_of (run s l) ≡ answers_of (run t l)
  pub same-processes : (s t : State) → Ready s → Ready t → SameProcesses s t → (l : List Call) → SameProcesses (final s l) (final t l)
  -- a free byte is changed by no call but a CREATE
  pub free_stays : (s : State) → Ready s → (c : Call) → ((fields_of c).cmd ≡ CREATE → ⊥) → (i : ℕ) → used s.records ≤ i
      → get_or (step s c).after.memory i 0 ≡ get_or s.memory i 0

-- ---- CREATE

-- a CREATE that passes the tests 1 to 6
pub record Creating (s : State) (m buffer : List ℕ) : Type 0 where
  pub passes : first_failing (message_tests s m buffer) ≡ 0
  pub op : cmd_of m ≡ CREATE

-- 'all numbers are taken'
abbrev pub AllTaken : State → Type 0
AllTaken s = (p : ℕ) → p < 8 → (record_of s p).there ≡ true

-- 'free bytes are fewer than the size'
abbrev pub TooFewFree : State → List ℕ → Type 0
TooFewFree s m = free_bytes s.records < size_asked (header_of m)

-- the number of a request's answer
abbrev pub number_given : StepResult → ℕ
number_given x = number_of x.answer.outcome

-- the process that a granted CREATE made: 'CREATED carries the new number in PID.'
abbrev pub created_in : StepResult → ℕ
created_in x = get_or x.answer.buffer 5 0

-- what CREATE does to the memory
pub record CreateRule : Type 0 where
  -- '13 exactly when all numbers are taken or free bytes are fewer than the size'; else it is granted
  pub refused-when : (s : State) → Ready s → (m buffer : List ℕ) → Creating s m buffer → AllTaken s ⊎ TooFewFree s m
      → number_given (request_step m buffer s) ≡ 13
  pub refused-only-when : (s : State) → Ready s → (m buffer : List ℕ) → Creating s m buffer → number_given (request_step m buffer s) ≡ 13
      → AllTaken s ⊎ TooFewFree s m
  pub granted-else : (s : State) → Ready s → (m buffer : List ℕ) → Creating s m buffer → (number_given (request_step m buffer s) ≡ 13 → ⊥)
      → is_granted (request_step m buffer s).answer.outcome ≡ true
  -- 'a new one last': it begins where the free bytes did, which are fewer by its size
  pub last : (s : State) → Ready s → (m buffer : List ℕ) → Creating s m buffer → is_granted (request_step m buffer s).answer.outcome ≡ true
      → start_of (request_step m buffer s).after.records (created_in (request_step m buffer s)) ≡ used s.records
  pub taken : (s : State) → Ready s → (m buffer : List ℕ) → Creating s m buffer → is_granted (request_step m buffer s).answer.outcome ≡ true
      → used (request_step m buffer s).after.records ≡ used s.records + size_asked (header_of m)
  -- 'zeroed to its size': the bytes that it hands over are zero, whatever was there
  pub zeroed : (s : State) → Ready s → (m buffer : List ℕ) → Creating s m buffer → is_granted (request_step m buffer s).answer.outcome ≡ true
      → (local_of (request_step m buffer s).after (created_in (request_step m buffer s))).bytes ≡ replicate (size_asked (header_of m)) 0

-- ---- DESTROY

-- a granted DESTROY of process p
pub record Destroying (p : ℕ) (s : State) (m buffer : List ℕ) : Type 0 where
  pub op : cmd_of m ≡ DESTROY
  pub named : pid_of m ≡ p
  pub granted : is_granted (request_step m buffer s).answer.outcome ≡ true

-- what DESTROY does to the memory
pub record DestroyRule : Type 0 where
  -- every other process stays as it is, record and bytes as they stand, whether its words are planted, lifted or stored over
  pub others : (s : State) → Ready s → (p : ℕ) (m buffer : List ℕ) → Destroying p s m buffer → (q : ℕ) → q < 8 → (q ≡ p → ⊥)
      → local_of (request_step m buffer s).after q ≡ local_of s q
  -- 'what is seen in them unchanged'
  pub seen : (s : State) → Ready s → (p : ℕ) (m buffer : List ℕ) → Destroying p s m buffer → (q : ℕ) → q < 8 → (q ≡ p → ⊥)
      → seen_of (local_of (request_step m buffer s).after q) ≡ seen_of (local_of s q)
  -- 'those above move down', by the size of the one that goes; those below stay
  pub above : (s : State) → Ready s → (p : ℕ) (m buffer : List ℕ) → Destroying p s m buffer → (q : ℕ) → q < 8 → (record_of s q).there ≡ true
      → start_of s.records p < start_of s.records q
      → start_of (request_step m buffer s).after.records q + extent_at s.records p ≡ start_of s.records q
  pub under : (s : State) → Ready s → (p : ℕ) (m buffer : List ℕ) → Destroying p s m buffer → (q : ℕ) → q < 8 → (record_of s q).there ≡ true
      → start_of s.records q < start_of s.records p → start_of (request_step m buffer s).after.records q ≡ start_of s.records q
  -- 'DESTROY zeroes the bytes it adds to the free end'
  pub added : (s : State) → Ready s → (p : ℕ) (m buffer : List ℕ) → Destroying p s m buffer
      → used (request_step m buffer s).after.records + extent_at s.records p ≡ used s.records
  pub zeroes : (s : State) → Ready s → (p : ℕ) (m buffer : List ℕ) → Destroying p s m buffer
      → slot (used (request_step m buffer s).after.records) (extent_at s.records p) (request_step m buffer s).after.memory
      ≡ replicate (extent_at s.records p) 0

-- ---- nothing of a destroyed process is left

-- two states that differ only in the bytes and the record of process p, and agree on what is public of it: whether it is there, its host, its
-- watcher, its size and where it begins
pub record DifferOnlyIn (p : ℕ) (s t : State) : Type 0 where
  pub shown : public_of s p ≡ public_of t p
  pub starts : s.records.starts ≡ t.records.starts
  pub records : (q : ℕ) → q < 8 → (q ≡ p → ⊥) → record_of s q ≡ record_of t q
  pub memory : (i : ℕ) → (i < start_of s.records p) ⊎ (start_of s.records p + extent_at s.records p ≤ i)
      → get_or s.memory i 0 ≡ get_or t.memory i 0

-- once it is destroyed nobody can tell them apart
pub record NothingIsLeft : Type 0 where
  -- records, starts and the whole memory are the same
  pub same-state : (s t : State) → Ready s → Ready t → (p : ℕ) → p < 8 → DifferOnlyIn p s t → (m buffer : List ℕ) → Destroying p s m buffer
      → (request_step m buffer s).after ≡ (request_step m buffer t).after
  -- so is everything after it, answers and states
  pub same_after : (s t : State) → Ready s → Ready t → (p : ℕ) → p < 8 → DifferOnlyIn p s t → (m buffer : List ℕ) → Destroying p s m buffer
      → (l : List Call) → run (step s (request m buffer)).after l ≡ run (step t (request m buffer)).after l

-- what a user may rely on
pub record OneMemory : Type 0 where
  pub free_bytes : FreeBytes
  pub create : CreateRule
  pub destroy : DestroyRule
  pub nothing-is-left : NothingIsLeft
