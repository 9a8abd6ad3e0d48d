-- Runs over lists of calls: 'The first call gets the start state, each later one the state and memory as the one before returned or left them'.
use Rattle.std.specs.Prelude.{Bool, cond, ◌&&◌, List, [], ◌∷◌}
use Rattle.rules.specs.Tests.{State}
use Rattle.rules.specs.Step.{Answer, Call, step}

-- a call with its answer and the state after it
pub record TraceItem : Type 0 where
  pub call : Call
  pub answer : Answer
  pub after : State

-- a call on a state
abbrev pub trace_item : State → Call → TraceItem
trace_item s c = record { call = c; answer = (step s c).answer; after = (step s c).after }

-- calls one after another, each on the state that the one before left
unfoldable pub run : State → List Call → List TraceItem
run s [] = []
run s (c ∷ cs) = trace_item s c ∷ run (step s c).after cs

-- the state at the end
unfoldable pub final : State → List Call → State
final s [] = s
final s (c ∷ cs) = final (step s c).after cs

-- a list without some or all of the elements that pass a test: those that are marked
unfoldable pub leave : {A : Type 0} → (A → Bool) → List Bool → List A → List A
leave t [] xs = xs
leave t (m ∷ ms) [] = []
leave t (m ∷ ms) (x ∷ xs) = cond (m && t x) (leave t ms xs) (x ∷ leave t ms xs)
