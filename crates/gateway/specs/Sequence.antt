-- Calls on bytes, one after another: 'each later one the state and memory as the one before returned or left them'.
use Rattle.std.specs.Prelude.{◌≡◌, true, List, [], ◌∷◌, ℕ}
use Rattle.rules.specs.Tests.{State, lent}
use Rattle.rules.specs.Step.{Call}
use Rattle.rules.specs.Ready.{Ready, Typed}
use Rattle.rules.specs.Run.{TraceItem}
use Rattle.state_bytes.specs.State.{state_of, state_formed}
use Rattle.gateway.specs.Called.{Called, Did}

-- the records and the memory that the bytes stand for
abbrev pub read_from : List ℕ → List ℕ → State
read_from state memory = lent (state_of state) memory

-- where a list may begin: the bytes are a state's, and it is sound
pub record Begins (state memory : List ℕ) : Type 0 where
  pub formed : state_formed state ≡ true
  pub ready : Ready (read_from state memory)

-- calls of the code and stores by the machine, each on the bytes that the one before it left
unfoldable pub Done : List ℕ → List ℕ → List Call → List Called → Type 0
Done state memory [] [] = Unit {0}
Done state memory [] (x ∷ xs) = ⊥
Done state memory (c ∷ cs) [] = ⊥
Done state memory (c ∷ cs) (x ∷ xs) = Did state memory c x × Done x.state x.memory cs xs

-- each is a call as the code's types allow it
unfoldable pub AllTyped : List Call → Type 0
AllTyped [] = Unit {0}
AllTyped (c ∷ cs) = Typed c × AllTyped cs

-- a call with what it answered, and the state that the bytes after it stand for
abbrev pub item : Call → Called → TraceItem
item c x = record {
  call = c;
  answer = record { outcome = x.outcome; buffer = x.buffer; line_length = x.line_length; line = x.line };
  after = read_from x.state x.memory;
}

-- the same of a list
unfoldable pub items : List Call → List Called → List TraceItem
items [] xs = []
items (c ∷ cs) [] = []
items (c ∷ cs) (x ∷ xs) = item c x ∷ items cs xs

-- a list of calls of the code was made on these bytes, and this came of it
pub record Made (state memory : List ℕ) (l : List Call) (es : List TraceItem) : Type 0 where
  pub typed : AllTyped l
  pub answers : List Called
  pub done : Done state memory l answers
  pub trace : es ≡ items l answers
