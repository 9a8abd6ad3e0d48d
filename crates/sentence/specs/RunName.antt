-- The names of the run states.
use Rattle.std.specs.Prelude.{List, ℕ}
use Rattle.sentence.specs.Text.{text}
use Rattle.sentence.specs.Name.{name_in}

-- the names of 0 to 5
abbrev pub run_names : List ℕ
run_names = text "running,stepping,stopped,at a breakpoint,ended,passing a breakpoint"

-- the name of a run state: 'at a breakpoint'; of any other number, 'in run state 99'
unfoldable pub run_name : ℕ → List ℕ
run_name run = name_in 6 run_names (text "in run state ") run
