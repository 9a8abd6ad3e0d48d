-- The names of the op codes.
use Rattle.std.specs.Prelude.{List, ℕ}
use Rattle.sentence.specs.Text.{text}
use Rattle.sentence.specs.Name.{name_in}

-- the names of 0 to 16
abbrev pub op_names : List ℕ
op_names =
    text "NOP,DEBUG,END DEBUG,STOP,DEPOSIT,RESUME,EXAMINE,DEPOSIT STATE VECTOR,BREAK,UNBREAK,SINGLE STEP,PROCEED BPT,CREATE PROCESS,DESTROY PROCESS,WATCH,END WATCH,STATUS"

-- the name of an op code: 'EXAMINE'; of any other number, 'op code 99'
unfoldable pub op_name : ℕ → List ℕ
op_name cmd = name_in 17 op_names (text "op code ") cmd
