-- The table of op codes, and the form of every message that is known by its CMD.
-- The code's own table is proved to be this one, row by row.
use Rattle.std.specs.Prelude.{Option, Some, None, Bool, true, false, cond, List, [], ◌∷◌, ℕ, ◌-◌, length, get_or, ltb, eqb}
use Rattle.ops.specs.Codes.{NOP, NOTICE, CANT}
use Rattle.ops.specs.declared.table.ArgUse.{ArgUse}
use Rattle.ops.specs.declared.table.ArgUse.TheVariants.{Unused, Any, Size}
use Rattle.ops.specs.declared.table.Carried.{Carried}
use Rattle.ops.specs.declared.table.Carried.TheVariants.{Nothing, Counted, Vector}
use Rattle.ops.specs.declared.table.Form.{Form}
use Rattle.ops.specs.declared.table.Op.{Op}

-- whether PID is used, how ARG1 is, whether ARG2 is, and what is carried
abbrev pub form : Bool → ArgUse → Bool → Carried → Form
form p a b c = record { pid = p; arg1 = a; arg2 = b; carried = c }

-- no field
abbrev pub bare : Form
bare = form false Unused false Nothing

-- PID alone
abbrev pub process : Form
process = form true Unused false Nothing

-- PID and ARG1
abbrev pub address : Form
address = form true Any false Nothing

-- PID, ARG1 and ARG2
abbrev pub range : Form
range = form true Any true Nothing

-- all three, and a string of ARG2 bytes
abbrev pub string : Form
string = form true Any true Counted

-- PID and ARG1, and a state vector
abbrev pub reason : Form
reason = form true Any false Vector

-- PID, and a state vector
abbrev pub stopped : Form
stopped = form true Unused false Vector

-- a size in ARG1 alone
abbrev pub sized : Form
sized = form false Size false Nothing

-- PID, and a size in ARG1
abbrev pub sized_process : Form
sized_process = form true Size false Nothing

-- a row of the table: the form of the request, and the form of the reply that grants it
abbrev pub row : Form → Form → Op
row asks replies = record { 0 = asks; 1 = replies }

-- the form of the request
abbrev pub asks : Op → Form
asks op = op.0

-- the form of the reply that grants it
abbrev pub replies : Op → Form
replies op = op.1

-- 'Used fields: all but 0 and 12 use PID ..; 4, 6, 7, 8 use ARG1 and ARG2; 9 uses ARG1. .. Only 4 and 7 carry a string, of exactly ARG2 bytes.'
-- 'Reply: the request's CMD, PID, ARG1, ARG2 .. CONTENTS (reply to 6) appends the ARG2 bytes. CREATED carries the new number in PID.'
-- 'CREATE takes an even size in ARG1, up to 4,096'; 'Op 14 WATCH (process)', 'op 15 END WATCH (process)'; 'op 16 STATUS (process) answers
-- it in ARG1, the run state in ARG2'
abbrev pub ops : List Op
ops =
    row bare bare  -- 0 NOP
    ∷ row process process  -- 1 DEBUG
    ∷ row process process  -- 2 END DEBUG
    ∷ row process process  -- 3 STOP
    ∷ row string range  -- 4 DEPOSIT
    ∷ row process process  -- 5 RESUME
    ∷ row range string  -- 6 EXAMINE
    ∷ row string range  -- 7 DEPOSIT STATE VECTOR
    ∷ row range range  -- 8 BREAK
    ∷ row address address  -- 9 UNBREAK
    ∷ row process process  -- 10 SINGLE STEP
    ∷ row process process  -- 11 PROCEED BPT
    ∷ row sized sized_process  -- 12 CREATE PROCESS
    ∷ row process process  -- 13 DESTROY PROCESS
    ∷ row process process  -- 14 WATCH
    ∷ row process process  -- 15 END WATCH
    ∷ row process range  -- 16 STATUS
    ∷ []

-- 'Notice: CMD 64 TRAP (reason in ARG1), 65 HALT, 66 BPT, 67 TTRAP; PID; the rest zero; then the 18 bytes.'
abbrev pub notices : List Form
notices =
    reason  -- 64 TRAP
    ∷ stopped  -- 65 HALT
    ∷ stopped  -- 66 BPT
    ∷ stopped  -- 67 TTRAP
    ∷ []

-- the op code's row
abbrev pub op : ℕ → Op
op cmd = get_or ops cmd (row bare bare)

-- what the table has for a CMD
unfoldable pub row_of : ℕ → Option Op
row_of cmd = cond (ltb cmd (length ops)) (Some (op cmd)) None

-- the one form of a row or the other
abbrev pub form_of : (Op → Form) → Option Op → Option Form
form_of which (Some o) = Some (which o)
form_of which None = None

-- 'CMD not a known op code': the form of a request, if its CMD is one of the table
unfoldable pub request_form : ℕ → Option Form
request_form cmd = form_of asks (row_of cmd)

-- the form of the reply that grants a request
unfoldable pub reply_form : ℕ → Option Form
reply_form cmd = form_of replies (row_of cmd)

-- the same fields with no string
abbrev pub without_string : Form → Form
without_string f = form f.pid f.arg1 f.arg2 Nothing

-- a form that was found, with no string
abbrev pub stripped : Option Form → Option Form
stripped (Some f) = Some (without_string f)
stripped None = None

-- 'CAN'T adds 128 to CMD': the fields of the request and no string; '128 is not accepted, since NOP is never refused'
unfoldable pub cant_form : ℕ → Option Form
cant_form cmd = cond (eqb cmd NOP) None (stripped (request_form cmd))

-- the form of a notice by its kind
unfoldable pub notice_form : ℕ → Option Form
notice_form kind = cond (ltb kind (length notices)) (Some (get_or notices kind bare)) None

-- 'The desk reader accepts CMD 0 to 13, 129 to 141 and 64 to 67'; 'The desk end learns this op and every later one',
-- so CMD 0 to 16, 129 to 144 and 64 to 67.
-- The form of an answer, that is of a reply, notice or CAN'T.
unfoldable pub answer_form : ℕ → Option Form
answer_form cmd = cond (ltb cmd NOTICE) (reply_form cmd) (cond (ltb cmd CANT) (notice_form (cmd - NOTICE)) (cant_form (cmd - CANT)))
