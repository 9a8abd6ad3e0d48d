-- The numbers that a message carries in CMD.
use Rattle.std.specs.Prelude.{ℕ}

-- 'The table of fourteen op codes (decimal)': NOP
abbrev pub NOP : ℕ
NOP = 0

-- 'The table of fourteen op codes (decimal)': DEBUG
abbrev pub DEBUG : ℕ
DEBUG = 1

-- 'The table of fourteen op codes (decimal)': END DEBUG
abbrev pub END-DEBUG : ℕ
END-DEBUG = 2

-- 'The table of fourteen op codes (decimal)': STOP
abbrev pub STOP : ℕ
STOP = 3

-- 'The table of fourteen op codes (decimal)': DEPOSIT
abbrev pub DEPOSIT : ℕ
DEPOSIT = 4

-- 'The table of fourteen op codes (decimal)': RESUME
abbrev pub RESUME : ℕ
RESUME = 5

-- 'The table of fourteen op codes (decimal)': EXAMINE
abbrev pub EXAMINE : ℕ
EXAMINE = 6

-- 'The table of fourteen op codes (decimal)': DEPOSIT STATE VECTOR
abbrev pub DEPOSIT-VECTOR : ℕ
DEPOSIT-VECTOR = 7

-- 'The table of fourteen op codes (decimal)': BREAK
abbrev pub BREAK : ℕ
BREAK = 8

-- 'The table of fourteen op codes (decimal)': UNBREAK
abbrev pub UNBREAK : ℕ
UNBREAK = 9

-- 'The table of fourteen op codes (decimal)': SINGLE STEP
abbrev pub SINGLE-STEP : ℕ
SINGLE-STEP = 10

-- 'The table of fourteen op codes (decimal)': PROCEED BPT
abbrev pub PROCEED : ℕ
PROCEED = 11

-- 'The table of fourteen op codes (decimal)': CREATE PROCESS
abbrev pub CREATE : ℕ
CREATE = 12

-- 'The table of fourteen op codes (decimal)': DESTROY PROCESS
abbrev pub DESTROY : ℕ
DESTROY = 13

-- 'Op 14 WATCH (process)' (K5)
abbrev pub WATCH : ℕ
WATCH = 14

-- 'op 15 END WATCH (process)' (K5)
abbrev pub END-WATCH : ℕ
END-WATCH = 15

-- 'op 16 STATUS (process)' (K6)
abbrev pub STATUS : ℕ
STATUS = 16

-- 'Notice: CMD 64 TRAP': the kind of the report is added to this
abbrev pub NOTICE : ℕ
NOTICE = 64

-- 'CAN'T adds 128 to CMD.'
abbrev pub CANT : ℕ
CANT = 128
