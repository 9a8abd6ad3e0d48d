-- Which call a line is, by its first word.
use Rattle.std.specs.Prelude.{Bool, true, false, cond, ◌&&◌, List, [], ◌∷◌, ℕ, length, eqb, ltb}
use Rattle.recording.specs.declared.command.Command.{Command}
use Rattle.recording.specs.declared.command.Command.TheVariants.{Start, Request, Report, Store, Memory, Whole, Process, Packet, Tick, Text, Raw, Why, Unknown}

-- a line begins with this text
unfoldable pub begins : List ℕ → List ℕ → Bool
begins [] line = true
begins (c ∷ text) [] = false
begins (c ∷ text) (d ∷ line) = eqb d c && begins text line

-- `start`
abbrev pub start_word : List ℕ
start_word = 115 ∷ 116 ∷ 97 ∷ 114 ∷ 116 ∷ []

-- `request` and a blank
abbrev pub request_word : List ℕ
request_word = 114 ∷ 101 ∷ 113 ∷ 117 ∷ 101 ∷ 115 ∷ 116 ∷ 32 ∷ []

-- `report`
abbrev pub report_word : List ℕ
report_word = 114 ∷ 101 ∷ 112 ∷ 111 ∷ 114 ∷ 116 ∷ []

-- `store`
abbrev pub store_word : List ℕ
store_word = 115 ∷ 116 ∷ 111 ∷ 114 ∷ 101 ∷ []

-- `memory`
abbrev pub memory_word : List ℕ
memory_word = 109 ∷ 101 ∷ 109 ∷ 111 ∷ 114 ∷ 121 ∷ []

-- `whole`
abbrev pub whole_word : List ℕ
whole_word = 119 ∷ 104 ∷ 111 ∷ 108 ∷ 101 ∷ []

-- `process`
abbrev pub process_word : List ℕ
process_word = 112 ∷ 114 ∷ 111 ∷ 99 ∷ 101 ∷ 115 ∷ 115 ∷ []

-- `packet`
abbrev pub packet_word : List ℕ
packet_word = 112 ∷ 97 ∷ 99 ∷ 107 ∷ 101 ∷ 116 ∷ []

-- `tick`
abbrev pub tick_word : List ℕ
tick_word = 116 ∷ 105 ∷ 99 ∷ 107 ∷ []

-- `line` and a blank
abbrev pub line_word : List ℕ
line_word = 108 ∷ 105 ∷ 110 ∷ 101 ∷ 32 ∷ []

-- `raw` and a blank
abbrev pub raw_word : List ℕ
raw_word = 114 ∷ 97 ∷ 119 ∷ 32 ∷ []

-- `why` and a blank
abbrev pub why_word : List ℕ
why_word = 119 ∷ 104 ∷ 121 ∷ 32 ∷ []

-- `0x`, with which a text line begins
abbrev pub text_word : List ℕ
text_word = 48 ∷ 120 ∷ []

-- a line with another word than those four that stand for bytes is no longer
abbrev pub longest_line : ℕ
longest_line = 1024

-- the call that a line of the right length begins with
unfoldable pub short_command : List ℕ → Command
short_command line =
    cond (begins start_word line) Start
    (cond (begins report_word line) Report
    (cond (begins store_word line) Store
    (cond (begins memory_word line) Memory
    (cond (begins whole_word line) Whole
    (cond (begins process_word line) Process
    (cond (begins packet_word line) Packet
    (cond (begins tick_word line) Tick Unknown)))))))

-- a line of any length, which stands for bytes; else another
unfoldable pub any_length : List ℕ → Command → Command
any_length line other =
    cond (begins request_word line) Request
    (cond (begins line_word line) Text
    (cond (begins raw_word line) Raw
    (cond (begins why_word line) Why other)))

-- which call a line is
unfoldable pub command_of : List ℕ → Command
command_of line = any_length line (cond (ltb longest_line (length line)) Unknown (short_command line))
