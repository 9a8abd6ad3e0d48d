-- The line that shows a process.
use Rattle.std.specs.Prelude.{Bool, cond, List, [], ◌∷◌, ◌++◌, ℕ}
use Rattle.lists.specs.Flag.{flag}
use Rattle.lists.specs.Word.{word}
use Rattle.lists.specs.Joined.{joined}
use Rattle.run_state.specs.declared.Run.{Run}
use Rattle.breakpoints.specs.declared.entry.Breakpoint.{Breakpoint}
use Rattle.process.specs.declared.record.Process.{Process}
use Rattle.run_state.specs.RunState.{run_number}
use Rattle.session.specs.declared.Owed.{Owed}
use Rattle.session.specs.declared.Go.{Go}
use Rattle.session.specs.Session.{owed_letter, owes}
use Rattle.decimal.specs.Numeral.{numeral, field}
use Rattle.breakpoints.specs.Entry.{in_use}

-- a word after a blank
abbrev pub word_text : ℕ → List ℕ
word_text w = field 32 w

-- an entry after a blank: used, address, count, saved word, lifted, who set it, parted by colons
unfoldable pub entry_text : Breakpoint → List ℕ
entry_text b =
    ((((field 32 (flag (in_use b)) ++ field 58 b.address) ++ field 58 b.count) ++ field 58 (word b.high b.low)) ++ field 58 (flag b.lifted))
    ++ field 58 b.setter

-- whether it is there, its host, its run state
unfoldable pub head_text : Bool → ℕ → Run → List ℕ
head_text there host run = (numeral (flag there) ++ field 32 host) ++ field 32 (run_number run)

-- a number after its name
unfoldable pub named : List ℕ → ℕ → List ℕ
named name n = name ++ field 32 n

-- ' size'
abbrev pub size_name : List ℕ
size_name = 32 ∷ 115 ∷ 105 ∷ 122 ∷ 101 ∷ []

-- ' watcher'
abbrev pub watcher_name : List ℕ
watcher_name = 32 ∷ 119 ∷ 97 ∷ 116 ∷ 99 ∷ 104 ∷ 101 ∷ 114 ∷ []

-- ' set'
abbrev pub set_name : List ℕ
set_name = 32 ∷ 115 ∷ 101 ∷ 116 ∷ []

-- ' owed '
abbrev pub owed_name : List ℕ
owed_name = 32 ∷ 111 ∷ 119 ∷ 101 ∷ 100 ∷ 32 ∷ []

-- ' go '
abbrev pub go_name : List ℕ
go_name = 32 ∷ 103 ∷ 111 ∷ 32 ∷ []

-- ' begin'
abbrev pub begin_name : List ℕ
begin_name = 32 ∷ 98 ∷ 101 ∷ 103 ∷ 105 ∷ 110 ∷ []

-- '`-`, or the letter `c` or `s` of the request whose answer is owed'
unfoldable pub owed_shown : Owed → ℕ
owed_shown o = cond (owes o) (owed_letter o) 45

-- the owed answer after its name
unfoldable pub owed_text : Owed → List ℕ
owed_text o = owed_name ++ (owed_shown o ∷ [])

-- ID and ticks of a Go, parted by a colon
unfoldable pub waiting_text : Go → List ℕ
waiting_text g = numeral g.id ++ field 58 g.ticks

-- '`-` where none waits, or ID:TICKS' (K1)
unfoldable pub go_shown : Go → List ℕ
go_shown g = cond g.waits (waiting_text g) (45 ∷ [])

-- the Go after its name
unfoldable pub go_text : Go → List ℕ
go_text g = go_name ++ go_shown g

-- 'where its bytes begin; 0 where it is absent'
abbrev pub begin_shown : Bool → ℕ → ℕ
begin_shown there start = cond there start 0

-- then the nine words, the eight entries, the size, the watcher, the number of breakpoints, the owed answer and the Go
unfoldable pub record_text : Process → List ℕ
record_text p =
    ((((((head_text p.there p.host p.run ++ joined word_text p.vector) ++ joined entry_text p.breaks) ++ named size_name p.size)
    ++ named watcher_name p.session.watcher)
    ++ named set_name p.number)
    ++ owed_text p.session.owed)
    ++ go_text p.session.go

-- the record of a process, then where its bytes begin, as a line with its newline
unfoldable pub process_line : Process → ℕ → List ℕ
process_line p start = (record_text p ++ named begin_name (begin_shown p.there start)) ++ (10 ∷ [])
