-- The widths and places of the byte form, in bytes. Each number stands here once, and the others follow from it.
use Rattle.std.specs.Prelude.{ℕ, ◌+◌, ◌*◌}

-- ---- an entry

-- 'up to 8 breakpoints'
abbrev pub entry_count : ℕ
entry_count = 8

-- lifted or not, setter, address, count and saved word
abbrev pub entry_width : ℕ
entry_width = 8

-- all entries of a process
abbrev pub entries_width : ℕ
entries_width = entry_width * entry_count

-- ---- the head of a process

-- whether it is there
abbrev pub there_at : ℕ
there_at = 0

-- the host that debugs it
abbrev pub host_at : ℕ
host_at = 1

-- the number of its run state
abbrev pub run_at : ℕ
run_at = 2

-- its size, two bytes, low byte first
abbrev pub size_at : ℕ
size_at = 3

-- the number of its breakpoints
abbrev pub number_at : ℕ
number_at = 5

-- the number of the owed answer
abbrev pub owed_at : ℕ
owed_at = 6

-- the host that watches it
abbrev pub watcher_at : ℕ
watcher_at = 7

-- whether a Go waits
abbrev pub waits_at : ℕ
waits_at = 8

-- its ticks
abbrev pub ticks_at : ℕ
ticks_at = 9

-- its ID, four bytes, low byte first
abbrev pub id_at : ℕ
id_at = 10

-- these ten
abbrev pub head_width : ℕ
head_width = 14

-- ---- a process

-- the nine words lie after the head
abbrev pub vector_at : ℕ
vector_at = head_width

-- 'nine words R0 to R5, SP, PC, PS, 18 bytes'
abbrev pub vector_width : ℕ
vector_width = 18

-- the entries lie after the words
abbrev pub entries_at : ℕ
entries_at = vector_at + vector_width

-- head, words and entries
abbrev pub process_width : ℕ
process_width = entries_at + entries_width

-- ---- a state

-- 'processes 0 to 7'
abbrev pub process_count : ℕ
process_count = 8

-- where a process's bytes begin in memory, two bytes, low byte first
abbrev pub start_width : ℕ
start_width = 2

-- the starts lie after all processes
abbrev pub starts_at : ℕ
starts_at = process_width * process_count

-- all starts
abbrev pub starts_width : ℕ
starts_width = start_width * process_count

-- the process of the Pup door, one byte, lies after the starts
abbrev pub door_at : ℕ
door_at = starts_at + starts_width

-- processes, starts and door
abbrev pub state_width : ℕ
state_width = door_at + 1
