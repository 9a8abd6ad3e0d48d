-- What belongs to a debugging session: the answer that is owed to the host of the text lines, the watcher, and the Go that waits.
use Rattle.std.specs.Prelude.{Bool, true, false, not, cond, ◌&&◌, ◌||◌, ℕ, ◌+◌, eqb, leb}
use Rattle.packets.specs.Id.{next_id}
use Rattle.session.specs.declared.Owed.{Owed}
use Rattle.session.specs.declared.Owed.TheVariants.{Nothing, Continue, Step}
use Rattle.session.specs.declared.Go.{Go}
use Rattle.session.specs.declared.Session.{Session}

-- 'as host 253'
abbrev pub text_host : ℕ
text_host = 253

-- 'as host 254' (K1)
abbrev pub pup_host : ℕ
pup_host = 254

-- ---- an owed answer

-- its number: nothing, the answer to a `c`, the answer to an `s`
abbrev pub owed_number : Owed → ℕ
owed_number Nothing = 0
owed_number Continue = 1
owed_number Step = 2

-- an owed answer has this number
abbrev pub is_owed_number : ℕ → Bool
is_owed_number n = leb n 2

-- an owed answer by its number; any other number is read as nothing
unfoldable pub owed_of : ℕ → Owed
owed_of n = cond (eqb n 1) Continue (cond (eqb n 2) Step Nothing)

-- the letter of the request whose answer is owed: `c`, `s`, or 0 where nothing is owed
abbrev pub owed_letter : Owed → ℕ
owed_letter Nothing = 0
owed_letter Continue = 99
owed_letter Step = 115

-- an answer is owed
abbrev pub owes : Owed → Bool
owes Nothing = false
owes Continue = true
owes Step = true

-- ---- a Go that waits (K1)

-- none waits
abbrev pub no_go : Go
no_go = record { waits = false; ticks = 0; id = 0 }

-- one of this ID that has just come
abbrev pub new_go : ℕ → Go
new_go n = record { waits = true; ticks = 0; id = n }

-- the same, a tick later
abbrev pub ticked_go : Go → Go
ticked_go g = record { waits = g.waits; ticks = g.ticks + 1; id = g.id }

-- a Go of this ID waits
unfoldable pub waits_for : ℕ → Go → Bool
waits_for n g = g.waits && eqb g.id n

-- 'a GoReply with the next ID .. after the waiting Go'
unfoldable pub answers_go : ℕ → Go → Bool
answers_go n g = g.waits && eqb (next_id g.id) n

-- the next tick is 'the hundredth tenth-second tick from the first Go of that ID'
unfoldable pub is_last_tick : Go → Bool
is_last_tick g = eqb g.ticks 99

-- ---- a session

-- nothing belongs to a process that nobody debugs
abbrev pub no_session : Session
no_session = record { owed = Nothing; watcher = 0; go = no_go }

-- the session with this owed answer
abbrev pub with_owed : Owed → Session → Session
with_owed o s = record { owed = o; watcher = s.watcher; go = s.go }

-- the session with this watcher; 0 is nobody
abbrev pub with_watcher : ℕ → Session → Session
with_watcher w s = record { owed = s.owed; watcher = w; go = s.go }

-- the session with this Go
abbrev pub with_go : Go → Session → Session
with_go g s = record { owed = s.owed; watcher = s.watcher; go = g }

-- 'none is owed unless host 253 debugs it'
unfoldable pub owed_sound : ℕ → Session → Bool
owed_sound host s = not (owes s.owed) || eqb host text_host

-- 'the one watcher of a process another host debugs' (K5)
unfoldable pub watcher_sound : ℕ → Session → Bool
watcher_sound host s = eqb s.watcher 0 || (not (eqb host 0) && not (eqb s.watcher host))

-- 'A Go waits only while host 254 debugs the process, with at most 99 ticks counted' (K1)
unfoldable pub go_sound : ℕ → Session → Bool
go_sound host s = not s.go.waits || (eqb host pup_host && leb s.go.ticks 99)

-- what may belong to the debugging of a process by this host
unfoldable pub session_sound : ℕ → Session → Bool
session_sound host s = owed_sound host s && (watcher_sound host s && go_sound host s)
