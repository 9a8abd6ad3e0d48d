-- The bytes of what belongs to a debugging session: the end of a process's head.
use Rattle.std.specs.Prelude.{Bool, ◌&&◌, List, ◌∷◌, ℕ, drop, get_or, leb}
use Rattle.lists.specs.Flag.{flag}
use Rattle.session.specs.declared.Go.{Go}
use Rattle.session.specs.declared.Session.{Session}
use Rattle.session.specs.Session.{owed_number, is_owed_number, owed_of, session_sound}
use Rattle.state_bytes.specs.Number.{u32_le, u32_le_bytes, flag_of}
use Rattle.state_bytes.specs.Widths.{host_at, owed_at, watcher_at, waits_at, ticks_at, id_at}

-- whether a Go waits, its ticks, its ID
abbrev pub go_bytes : Go → List ℕ
go_bytes g = flag g.waits ∷ g.ticks ∷ u32_le_bytes g.id

-- the number of the owed answer, the watcher, the Go
abbrev pub session_bytes : Session → List ℕ
session_bytes s = owed_number s.owed ∷ s.watcher ∷ go_bytes s.go

-- the Go in a head
abbrev pub go_of : List ℕ → Go
go_of m = record { waits = flag_of (get_or m waits_at 0); ticks = get_or m ticks_at 0; id = u32_le (drop id_at m) }

-- the session in a head
abbrev pub session_of : List ℕ → Session
session_of m = record { owed = owed_of (get_or m owed_at 0); watcher = get_or m watcher_at 0; go = go_of m }

-- the owed answer is one of the three, and the flag of the Go is 0 or 1; any watcher, ticks and ID are
abbrev pub session_formed : List ℕ → Bool
session_formed m = is_owed_number (get_or m owed_at 0) && leb (get_or m waits_at 0) 1

-- and the host of the head may have it
unfoldable pub session_fits : List ℕ → Bool
session_fits m = session_formed m && session_sound (get_or m host_at 0) (session_of m)
