-- The process record, and the records that differ from it in one field. Nothing else writes a record anew.
use Rattle.std.specs.Prelude.{Bool, cond, List, [], ◌∷◌, ℕ, suc, get_or, set, replicate}
use Rattle.run_state.specs.declared.Run.{Run}
use Rattle.session.specs.declared.Owed.{Owed}
use Rattle.session.specs.declared.Go.{Go}
use Rattle.session.specs.declared.Session.{Session}
use Rattle.session.specs.Session.{no_session, with_owed, with_watcher, with_go}
use Rattle.breakpoints.specs.declared.entry.Breakpoint.{Breakpoint}
use Rattle.breakpoints.specs.Entry.{free, in_use}
use Rattle.process.specs.declared.record.Process.{Process}
use Rattle.process.specs.Sizes.{entry_count, vector_words}

-- eight free entries
abbrev pub no_breaks : List Breakpoint
no_breaks = replicate entry_count free

-- a record with a zero vector, no breakpoints, their number, and nothing of a debugging session
unfoldable pub fresh : Bool → ℕ → Run → ℕ → Process
fresh t h r n = record { there = t; host = h; run = r; size = n; vector = replicate vector_words 0; breaks = no_breaks; session = no_session; number = 0 }

-- debugged by another host
abbrev pub with_host : ℕ → Process → Process
with_host h p = record { there = p.there; host = h; run = p.run; size = p.size; vector = p.vector; breaks = p.breaks; session = p.session; number = p.number }

-- in another run state
abbrev pub with_run : Run → Process → Process
with_run r p = record { there = p.there; host = p.host; run = r; size = p.size; vector = p.vector; breaks = p.breaks; session = p.session; number = p.number }

-- with another vector
abbrev pub with_vector : List ℕ → Process → Process
with_vector v p = record { there = p.there; host = p.host; run = p.run; size = p.size; vector = v; breaks = p.breaks; session = p.session; number = p.number }

-- with other entries
abbrev pub with_breaks : List Breakpoint → Process → Process
with_breaks bs p = record { there = p.there; host = p.host; run = p.run; size = p.size; vector = p.vector; breaks = bs; session = p.session; number = p.number }

-- with another session
abbrev pub with_session : Session → Process → Process
with_session s p = record { there = p.there; host = p.host; run = p.run; size = p.size; vector = p.vector; breaks = p.breaks; session = s; number = p.number }

-- with another number of breakpoints
abbrev pub with_number : ℕ → Process → Process
with_number n p = record { there = p.there; host = p.host; run = p.run; size = p.size; vector = p.vector; breaks = p.breaks; session = p.session; number = n }

-- with no breakpoints, and their number
abbrev pub emptied : Process → Process
emptied p = with_number 0 (with_breaks no_breaks p)

-- how many of these entries are in use
unfoldable pub count_used : List Breakpoint → ℕ
count_used [] = 0
count_used (b ∷ bs) = cond (in_use b) (suc (count_used bs)) (count_used bs)

-- 'Each process record keeps its number of breakpoints, true after every operation'
abbrev pub recounted : Process → Process
recounted p = with_number (count_used p.breaks) p

-- with another owed answer
abbrev pub owing : Owed → Process → Process
owing o p = with_session (with_owed o p.session) p

-- with another watcher
abbrev pub watched_by : ℕ → Process → Process
watched_by host p = with_session (with_watcher host p.session) p

-- with another Go
abbrev pub going : Go → Process → Process
going g p = with_session (with_go g p.session) p

-- entry k of a process
abbrev pub entry : Process → ℕ → Breakpoint
entry p k = get_or p.breaks k free

-- with another breakpoint in entry k
abbrev pub with_entry : ℕ → Breakpoint → Process → Process
with_entry k b p = with_breaks (set p.breaks k b) p
