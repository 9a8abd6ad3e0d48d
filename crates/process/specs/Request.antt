-- 'What each request does' to the process that it names, and the tests that rest on the process.
use Rattle.std.specs.Prelude.{Bool, true, false, not, cond, ◌&&◌, ◌||◌, List, [], ◌∷◌, map, ℕ, suc, length, take, drop, get_or, set, replicate, ltb, eqb}
use Rattle.std.proofs.Math.Seq.{paste}
use Rattle.lists.specs.Word.{low_first, vector_of}
use Rattle.run_state.specs.declared.Run.TheVariants.{Running, Stepping, Stopped, Passing}
use Rattle.process.specs.declared.record.Process.{Process}
use Rattle.breakpoints.specs.declared.entry.Breakpoint.{Breakpoint}
use Rattle.breakpoints.specs.declared.entry_query.EntryQuery.TheVariants.{Free, At}
use Rattle.breakpoints.specs.Entry.{free, breakpoint_at, with_count, is_set_by}
use Rattle.process.specs.Sizes.{entry_count, memory_bytes}
use Rattle.process.specs.Record.{fresh, emptied, recounted, entry, with_host, with_run, with_vector, with_breaks, with_session, with_entry, owing, watched_by}
use Rattle.process.specs.Find.{find}
use Rattle.run_state.specs.RunState.{moving, at_break, released}
use Rattle.session.specs.declared.Owed.TheVariants.{Nothing, Continue, Step}
use Rattle.session.specs.Session.{no_session}
use Rattle.breakpoints.specs.Seen.{seen, saved_from}
use Rattle.process.specs.Local.{Local, local}
use Rattle.process.specs.Planting.{planted_in, removed_from, replanted, lifted_at}

-- PC is the eighth word of the vector
abbrev pub pc : Process → ℕ
pc p = get_or p.vector 7 0

-- a change of the record alone
abbrev pub on_record : (Process → Process) → Local → Local
on_record f l = local (f l.process) l.bytes

-- ---- tests that rest on the process

-- there is a breakpoint at that address
unfoldable pub has_break : ℕ → Process → Bool
has_break a p = ltb (find (At a) p) entry_count

-- there is a free entry
unfoldable pub has_room : Process → Bool
has_room p = ltb (find Free p) entry_count

-- how many of these entries a host has set
unfoldable pub count_set_by : ℕ → List Breakpoint → ℕ
count_set_by host [] = 0
count_set_by host (b ∷ bs) = cond (is_set_by host b) (suc (count_set_by host bs)) (count_set_by host bs)

-- somebody watches the process
abbrev pub is_watched : Process → Bool
is_watched p = not (eqb p.session.watcher 0)

-- 'While watched, neither may set one that makes his more than 4'
unfoldable pub may_have_more : ℕ → Process → Bool
may_have_more host p = not (is_watched p) || ltb (count_set_by host p.breaks) 4

-- there is a breakpoint at that address, or room for one more of this host: 'all share the eight entries'
unfoldable pub has_room_for : ℕ → ℕ → Process → Bool
has_room_for host a p = has_break a p || (has_room p && may_have_more host p)

-- 'only he may change or remove it': there is none at that address, or this host set it
unfoldable pub is_his : ℕ → ℕ → Process → Bool
is_his host a p = not (has_break a p) || eqb (entry p (find (At a) p)).setter host

-- the entry that BREAK goes to: that of the breakpoint at the address, else the lowest free one, or 8
unfoldable pub entry_for : ℕ → Process → ℕ
entry_for a p = cond (has_break a p) (find (At a) p) (find Free p)

-- ---- DEBUG and END DEBUG

-- 'the asker debugs it; granted again to the same host'
abbrev pub debugged : ℕ → Local → Local
debugged host = on_record (with_host host)

-- 'all breakpoints go, planted words put back; nobody debugs it'; 'STOP, END DEBUG and DESTROY cancel an owed answer'; 'END
-- DEBUG and DESTROY end the watch'; a waiting Go is abandoned, 'and so do END DEBUG and DESTROY'
unfoldable pub end_debugged : Local → Local
end_debugged l =
    local
    (with_run (released l.process.run) (with_host 0 (with_session no_session (emptied l.process))))
    (seen l.process.breaks l.bytes)

-- ---- WATCH and END WATCH

-- 'makes the asker the one watcher'; of the breakpoints, 'those already there stay'
abbrev pub watched : ℕ → Local → Local
watched host = on_record (watched_by host)

-- an entry as it is left when this host's breakpoints go
unfoldable pub without_his : ℕ → Breakpoint → Breakpoint
without_his host b = cond (is_set_by host b) free b

-- an entry of this host, or a free one
unfoldable pub only_his : ℕ → Breakpoint → Breakpoint
only_his host b = cond (is_set_by host b) b free

-- 'END WATCH removes the watcher's breakpoints', planted words put back, and nobody watches
unfoldable pub end_watched : Local → Local
end_watched l =
    local
    (watched_by 0 (recounted (with_breaks (map (without_his l.process.session.watcher) l.process.breaks) l.process)))
    (seen (map (only_his l.process.session.watcher) l.process.breaks) l.bytes)

-- ---- STOP, RESUME, SINGLE STEP, PROCEED BPT

-- 'running or stepping becomes stopped, and a lifted breakpoint is planted again. Other states stay.'; of passing: 'STOP makes it stopped'
unfoldable pub brought_to_stop : Local → Local
brought_to_stop l = cond (moving l.process.run) (on_record (with_run Stopped) (replanted l)) l

-- STOP: and it cancels 'an owed answer', in every run state
unfoldable pub stopped : Local → Local
stopped l = on_record (owing Nothing) (brought_to_stop l)

-- 'to running'
abbrev pub resumed : Local → Local
resumed = on_record (with_run Running)

-- 'or stepping. SINGLE STEP at a breakpoint first lifts the breakpoint at PC, if there is one.'
unfoldable pub stepped : Local → Local
stepped l =
    on_record (with_run Stepping) (cond (at_break l.process.run) (lifted_at (pc l.process) l) l)

-- 'lifts the one at PC, if there, then running'; but passing 'where a breakpoint was lifted'
unfoldable pub proceeded : Local → Local
proceeded l =
    on_record (with_run (cond (has_break (pc l.process) l.process) Passing Running)) (lifted_at (pc l.process) l)

-- ---- `c` and `s` of the text lines

-- 'an address other than 1 becomes the PC first': the vector with it
unfoldable pub vector_from : ℕ → List ℕ → List ℕ
vector_from a vector = cond (eqb a 1) vector (set vector 7 a)

-- and the record
abbrev pub going_to : ℕ → Local → Local
going_to a l = on_record (with_vector (vector_from a l.process.vector)) l

-- 'as RESUME, or as PROCEED BPT at a breakpoint'
unfoldable pub went_on : Local → Local
went_on l = cond (at_break l.process.run) (proceeded l) (resumed l)

-- `c`, and its answer is owed
unfoldable pub continued : ℕ → Local → Local
continued a l = on_record (owing Continue) (went_on (going_to a l))

-- `s`: 'as SINGLE STEP', and its answer is owed
unfoldable pub stepped_from : ℕ → Local → Local
stepped_from a l = on_record (owing Step) (stepped (going_to a l))

-- ---- DEPOSIT and EXAMINE

-- 'seen bytes from ARG1', count of them
unfoldable pub examined : ℕ → ℕ → Local → List ℕ
examined at count l = take count (drop at (seen l.process.breaks l.bytes))

-- the seen memory with a string from an address on
abbrev pub to_be_seen : ℕ → List ℕ → Local → List ℕ
to_be_seen at string l = paste (seen l.process.breaks l.bytes) at string (length string)

-- s, with what stands in the memory m under each planted breakpoint in its place
unfoldable pub sheltered : List Breakpoint → List ℕ → List ℕ → List ℕ
sheltered bs m s = seen (map (saved_from m) bs) s

-- what is to be seen goes to memory; 'A byte under a planted breakpoint goes to the saved word.'
unfoldable pub deposited : ℕ → List ℕ → Local → Local
deposited at string l =
    local
    (with_breaks (map (saved_from (to_be_seen at string l)) l.process.breaks) l.process)
    (sheltered l.process.breaks l.bytes (to_be_seen at string l))

-- DEPOSIT STATE VECTOR: 'from byte ARG1', of the vector's 18 bytes
unfoldable pub vector_after : ℕ → List ℕ → List ℕ → List ℕ
vector_after at string vector = vector_of (paste (low_first vector) at string (length string))

-- DEPOSIT STATE VECTOR: the record with the vector after it
abbrev pub vector_deposited : ℕ → List ℕ → Local → Local
vector_deposited at string l = on_record (with_vector (vector_after at string l.process.vector)) l

-- ---- BREAK and UNBREAK

-- 'count ARG2; at an existing address only the count changes'; else planted in 'the lowest free of the eight entries', and 'records who set it'
unfoldable pub break_set : ℕ → ℕ → ℕ → Local → Local
break_set host a n l =
    cond (has_break a l.process)
    (on_record (with_entry (find (At a) l.process) (with_count n (entry l.process (find (At a) l.process)))) l)
    (on_record recounted (planted_in (find Free l.process) (breakpoint_at a n host) l))

-- 'UNBREAK puts the word back if it is planted.'
unfoldable pub break_removed : ℕ → Local → Local
break_removed a l = on_record recounted (removed_from (find (At a) l.process) l)

-- ---- CREATE and DESTROY

-- 'zeroed to its size', 'vector zero, stopped, debugged by the asker'
unfoldable pub created : ℕ → ℕ → Local
created host size = local (fresh true host Stopped size) (replicate size 0)

-- a cleared record: 'absent, running, all else zero', but 'a cleared record give[s] 4,096'
unfoldable pub cleared : Process
cleared = fresh false 0 Running memory_bytes

-- 'the process is absent, its record cleared', and it has no bytes: 'END DEBUG and DESTROY end the watch', and no Go waits
abbrev pub destroyed : Local → Local
destroyed l = local cleared []
