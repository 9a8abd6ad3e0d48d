-- The process records of the gateway: 'processes 0 to 7, each there or not'. In the code they are the bytes of a state.
use Rattle.std.specs.Prelude.{false, not, List, [], ℕ, get_or, set}
use Rattle.lists.specs.First.{first}
use Rattle.process.specs.declared.record.Process.{Process}
use Rattle.run_state.specs.declared.Run.TheVariants.{Running}
use Rattle.session.specs.Session.{no_session}

-- the record of every process, in the order of their numbers, and where in memory the bytes of each begin
pub record Records : Type 0 where
  pub processes : List Process
  pub starts : List ℕ

-- what is read past the eight records; nothing reads there
abbrev pub nobody : Process
nobody = record { there = false; host = 0; run = Running; size = 0; vector = []; breaks = []; session = no_session; number = 0 }

-- the record of process p
abbrev pub process_at : Records → ℕ → Process
process_at g p = get_or g.processes p nobody

-- the state with another record of process p
abbrev pub with_process : ℕ → Process → Records → Records
with_process p q g = record { processes = set g.processes p q; starts = g.starts }

-- the index of the first byte of process p
abbrev pub start_of : Records → ℕ → ℕ
start_of g p = get_or g.starts p 0

-- the state in which process p begins elsewhere
abbrev pub with_start : ℕ → ℕ → Records → Records
with_start p start g = record { processes = g.processes; starts = set g.starts p start }

-- 'the lowest absent number', or 8
unfoldable pub lowest_absent : Records → ℕ
lowest_absent g = first (λ (p : Process). not p.there) g.processes
