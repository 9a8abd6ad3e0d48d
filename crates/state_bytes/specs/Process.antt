-- The bytes of a process: its head, the nine words, the eight entries.
use Rattle.std.specs.Prelude.{Bool, ◌&&◌, ◌||◌, List, ◌∷◌, ◌++◌, ℕ, ◌+◌, take, drop, get_or, eqb, leb}
use Rattle.lists.specs.Flag.{flag}
use Rattle.lists.specs.Joined.{joined}
use Rattle.lists.specs.Word.{high, low, word, low_first, vector_of}
use Rattle.process.specs.declared.record.Process.{Process}
use Rattle.run_state.specs.RunState.{run_number, is_run_number, run_of}
use Rattle.process.specs.Sizes.{valid_size}
use Rattle.process.specs.Sound.{sound_test as sound_process}
use Rattle.state_bytes.specs.Chunk.{chunks, every_chunk}
use Rattle.state_bytes.specs.Entry.{entry_bytes, entry_of, entry_formed, entries_bits}
use Rattle.state_bytes.specs.Number.{flag_of}
use Rattle.state_bytes.specs.Session.{session_bytes, session_of, session_formed, session_fits}
use Rattle.state_bytes.specs.Widths.{entry_count, entry_width, there_at, host_at, run_at, size_at, number_at, vector_at, vector_width, entries_at}

-- there, host, run state, size, number of breakpoints, session
abbrev pub head_bytes : Process → List ℕ
head_bytes p = flag p.there ∷ p.host ∷ run_number p.run ∷ low p.size ∷ high p.size ∷ p.number ∷ session_bytes p.session

-- then the nine words, then the eight entries
unfoldable pub process_bytes : Process → List ℕ
process_bytes p = head_bytes p ++ (low_first p.vector ++ joined entry_bytes p.breaks)

-- the size in a head
abbrev pub size_of : List ℕ → ℕ
size_of m = word (get_or m (size_at + 1) 0) (get_or m size_at 0)

-- the process whose bytes these are
unfoldable pub process_of : List ℕ → Process
process_of m = record {
  there = flag_of (get_or m there_at 0);
  host = get_or m host_at 0;
  run = run_of (get_or m run_at 0);
  vector = vector_of (take vector_width (drop vector_at m));
  breaks = chunks entry_width entry_of entry_count (drop entries_at m);
  size = size_of m;
  session = session_of m;
  number = get_or m number_at 0;
}

-- ---- bytes that are a process's

-- the flag is 0 or 1, the run state one of the six, and the session formed; any size is
unfoldable pub head_formed : List ℕ → Bool
head_formed m = leb (get_or m there_at 0) 1 && (is_run_number (get_or m run_at 0) && session_formed m)

-- head and entries are
unfoldable pub process_formed : List ℕ → Bool
process_formed m = head_formed m && every_chunk entry_width entry_formed entry_count (drop entries_at m)

-- ---- and of a sound record

-- the run state is one of the six, the size is valid, the session fits, and the process is there, or absent with no host
unfoldable pub head_sound : List ℕ → Bool
head_sound m =
    is_run_number (get_or m run_at 0)
    && (valid_size (size_of m)
    && (session_fits m
    && (eqb (get_or m there_at 0) 1 || (eqb (get_or m there_at 0) 0 && eqb (get_or m host_at 0) 0))))

-- a sound head, no breakpoints, and that number of them
unfoldable pub process_plain : List ℕ → Bool
process_plain m = head_sound m && (eqb (entries_bits (drop entries_at m)) 0 && eqb (get_or m number_at 0) 0)

-- the bytes of a process are those of a sound record
unfoldable pub process_sound : List ℕ → Bool
process_sound m = process_formed m && sound_process (process_of m)
