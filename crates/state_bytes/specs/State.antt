-- The bytes of a state: the eight processes, one after the other, then where each begins in memory, then the process of the Pup door. The rules
-- do not see the door: it is not in the records.
use Rattle.std.specs.Prelude.{◌≡◌, Bool, true, ◌&&◌, List, [], ◌∷◌, ◌++◌, ℕ, ◌+◌, ◌*◌, ◌/◌, ◌≤◌, length, take, drop, get_or, eqb}
use Rattle.lists.specs.Joined.{joined}
use Rattle.process.specs.declared.record.Process.{Process}
use Rattle.state.specs.Records.{Records}
use Rattle.state.specs.Sound.{sound_test}
use Rattle.state_bytes.specs.Chunk.{chunks, every_chunk}
use Rattle.state_bytes.specs.Number.{u16_le, u16_le_bytes}
use Rattle.state_bytes.specs.Process.{process_bytes, process_of, process_formed, process_sound}
use Rattle.state_bytes.specs.Widths.{process_count, process_width, start_width, starts_at, starts_width, door_at, state_width}

-- the bytes of all starts
unfoldable pub starts_bytes : List ℕ → List ℕ
starts_bytes starts = joined u16_le_bytes starts

-- the bytes of a state, with this door
unfoldable pub state_bytes : ℕ → Records → List ℕ
state_bytes door g = joined process_bytes g.processes ++ (starts_bytes g.starts ++ (door ∷ []))

-- the starts whose bytes these are
unfoldable pub starts_of : List ℕ → List ℕ
starts_of m = chunks start_width u16_le process_count m

-- the state whose bytes these are
unfoldable pub state_of : List ℕ → Records
state_of m = record { processes = chunks process_width process_of process_count m; starts = starts_of (drop starts_at m) }

-- the process of the door in these bytes
unfoldable pub door_of : List ℕ → ℕ
door_of m = get_or m door_at 0

-- ---- a part of it changed

-- the bytes of a state with those of another record of process p
unfoldable pub with_process_bytes : ℕ → Process → List ℕ → List ℕ
with_process_bytes p q m = take (process_width * p) m ++ (process_bytes q ++ drop process_width (drop (process_width * p) m))

-- the bytes of a state in which process p begins elsewhere
unfoldable pub with_start_bytes : ℕ → ℕ → List ℕ → List ℕ
with_start_bytes p start m =
    take (starts_at + start_width * p) m ++ (u16_le_bytes start ++ drop start_width (drop (starts_at + start_width * p) m))

-- the bytes of a state with other starts
unfoldable pub with_starts_bytes : List ℕ → List ℕ → List ℕ
with_starts_bytes starts m = take starts_at m ++ (starts_bytes starts ++ drop starts_width (drop starts_at m))

-- ---- bytes that are a state's

-- so many, and each byte of flags, run state and owed answer is one; any start and any door is
unfoldable pub state_formed : List ℕ → Bool
state_formed m = eqb (length m) state_width && every_chunk process_width process_formed process_count m

-- the bytes are those of a sound state
unfoldable pub state_sound : List ℕ → Bool
state_sound m = state_formed m && sound_test (state_of m)

-- as many bytes as a state has, and before this index whole processes, each sound
abbrev pub SoundBefore : ℕ → List ℕ → Type 0
SoundBefore at m = (at ≡ process_width * (at / process_width)) × (at ≤ starts_at) × (length m ≡ state_width) × (every_chunk process_width process_sound (at / process_width) m ≡ true)
