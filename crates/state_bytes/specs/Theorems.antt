-- The byte form and the record are each other's inverse, and the door stays.
use Rattle.std.specs.Prelude.{◌≡◌, true, List, ℕ, ◌<◌, length}
use Rattle.lists.specs.Buffer.{Bytes}
use Rattle.process.specs.declared.record.Process.{Process}
use Rattle.state.specs.Records.{Records, process_at, with_process, with_start}
use Rattle.state_bytes.specs.State.{state_bytes, with_process_bytes, with_start_bytes, with_starts_bytes, state_of, door_of, state_formed}
use Rattle.state_bytes.specs.Widths.{entry_count, process_count, state_width}

-- the arrays of a state have the sizes of the code's types
pub record Sized (g : Records) : Type 0 where
  pub processes : length g.processes ≡ process_count
  pub vectors : (p : ℕ) → p < process_count → length (process_at g p).vector ≡ 9
  pub entries : (p : ℕ) → p < process_count → length (process_at g p).breaks ≡ entry_count
  pub starts : length g.starts ≡ process_count

-- the byte form, and the record with the door, are each other's inverse
pub record Inverse : Type 0 where
  -- the bytes of a state are read as it, and as its door
  pub written-is-read : (door : ℕ) (g : Records) → Sized g → state_of (state_bytes door g) ≡ g
  pub door-is-read : (door : ℕ) (g : Records) → Sized g → door_of (state_bytes door g) ≡ door
  pub written-is-formed : (door : ℕ) (g : Records) → Sized g → state_formed (state_bytes door g) ≡ true
  -- and only they are
  pub read-is-written : (m : List ℕ) → Bytes m → state_formed m ≡ true → state_bytes (door_of m) (state_of m) ≡ m
  -- a record that is put into the bytes of a state is put into the state
  pub put-is-with : (m : List ℕ) → Bytes m → state_formed m ≡ true → (p : ℕ) (q : Process) → p < process_count
      → state_bytes (door_of m) (with_process p q (state_of m)) ≡ with_process_bytes p q m
  -- and so with a start
  pub put-start : (m : List ℕ) → Bytes m → state_formed m ≡ true → (p start : ℕ) → p < process_count
      → state_bytes (door_of m) (with_start p start (state_of m)) ≡ with_start_bytes p start m
  -- and with all starts
  pub put-starts : (m : List ℕ) → Bytes m → state_formed m ≡ true → (starts : List ℕ)
      → state_bytes (door_of m) (record { processes = (state_of m).processes; starts = starts }) ≡ with_starts_bytes starts m

-- what is put into the bytes of a state leaves the door
pub record DoorKept : Type 0 where
  -- a record of nine words and eight entries
  pub by-process : (m : List ℕ) → length m ≡ state_width → (p : ℕ) (q : Process) → p < process_count → length q.vector ≡ 9 → length q.breaks ≡ entry_count
      → door_of (with_process_bytes p q m) ≡ door_of m
  -- a start
  pub by-start : (m : List ℕ) → length m ≡ state_width → (p start : ℕ) → p < process_count → door_of (with_start_bytes p start m) ≡ door_of m
  -- all starts
  pub by-starts : (m : List ℕ) → length m ≡ state_width → (starts : List ℕ) → length starts ≡ process_count → door_of (with_starts_bytes starts m) ≡ door_of m
