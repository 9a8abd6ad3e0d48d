-- A process record together with the process's own bytes: what a request or report about it changes.
use Rattle.std.specs.Prelude.{◌≡◌, true, cond, List, ℕ, ◌+◌, ◌<◌, length}
use Rattle.process.specs.declared.record.Process.{Process}
use Rattle.process.specs.Sizes.{entry_count}
use Rattle.process.specs.Record.{entry}
use Rattle.process.specs.Sound.{sound_test}
use Rattle.breakpoints.specs.Entry.{in_use}

-- the record, and the bytes
pub record Local : Type 0 where
  pub process : Process
  pub bytes : List ℕ

-- the two together
abbrev pub local : Process → List ℕ → Local
local p m = record { process = p; bytes = m }

-- the number of bytes of a process: its size; an absent one has none
abbrev pub extent : Process → ℕ
extent p = cond p.there p.size 0

-- what the gateway has tested of a process before it does anything to it: the tests 1 and 2
pub record Tested (p : Process) (bytes : List ℕ) : Type 0 where
  pub sound : sound_test p ≡ true
  pub size : length bytes ≡ extent p

-- and of one that is there: it passed test 7 as well
pub record Present (p : Process) (bytes : List ℕ) : Type 0 where
  pub tested : Tested p bytes
  pub there : p.there ≡ true

-- the word of every breakpoint is within the process's bytes
abbrev pub Inside : Process → List ℕ → Type 0
Inside p bytes = (k : ℕ) → k < entry_count → in_use (entry p k) ≡ true → (entry p k).address + 1 < length bytes

-- a sound process record with its eight entries and its bytes
pub record Proper (l : Local) : Type 0 where
  pub tested : Tested l.process l.bytes
  pub eight : length l.process.breaks ≡ entry_count
