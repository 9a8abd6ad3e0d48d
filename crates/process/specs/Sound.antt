-- When a process record is sound: document 01's sentence, and a test that can be run. They are proved to be the same.
use Rattle.std.specs.Prelude.{◌≡◌, Bool, true, false, not, ◌&&◌, ◌||◌, ◌⊎◌, ℕ, ◌+◌, ◌≤◌, ◌<◌, ◌%◌, eqb}
use Rattle.lists.specs.Every.{below}
use Rattle.run_state.specs.RunState.{stepping_or_passing}
use Rattle.session.specs.Session.{text_host, pup_host, owes, session_sound}
use Rattle.process.specs.declared.record.Process.{Process}
use Rattle.breakpoints.specs.declared.entry_query.EntryQuery.TheVariants.{Lifted, At}
use Rattle.breakpoints.specs.Entry.{valid_break_address, in_use}
use Rattle.process.specs.Sizes.{entry_count, memory_bytes, valid_size}
use Rattle.process.specs.Record.{entry, count_used}
use Rattle.process.specs.Find.{find}

-- the process has no breakpoints
abbrev pub NoBreakpoints : Process → Type 0
NoBreakpoints p = (k : ℕ) → k < entry_count → in_use (entry p k) ≡ false

-- 'a size, even, 2 to 4,096'
pub record SizeRight (n : ℕ) : Type 0 where
  pub even : n % 2 ≡ 0
  pub least : 2 ≤ n
  pub most : n ≤ memory_bytes

-- 'debugs or watches its process'
abbrev pub DebugsOrWatches : Process → ℕ → Type 0
DebugsOrWatches p host = (host ≡ p.host) ⊎ ((host ≡ 0 → ⊥) × (host ≡ p.session.watcher))

-- 'A state is sound when:', for one process; the entries are those in use
pub record Sound (p : Process) : Type 0 where
  -- 'Each process gets a size, even, 2 to 4,096'; '2 covers a bad size'
  pub sized : SizeRight p.size
  -- 'an absent process has no host and no breakpoints'
  pub absent : p.there ≡ false → (p.host ≡ 0) × NoBreakpoints p
  -- 'a process with no host has none either'
  pub unhosted : p.host ≡ 0 → NoBreakpoints p
  -- 'addresses within a process are different, even', and a breakpoint past the size is unsound
  pub different : (j k : ℕ) → j < k → k < entry_count → in_use (entry p j) ≡ true → in_use (entry p k) ≡ true → (entry p j).address ≡ (entry p k).address → ⊥
  pub even : (k : ℕ) → k < entry_count → in_use (entry p k) ≡ true → (entry p k).address % 2 ≡ 0
  pub within : (k : ℕ) → k < entry_count → in_use (entry p k) ≡ true → (entry p k).address + 2 ≤ p.size
  -- 'at most one is lifted'
  pub one-lifted : (j k : ℕ) → j < k → k < entry_count → in_use (entry p j) ≡ true → in_use (entry p k) ≡ true → (entry p j).lifted ≡ true → (entry p k).lifted ≡ true → ⊥
  -- 'Sound now allows a lifted one only while stepping or passing.'
  pub lifted-while : (k : ℕ) → k < entry_count → in_use (entry p k) ≡ true → (entry p k).lifted ≡ true → stepping_or_passing p.run ≡ true
  -- 'none is owed unless host 253 debugs it'
  pub owed : owes p.session.owed ≡ true → p.host ≡ text_host
  -- 'the one watcher of a process another host debugs'
  pub watched : (p.session.watcher ≡ 0 → ⊥) → (p.host ≡ 0 → ⊥) × (p.session.watcher ≡ p.host → ⊥)
  -- 'A Go waits only while host 254 debugs the process, with at most 99 ticks counted; sound includes this.' (K1)
  pub waiting : p.session.go.waits ≡ true → (p.host ≡ pup_host) × (p.session.go.ticks ≤ 99)
  -- 'who set a breakpoint debugs or watches its process'
  pub set-by : (k : ℕ) → k < entry_count → in_use (entry p k) ≡ true → DebugsOrWatches p (entry p k).setter
  -- '2 covers a wrong stored number'
  pub counted : p.number ≡ count_used p.breaks

-- an absent process has no host
unfoldable pub absent_has_no_host : Process → Bool
absent_has_no_host p = p.there || eqb p.host 0

-- an entry is the first in use at its address
abbrev pub address_is_unique : Process → ℕ → Bool
address_is_unique p k = eqb (find (At (entry p k).address) p) k

-- an entry is not lifted, or the process is stepping or passing and no earlier entry is lifted
unfoldable pub lift_sound : Process → ℕ → Bool
lift_sound p k = not (entry p k).lifted || (stepping_or_passing p.run && eqb (find Lifted p) k)

-- who set an entry is the host, or the watcher if there is one
unfoldable pub setter_sound : Process → ℕ → Bool
setter_sound p k =
    eqb (entry p k).setter p.host || (not (eqb (entry p k).setter 0) && eqb (entry p k).setter p.session.watcher)

-- an entry in use: there is a host, who set it debugs or watches, the address is valid, no earlier entry has it, and it may be lifted if it is
unfoldable pub used_sound : Process → ℕ → Bool
used_sound p k =
    not (eqb p.host 0)
    && (setter_sound p k
    && (valid_break_address p.size (entry p k).address
    && (address_is_unique p k
    && lift_sound p k)))

-- an entry is free, or keeps the rules
unfoldable pub entry_sound : Process → ℕ → Bool
entry_sound p k = not (in_use (entry p k)) || used_sound p k

-- an absent process has no host, its session may be as it is, its number of breakpoints is right, and every entry keeps the rules
unfoldable pub keeps_rules : Process → Bool
keeps_rules p = absent_has_no_host p && (session_sound p.host p.session && (eqb p.number (count_used p.breaks) && below (entry_sound p) entry_count))

-- the test of soundness
unfoldable pub sound_test : Process → Bool
sound_test p = valid_size p.size && keeps_rules p
