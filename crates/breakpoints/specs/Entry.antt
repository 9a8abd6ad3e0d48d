-- An entry of a process, and the entries that differ from it in one field. Nothing else writes an entry anew.
use Rattle.std.specs.Prelude.{Bool, true, false, not, ◌&&◌, ℕ, ◌+◌, ◌%◌, eqb, leb}
use Rattle.breakpoints.specs.declared.entry.Breakpoint.{Breakpoint}

-- 'a freed entry is all zero'
abbrev pub free : Breakpoint
free = record { lifted = false; address = 0; count = 0; low = 0; high = 0; setter = 0 }

-- an entry is in use if it records who set it: 'Each breakpoint records who set it' (K5), and a free one is all zero
abbrev pub in_use : Breakpoint → Bool
in_use b = not (eqb b.setter 0)

-- a new breakpoint at this address, with this count, that this host sets; lifted until it is planted
abbrev pub breakpoint_at : ℕ → ℕ → ℕ → Breakpoint
breakpoint_at a n host = record { lifted = true; address = a; count = n; low = 0; high = 0; setter = host }

-- with another count
abbrev pub with_count : ℕ → Breakpoint → Breakpoint
with_count n b = record { lifted = b.lifted; address = b.address; count = n; low = b.low; high = b.high; setter = b.setter }

-- with another saved word
abbrev pub with_saved : ℕ → ℕ → Breakpoint → Breakpoint
with_saved l h b = record { lifted = b.lifted; address = b.address; count = b.count; low = l; high = h; setter = b.setter }

-- lifted
abbrev pub with_lifted : Breakpoint → Breakpoint
with_lifted b = record { lifted = true; address = b.address; count = b.count; low = b.low; high = b.high; setter = b.setter }

-- not lifted
abbrev pub with_planted : Breakpoint → Breakpoint
with_planted b = record { lifted = false; address = b.address; count = b.count; low = b.low; high = b.high; setter = b.setter }

-- 'Each breakpoint records who set it': this host did (K5)
unfoldable pub is_set_by : ℕ → Breakpoint → Bool
is_set_by host b = in_use b && eqb b.setter host

-- 'even'; 'BREAK at most size − 2'
unfoldable pub valid_break_address : ℕ → ℕ → Bool
valid_break_address size a = eqb (a % 2) 0 && leb (a + 2) size
