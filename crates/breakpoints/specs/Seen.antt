-- What is seen of a process's memory.
use Rattle.std.specs.Prelude.{Bool, not, cond, ◌&&◌, List, [], ◌∷◌, ℕ, ◌+◌, ◌-◌, get_or, set, leb}
use Rattle.breakpoints.specs.declared.entry.Breakpoint.{Breakpoint}
use Rattle.breakpoints.specs.Entry.{with_saved, with_planted, in_use}

-- the two bytes of a word, low first, at an address
abbrev pub put_word : ℕ → ℕ → ℕ → List ℕ → List ℕ
put_word a low high m = set (set m a low) (a + 1) high

-- 'planted (not lifted)'
abbrev pub is_planted : Breakpoint → Bool
is_planted b = in_use b && not b.lifted

-- the memory with a breakpoint's saved word in its place, if it is planted
unfoldable pub restored : Breakpoint → List ℕ → List ℕ
restored b m = cond (is_planted b) (put_word b.address b.low b.high m) m

-- 'The seen memory of a process is its memory with the saved word in place of each planted (not lifted) breakpoint.'
unfoldable pub seen : List Breakpoint → List ℕ → List ℕ
seen [] m = m
seen (b ∷ bs) m = seen bs (restored b m)

-- a breakpoint whose saved word, if it is planted, is the word that stands at its address in s
unfoldable pub saved_from : List ℕ → Breakpoint → Breakpoint
saved_from s b = cond (is_planted b) (with_saved (get_or s b.address 0) (get_or s (b.address + 1) 0) b) b

-- a breakpoint as it is planted in the memory m: 'Planting saves the word'
abbrev pub planted : List ℕ → Breakpoint → Breakpoint
planted m b = with_planted (with_saved (get_or m b.address 0) (get_or m (b.address + 1) 0) b)

-- the memory after that: 'and stores 3, 0 (PDP-11 BPT)'
abbrev pub bpt_stored : Breakpoint → List ℕ → List ℕ
bpt_stored b m = put_word b.address 3 0 m

-- a byte at address i, laid over the part of memory that starts at an address, if it is in there
unfoldable pub overlay_saved_byte : ℕ → ℕ → ℕ → List ℕ → List ℕ
overlay_saved_byte at i v out = cond (leb at i) (set out (i - at) v) out

-- a planted breakpoint's saved word, laid over that part
unfoldable pub overlay_saved_word : ℕ → Breakpoint → List ℕ → List ℕ
overlay_saved_word at b out =
    cond (is_planted b) (overlay_saved_byte at (b.address + 1) b.high (overlay_saved_byte at b.address b.low out)) out

-- and all of them
unfoldable pub overlay_saved_words : ℕ → List Breakpoint → List ℕ → List ℕ
overlay_saved_words at [] out = out
overlay_saved_words at (b ∷ bs) out = overlay_saved_words at bs (overlay_saved_word at b out)
