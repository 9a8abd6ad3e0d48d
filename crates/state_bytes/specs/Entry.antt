-- The bytes of an entry, and of all entries of a process.
use Rattle.std.specs.Prelude.{Bool, List, [], ◌∷◌, ℕ, zero, suc, ◌/◌, ◌%◌, take, drop, get_or, leb}
use Rattle.std.specs.Int.Bits.{bit_or}
use Rattle.lists.specs.Flag.{flag}
use Rattle.lists.specs.Word.{high, low, word}
use Rattle.breakpoints.specs.declared.entry.Breakpoint.{Breakpoint}
use Rattle.state_bytes.specs.Number.{u64_le, flag_of}
use Rattle.state_bytes.specs.Widths.{entry_count, entry_width}

-- whether it is lifted, who set it, address, remaining count, saved word
unfoldable pub entry_bytes : Breakpoint → List ℕ
entry_bytes b =
    flag b.lifted
    ∷ b.setter
    ∷ low b.address
    ∷ high b.address
    ∷ low b.count
    ∷ high b.count
    ∷ b.low
    ∷ b.high
    ∷ []

-- the entry whose bytes these are
unfoldable pub entry_of : List ℕ → Breakpoint
entry_of m = record {
  lifted = flag_of (get_or m 0 0);
  address = word (get_or m 3 0) (get_or m 2 0);
  count = word (get_or m 5 0) (get_or m 4 0);
  low = get_or m 6 0;
  high = get_or m 7 0;
  setter = get_or m 1 0;
}

-- the entry whose bytes are those of this number
unfoldable pub entry_of_number : ℕ → Breakpoint
entry_of_number w = record {
  lifted = flag_of w;
  address = w / 65536 % 65536;
  count = w / 4294967296 % 65536;
  low = w / 281474976710656 % 256;
  high = w / 72057594037927936 % 256;
  setter = w / 256 % 256;
}

-- the first byte of an entry is 0 or 1
unfoldable pub entry_formed : List ℕ → Bool
entry_formed m = leb (get_or m 0 0) 1

-- ---- all entries at once

-- these bits, and those that are set in one of so many entries
unfoldable pub bits_with : ℕ → ℕ → List ℕ → ℕ
bits_with bits zero m = bits
bits_with bits (suc n) m = bits_with (bit_or bits (u64_le (take entry_width m))) n (drop entry_width m)

-- the bits that are set in one of the eight entries: 0 where all bytes are
abbrev pub entries_bits : List ℕ → ℕ
entries_bits m = bits_with 0 entry_count m

-- no bit but the lowest is set in the first byte of one of them
unfoldable pub flags_formed : ℕ → Bool
flags_formed bits = leb (bits % 256) 1
