-- The numbers of the kinds of machine report: 'kind 0 to 3 (TRAP, HALT, BPT, TTRAP)'.
use Rattle.std.specs.Prelude.{ℕ}

-- 'TRAP'
abbrev pub TRAP : ℕ
TRAP = 0

-- 'HALT'
abbrev pub HALT : ℕ
HALT = 1

-- 'BPT'
abbrev pub BPT : ℕ
BPT = 2

-- 'TTRAP'
abbrev pub TTRAP : ℕ
TTRAP = 3
