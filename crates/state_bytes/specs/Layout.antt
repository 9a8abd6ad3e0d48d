-- Where processes lie in memory, as the code works it out.
use Rattle.std.specs.Prelude.{Bool, cond, not, ◌&&◌, ◌||◌, ℕ, ◌-◌, eqb, ltb, leb}
use Rattle.lists.specs.Every.{below}
use Rattle.lists.specs.Sum.{total}
use Rattle.state.specs.Records.{Records, process_at, start_of}
use Rattle.state.specs.Layout.{capacity, extent_at, used}
use Rattle.state_bytes.specs.Widths.{process_count}

-- ---- in number order

-- process p is absent, or begins at this index
abbrev pub lies_at : Records → ℕ → ℕ → Bool
lies_at g start p = not (process_at g p).there || eqb (start_of g p) start

-- each process begins where those with lower numbers end, and the last ends within the memory: so it is from a fresh start on, until a process
-- is created while one with a higher number is there
unfoldable pub in_number_order : Records → Bool
in_number_order g = below (λ (p : ℕ). lies_at g (total (extent_at g) p) p) process_count && leb (used g) capacity

-- ---- in any order

-- the bytes of process q, if it begins before this index
abbrev pub extent_before : Records → ℕ → ℕ → ℕ
extent_before g start q = cond (ltb (start_of g q) start) (extent_at g q) 0

-- process q is there and begins at this index
abbrev pub begins_at : Records → ℕ → ℕ → Bool
begins_at g start q = (process_at g q).there && eqb (start_of g q) start

-- ---- a process that goes

-- where process q begins once so many bytes are taken out at a start: one that lies above moves down
unfoldable pub start_lowered : Records → ℕ → ℕ → ℕ → ℕ
start_lowered g start count q = cond ((process_at g q).there && ltb start (start_of g q)) (start_of g q - count) (start_of g q)
