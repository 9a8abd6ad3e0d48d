-- 'One memory for all': where in it the bytes of each process lie, and how they move. Words in quotation marks are the change request's (K9).
use Rattle.std.specs.Prelude.{◌≡◌, Bool, true, not, cond, ◌&&◌, ◌||◌, List, ◌++◌, ℕ, ◌+◌, ◌-◌, ◌≤◌, ◌<◌, length, take, drop, replicate, eqb, ltb, leb}
use Rattle.lists.specs.Elements.{elements}
use Rattle.lists.specs.Every.{below}
use Rattle.lists.specs.Sum.{total}
use Rattle.process.specs.Local.{extent}
use Rattle.state.specs.Records.{Records, process_at, start_of}

-- 'has 16,384 bytes'
abbrev pub capacity : ℕ
capacity = 16384

-- ---- bytes that are taken, and free ones

-- how many bytes process p has
abbrev pub extent_at : Records → ℕ → ℕ
extent_at g p = extent (process_at g p)

-- the sizes of the processes that are there, together: 'Free bytes follow the last', from this index on
unfoldable pub used : Records → ℕ
used g = total (extent_at g) 8

-- the number of free bytes
abbrev pub free_bytes : Records → ℕ
free_bytes g = capacity - used g

-- ---- 'sound includes the layout'

-- the sizes of the processes that begin before an address, together
unfoldable pub used_before : ℕ → Records → ℕ
used_before a g = total (λ (q : ℕ). cond (ltb (start_of g q) a) (extent_at g q) 0) 8

-- 'Processes lie without gaps'
pub record LaidOut (g : Records) : Type 0 where
  -- each process begins where those before it end
  pub begins : (p : ℕ) → p < 8 → (process_at g p).there ≡ true → start_of g p ≡ used_before (start_of g p) g
  -- no two begin at one place
  pub differ : (p q : ℕ) → q < p → p < 8 → (process_at g q).there ≡ true → (process_at g p).there ≡ true → start_of g q ≡ start_of g p → ⊥
  -- and the last ends within the memory
  pub fits : used g ≤ capacity

-- no process with a lower number begins where p does
unfoldable pub start_is_unique : Records → ℕ → Bool
start_is_unique g p = below (λ (q : ℕ). not ((process_at g q).there && eqb (start_of g q) (start_of g p))) p

-- process p is absent, or begins where those before it end, and no other begins there
unfoldable pub placed : Records → ℕ → Bool
placed g p = not (process_at g p).there || (eqb (start_of g p) (used_before (start_of g p) g) && start_is_unique g p)

-- the test of the layout
unfoldable pub laid_out : Records → Bool
laid_out g = leb (used g) capacity && below (placed g) 8

-- ---- a process's bytes

-- so many bytes from an index on
unfoldable pub slot : ℕ → ℕ → List ℕ → List ℕ
slot start count memory = take count (drop start memory)

-- the memory with these bytes from an index on
unfoldable pub with_slot : ℕ → List ℕ → List ℕ → List ℕ
with_slot start bytes memory = take start memory ++ (bytes ++ drop (length bytes) (drop start memory))

-- ---- a process that goes

-- so many bytes from an index on are taken out: 'those above move down', up to the end of the last, and 'the bytes it adds to the free end'
-- are zero
unfoldable pub closed : ℕ → ℕ → ℕ → List ℕ → List ℕ
closed start count end memory =
    take start memory ++ (take (end - (start + count)) (drop (start + count) memory) ++ (replicate count 0 ++ drop end memory))

-- the first half of it: the bytes above moved down
abbrev pub lowered : ℕ → ℕ → ℕ → List ℕ → List ℕ
lowered start count end memory = with_slot start (slot (start + count) (end - (start + count)) memory) memory

-- where process q begins once p is gone: those above p move down by its size; p itself has no start any more
unfoldable pub start_without : Records → ℕ → ℕ → ℕ
start_without g p q =
    cond (eqb q p) 0
    (cond ((process_at g q).there && ltb (start_of g p) (start_of g q)) (start_of g q - extent_at g p) (start_of g q))

-- all starts once p is gone
unfoldable pub starts_without : ℕ → Records → List ℕ
starts_without p g = elements (start_without g p) 8
