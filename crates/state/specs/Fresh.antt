-- The state at a fresh start.
use Rattle.std.specs.Prelude.{Bool, true, false, not, cond, ◌&&◌, ◌||◌, List, [], ◌∷◌, ℕ, ◌+◌, drop, get_or, leb}
use Rattle.lists.specs.Every.{below}
use Rattle.lists.specs.Sum.{total}
use Rattle.process.specs.declared.record.Process.{Process}
use Rattle.run_state.specs.declared.Run.TheVariants.{Running}
use Rattle.process.specs.Sizes.{valid_size}
use Rattle.process.specs.Record.{fresh}
use Rattle.process.specs.Request.{cleared}
use Rattle.state.specs.Records.{Records}
use Rattle.state.specs.Layout.{capacity}

-- 'At a fresh start a given set of processes is there, running, with no host and zero vectors', each with its size; 'every other record is
-- cleared'
unfoldable pub fresh_process : Bool → ℕ → Process
fresh_process there size = cond there (fresh true 0 Running size) cleared

-- the records of these processes, with these sizes
unfoldable pub fresh_processes : List Bool → List ℕ → List Process
fresh_processes [] sizes = []
fresh_processes (t ∷ ts) sizes = fresh_process t (get_or sizes 0 0) ∷ fresh_processes ts (drop 1 sizes)

-- 'at fresh start in number order': each begins where the one before it ends, the first at this index; an absent one has no start
unfoldable pub fresh_starts : ℕ → List Bool → List ℕ → List ℕ
fresh_starts at [] sizes = []
fresh_starts at (t ∷ ts) sizes = cond t at 0 ∷ fresh_starts (at + cond t (get_or sizes 0 0) 0) ts (drop 1 sizes)

-- the state at a fresh start
unfoldable pub fresh_start : List Bool → List ℕ → Records
fresh_start there sizes = record { processes = fresh_processes there sizes; starts = fresh_starts 0 there sizes }

-- the sizes of the processes that are to be there, together
unfoldable pub needed : List Bool → List ℕ → ℕ
needed there sizes = total (λ (p : ℕ). cond (get_or there p false) (get_or sizes p 0) 0) 8

-- each size is right: no 'bad size (at fresh start too, of a process then there)'
unfoldable pub each_right : List Bool → List ℕ → Bool
each_right there sizes = below (λ (p : ℕ). not (get_or there p false) || valid_size (get_or sizes p 0)) 8

-- and there are not 'more than that at fresh start'
unfoldable pub sizes_right : List Bool → List ℕ → Bool
sizes_right there sizes = each_right there sizes && leb (needed there sizes) capacity
