-- 'Free bytes plus the sizes, summed from fresh start and the granted CREATEs and DESTROYs, always make 16,384.' The sizes are taken from
-- what the calls and their answers tell, the free bytes from where the last process ends in the state. (K9)
use Rattle.std.specs.Prelude.{◌≡◌, Bool, true, false, cond, List, [], ◌∷◌, ℕ, ◌+◌, ◌-◌, length, get_or}
use Rattle.lists.specs.Sum.{total, greatest}
use Rattle.process.specs.Sizes.{memory_bytes}
use Rattle.state.specs.Records.{Records, process_at, start_of}
use Rattle.state.specs.Layout.{capacity, extent_at}
use Rattle.state.specs.Fresh.{fresh_start, sizes_right}
use Rattle.rules.specs.Rule.{Public}
use Rattle.rules.specs.Tests.{State, lent}
use Rattle.rules.specs.Step.{Call}
use Rattle.rules.specs.Ready.{Ready}
use Rattle.rules.specs.Run.{TraceItem, run, final}
use Rattle.rules.specs.Isolation.{told_of, public_of}

-- where the last process ends, or 0 where none is there
unfoldable pub end_of_last : Records → ℕ
end_of_last g = greatest (λ (p : ℕ). cond (process_at g p).there (start_of g p + extent_at g p) 0) 8

-- 'Free bytes follow the last'
abbrev pub bytes_after_last : State → ℕ
bytes_after_last s = capacity - end_of_last s.records

-- who is there and how large each is, as a run tells it
unfoldable pub told_after : (ℕ → Public) → List TraceItem → ℕ → Public
told_after d [] = d
told_after d (e ∷ es) = told_after (told_of d e.call e.answer) es

-- what is known of each process at a fresh start
unfoldable pub fresh_public : List Bool → List ℕ → ℕ → Public
fresh_public there sizes p =
    cond (get_or there p false) (record { there = true; host = 0; watcher = 0; size = get_or sizes p 0 }) (record { there = false; host = 0; watcher = 0; size = memory_bytes })

-- 'the sizes, summed', of those that are there
unfoldable pub sum_of_sizes : (ℕ → Public) → ℕ
sum_of_sizes d = total (λ (p : ℕ). cond (d p).there (d p).size 0) 8

-- the ledger, over lists of any length
pub record Ledger : Type 0 where
  -- from a fresh start, with any memory of its length
  pub from-fresh-start : (there : List Bool) (sizes memory : List ℕ) → length there ≡ 8 → sizes_right there sizes ≡ true → length memory ≡ capacity
      → (l : List Call)
      → bytes_after_last (final (lent (fresh_start there sizes) memory) l)
      + sum_of_sizes (told_after (fresh_public there sizes) (run (lent (fresh_start there sizes) memory) l))
      ≡ capacity
  -- and from any sound state
  pub from-any : (s : State) → Ready s → (l : List Call) → bytes_after_last (final s l) + sum_of_sizes (told_after (public_of s) (run s l)) ≡ capacity
