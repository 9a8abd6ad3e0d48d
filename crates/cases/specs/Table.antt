-- The table of all cases.
use Rattle.std.specs.Prelude.{◌≡◌, List, map}
use Rattle.cases.specs.Case.{Case, outcomes}
use Rattle.cases.specs.Cases.{cases}
use Rattle.cases.specs.LineCases.{line_cases}
use Rattle.cases.specs.WatchCases.{watch_cases}

-- each of these cases gives what is expected
unfoldable pub Hold : List Case → Type 0
Hold cs = map outcomes cs ≡ map (λ (c : Case). c.seen) cs

-- every case
pub record CasesHold : Type 0 where
  -- P1 to P12, and the one memory
  pub first : Hold cases
  -- the text lines
  pub lines : Hold line_cases
  -- the watcher
  pub watches : Hold watch_cases
