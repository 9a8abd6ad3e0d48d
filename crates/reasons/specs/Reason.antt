-- A reason, by its number and its facts.
use Rattle.std.specs.Prelude.{cond, List, [], ◌∷◌, ℕ, get_or, eqb}
use Rattle.reasons.specs.declared.Limit.{Limit}
use Rattle.reasons.specs.declared.Limit.TheVariants.{End, Count, Last}
use Rattle.reasons.specs.declared.Reason.{Reason}
use Rattle.reasons.specs.declared.Reason.TheVariants.{Granted, Length, Debugger, RunState, Past, Full, Watcher, Setter, Other}

-- 'the end, 256, BREAK's last address'
abbrev pub limit_number : Limit → ℕ
limit_number End = 0
limit_number Count = 1
limit_number Last = 2

-- the test that it 'names'; 0 'says granted'
abbrev pub reason_number : Reason → ℕ
reason_number Granted = 0
reason_number (Length n) = 3
reason_number (Debugger host) = 8
reason_number (RunState run) = 9
reason_number (Past limit excess) = 10
reason_number (Full entries) = 11
reason_number (Watcher host) = 15
reason_number (Setter host) = 16
reason_number (Other n) = n

-- 'with its facts: 3 the length, 8 who debugs it, 9 what run state, 10 which limit .. by how much .., 11 whether 8 or 4 .., 15 the watcher, 16 who
-- set it, others none'
unfoldable pub facts_of : Reason → List ℕ
facts_of Granted = []
facts_of (Length n) = n ∷ []
facts_of (Debugger host) = host ∷ []
facts_of (RunState run) = run ∷ []
facts_of (Past limit excess) = limit_number limit ∷ excess ∷ []
facts_of (Full entries) = entries ∷ []
facts_of (Watcher host) = host ∷ []
facts_of (Setter host) = host ∷ []
facts_of (Other n) = []

-- how many facts go with a number
unfoldable pub fact_count : ℕ → ℕ
fact_count n =
    cond (eqb n 3) 1
    (cond (eqb n 8) 1 (cond (eqb n 9) 1 (cond (eqb n 10) 2 (cond (eqb n 11) 1 (cond (eqb n 15) 1 (cond (eqb n 16) 1 0))))))

-- the facts as two numbers, 0 where there is none
unfoldable pub two_facts : Reason → List ℕ
two_facts r = get_or (facts_of r) 0 0 ∷ get_or (facts_of r) 1 0 ∷ []
