-- The line that says why a request is refused.
use Rattle.std.specs.Prelude.{cond, List, [], ◌∷◌, ◌++◌, ℕ, eqb}
use Rattle.reasons.specs.declared.Limit.{Limit}
use Rattle.reasons.specs.declared.Limit.TheVariants.{End, Count, Last}
use Rattle.reasons.specs.declared.Reason.{Reason}
use Rattle.reasons.specs.declared.Reason.TheVariants.{Granted, Length, Debugger, RunState, Past, Full, Watcher, Setter, Other}
use Rattle.reasons.specs.Reason.{reason_number}
use Rattle.decimal.specs.Numeral.{numeral, field}

-- `granted`
abbrev pub granted_text : List ℕ
granted_text = 103 ∷ 114 ∷ 97 ∷ 110 ∷ 116 ∷ 101 ∷ 100 ∷ []

-- ' end'
abbrev pub end_name : List ℕ
end_name = 32 ∷ 101 ∷ 110 ∷ 100 ∷ []

-- ' count'
abbrev pub count_name : List ℕ
count_name = 32 ∷ 99 ∷ 111 ∷ 117 ∷ 110 ∷ 116 ∷ []

-- ' last'
abbrev pub last_name : List ℕ
last_name = 32 ∷ 108 ∷ 97 ∷ 115 ∷ 116 ∷ []

-- 'the end of memory, size or vector; the 256 of EXAMINE; BREAK's last address'
unfoldable pub limit_name : Limit → List ℕ
limit_name End = end_name
limit_name Count = count_name
limit_name Last = last_name

-- '`10 end EXCESS` / `10 count EXCESS` / `10 last EXCESS`', without the number
unfoldable pub past_text : Limit → ℕ → List ℕ
past_text limit excess = limit_name limit ++ field 32 excess

-- 'its facts: `3 LENGTH`, `8 HOST`, `9 RUN`, .., `11 8` / `11 4`, `15 HOST`, `16 HOST`; others the number alone', without the number
unfoldable pub facts_text : Reason → List ℕ
facts_text Granted = []
facts_text (Length n) = field 32 n
facts_text (Debugger host) = field 32 host
facts_text (RunState run) = field 32 run
facts_text (Past limit excess) = past_text limit excess
facts_text (Full entries) = field 32 entries
facts_text (Watcher host) = field 32 host
facts_text (Setter host) = field 32 host
facts_text (Other n) = []

-- '`granted`, or NUMBER and its facts'
unfoldable pub reason_text : Reason → List ℕ
reason_text r = cond (eqb (reason_number r) 0) granted_text (numeral (reason_number r) ++ facts_text r)

-- a line with its newline
unfoldable pub why_line : Reason → List ℕ
why_line r = reason_text r ++ (10 ∷ [])
