-- The states and calls that the theorems speak of.
use Rattle.std.specs.Prelude.{◌≡◌, true, ℕ, ◌<◌, length}
use Rattle.process.specs.declared.record.Process.{Process}
use Rattle.process.specs.Sizes.{vector_words}
use Rattle.state.specs.Layout.{capacity}
use Rattle.state.specs.Sound.{EightEntries, sound_test}
use Rattle.rules.specs.Tests.{State, record_of}
use Rattle.rules.specs.Step.{Call, request, report, store, text_line, packet, tick, query}

-- a sound state; records and entries have the sizes of the code's types, and with another memory every request, text line, packet and
-- report is refused with 1
pub record Ready (s : State) : Type 0 where
  pub memory : length s.memory ≡ capacity
  pub processes : length s.records.processes ≡ 8
  pub starts : length s.records.starts ≡ 8
  pub entries : EightEntries s.records
  pub sound : sound_test s.records ≡ true

-- 'A state vector is the nine words', as it is in every record of the code
abbrev pub NineWords : Process → Type 0
NineWords p = length p.vector ≡ vector_words

-- so it is in every process of a state
abbrev pub Worded : State → Type 0
Worded s = (p : ℕ) → p < 8 → NineWords (record_of s p)

-- a call as the code's types allow it: a report has 'nine words'
unfoldable pub Typed : Call → Type 0
Typed (request m buffer) = Unit {0}
Typed (report p kind reason words buffer line) = length words ≡ vector_words
Typed (store p a v) = Unit {0}
Typed (text_line text buffer) = Unit {0}
Typed (packet door kind id words buffer) = Unit {0}
Typed (tick door) = Unit {0}
Typed (query m) = Unit {0}
