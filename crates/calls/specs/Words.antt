-- The numbers of a report, read one after another.
use Rattle.std.specs.Prelude.{◌≡◌, Bool, true, List, [], ◌∷◌, ℕ, zero, suc}
use Rattle.decimal.specs.declared.number.Number.{Number}
use Rattle.decimal.specs.Read.{begun, behind, ends_line}
use Rattle.calls.specs.declared.number.Report.{Report}

-- the last of so many words after a number
unfoldable pub last_of : ℕ → List ℕ → Number → Number
last_of zero line n = n
last_of (suc k) line n = last_of k line (behind 65535 line n)

-- the values of so many words after a number
unfoldable pub words_of : ℕ → List ℕ → Number → List ℕ
words_of zero line n = []
words_of (suc k) line n = (behind 65535 line n).value ∷ words_of k line (behind 65535 line n)

-- the process, the first number after the word `report`
abbrev pub process_in : List ℕ → Number
process_in line = behind 255 line (begun 6)

-- the kind, after the process
abbrev pub kind_in : List ℕ → Number
kind_in line = behind 255 line (process_in line)

-- the reason, after the kind
abbrev pub reason_in : List ℕ → Number
reason_in line = behind 65535 line (kind_in line)

-- all numbers of a report are right, and the line ends after them
unfoldable pub report_in : List ℕ → Bool
report_in line = ends_line line (last_of 9 line (reason_in line))

-- the line is right, and these are its numbers
pub record IsReport (line : List ℕ) (r : Report) : Type 0 where
  pub right : report_in line ≡ true
  pub process : r.process ≡ (process_in line).value
  pub kind : r.kind ≡ (kind_in line).value
  pub reason : r.reason ≡ (reason_in line).value
  pub words : r.words ≡ words_of 9 line (reason_in line)
