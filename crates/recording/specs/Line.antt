-- What a line does, in each language.
use Rattle.std.specs.Prelude.{◌≡◌, Bool, true, false, cond, ◌||◌, List, [], ◌∷◌, ℕ, ◌-◌, ◌/◌, ◌≤◌, min, length, drop, replicate}
use Rattle.process.specs.Sizes.{memory_bytes}
use Rattle.gateway.specs.Called.{why_on, start_on}
use Rattle.display.specs.Reason.{why_line}
use Rattle.lines.specs.declared.scan.Phase.{Phase}
use Rattle.lines.specs.declared.scan.Phase.TheVariants.{Open, Full}
use Rattle.lines.specs.Scan.{after, bytes_of}
use Rattle.calls.specs.declared.text.Shown.{Shown}
use Rattle.calls.specs.declared.text.Shown.TheVariants.{Recorded, Alone}
use Rattle.calls.specs.Effect.{Effect, effect}
use Rattle.calls.specs.Listing.{no_door}
use Rattle.calls.specs.Meaning.{unknown_effect, request_effect, report_effect, text_effect, raw_effect, start_effect, store_effect, memory_effect, whole_memory_effect, process_effect, packet_effect, tick_effect, why_effect}
use Rattle.recording.specs.declared.command.Command.{Command}
use Rattle.recording.specs.declared.command.Command.TheVariants.{Start, Request, Report, Store, Memory, Whole, Process, Packet, Tick, Text, Raw, Why, Unknown}
use Rattle.recording.specs.declared.language.Language.{Language}
use Rattle.recording.specs.declared.language.Language.TheVariants.{Bench, Recording, TextDoor}
use Rattle.recording.specs.Command.{begins, raw_word, why_word, text_word, command_of}

-- where in a line of a recording the pairs begin: after its word, `raw `, `why ` or `request `
unfoldable pub pairs_behind : List ℕ → ℕ
pairs_behind line = cond (begins raw_word line || begins why_word line) 4 8

-- where in a line that begins so the pairs begin; where they have not begun yet, it may be any place after its end
unfoldable pub pairs_from : Language → List ℕ → ℕ
pairs_from Bench line = 0
pairs_from Recording line = pairs_behind line
pairs_from TextDoor line = pairs_behind line

-- the processes that are there at first
unfoldable pub there_at : Language → List Bool
there_at Bench = false ∷ false ∷ true ∷ false ∷ false ∷ false ∷ false ∷ false ∷ []
there_at Recording = replicate 8 false
there_at TextDoor = replicate 8 false

-- the bytes of the state before the first line: what is there has 4,096 bytes, and no process is that of the Pup door
unfoldable pub first_state : Language → List ℕ → List ℕ
first_state l s = (start_on (there_at l) (replicate 8 memory_bytes) no_door s).state

-- no more characters of a line are counted: the greatest number of 64 bits
abbrev pub most_counted : ℕ
most_counted = 18446744073709551615

-- so many characters, as far as they are counted
abbrev pub capped : ℕ → ℕ
capped n = min n most_counted

-- how many pairs a line of so many characters has after `why `: each has three with the blank after it, which the last has not
unfoldable pub pairs_in : ℕ → ℕ
pairs_in size = (size - 3) / 3

-- what a line of a recording with this word does: phase is where its pairs led, size how many characters it has, and s and m are state and memory
module _ (shown : Shown) (phase : Phase) (size : ℕ) (line s m : List ℕ) where
  -- by the word
  unfoldable pub command_effect : Command → Effect
  command_effect Start = start_effect line s m
  command_effect Request = request_effect phase (bytes_of Open (drop 8 line)) s m
  command_effect Report = report_effect shown line s m
  command_effect Store = store_effect line s m
  command_effect Memory = memory_effect line s m
  command_effect Whole = whole_memory_effect line s m
  command_effect Process = process_effect line s m
  command_effect Packet = packet_effect line s m
  command_effect Tick = tick_effect line s m
  command_effect Text = text_effect Recorded (drop 5 line) s m
  command_effect Raw = raw_effect phase (bytes_of Open (drop 4 line)) s m
  command_effect Why = why_effect phase (pairs_in size) (bytes_of Open (drop 4 line)) s m
  command_effect Unknown = unknown_effect s m

-- what a line does, of which all pairs led to this phase, and which has so many characters
unfoldable pub line_effect : Language → Phase → ℕ → List ℕ → List ℕ → List ℕ → Effect
line_effect Bench phase size line s m = request_effect phase (bytes_of Open line) s m
line_effect Recording phase size line s m = command_effect Recorded phase size line s m (command_of line)
line_effect TextDoor phase size line s m =
    cond (begins text_word line) (text_effect Alone line s m) (command_effect Alone phase size line s m (command_of line))

-- what a whole line does
unfoldable pub whole_effect : Language → List ℕ → List ℕ → List ℕ → Effect
whole_effect l line s m = line_effect l (after Open (drop (pairs_from l line) line)) (capped (length line)) line s m

-- a whole line `why ` and pairs, of no more characters than are counted, prints what the query says of the message that the pairs are; so the
-- length that it tells is the message's, however long that is. State and memory stay
unfoldable pub TellsWhy : Type 0
TellsWhy =
    (l : Language) (line s m : List ℕ) → (l ≡ Bench → ⊥) → begins why_word line ≡ true → after Open (drop 4 line) ≡ Full → length line ≤ most_counted
    → whole_effect l line s m ≡ effect s m (why_line (why_on s (bytes_of Open (drop 4 line))))
