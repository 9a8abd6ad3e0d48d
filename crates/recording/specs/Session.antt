-- A text that is read character by character: what is kept of a line that has not ended, and what a block of text does and prints.
use Rattle.std.specs.Prelude.{◌≡◌, Bool, cond, ◌&&◌, List, [], ◌∷◌, ◌++◌, ℕ, ◌+◌, ◌-◌, length, take, ltb}
use Rattle.lines.specs.declared.scan.Phase.{Phase}
use Rattle.lines.specs.declared.scan.Phase.TheVariants.{Open}
use Rattle.lines.specs.Scan.{next, is_newline}
use Rattle.calls.specs.Effect.{Effect, Prints, longest_text}
use Rattle.recording.specs.declared.language.Language.{Language}
use Rattle.recording.specs.declared.partial.Partial.{Partial}
use Rattle.recording.specs.declared.feeding.Fed as code
use Rattle.recording.specs.declared.feeding.Step as code_step
use Rattle.recording.specs.Line.{pairs_from, capped, line_effect}

-- how much is kept of a line: one byte more than a call has, which tells that it is longer
abbrev pub kept_size : ℕ
kept_size = 1025

-- a line that has not ended: what is kept of it, how many characters it has, kept or not, and where its pairs led
pub record Reading : Type 0 where
  pub line : List ℕ
  pub size : ℕ
  pub phase : Phase

-- the line of which a buffer holds the first bytes
abbrev pub reading : Partial → List ℕ → Reading
reading p buffer = record { line = take p.len buffer; size = p.size; phase = p.phase }

-- nothing was read of the line
abbrev pub nothing_read : Reading
nothing_read = record { line = []; size = 0; phase = Open }

-- the pairs begin after the first bytes
unfoldable pub phase_after : ℕ → ℕ → Phase → ℕ → Phase
phase_after len first phase c = cond (ltb len first) phase (next phase c)

-- one character more, which is counted, and kept if there is room
unfoldable pub typed : ℕ → ℕ → ℕ → Reading → Reading
typed first room c r =
    record {
      line = take room (r.line ++ (c ∷ []));
      size = capped (r.size + 1);
      phase = phase_after (length r.line) first r.phase c;
    }

-- the line that has not ended, and the bytes of state and memory
pub record Session : Type 0 where
  pub reading : Reading
  pub state : List ℕ
  pub memory : List ℕ

-- a session by its three parts
abbrev pub session : Reading → List ℕ → List ℕ → Session
session r s m = record { reading = r; state = s; memory = m }

-- a session, and what was printed on the way to it
pub record Step : Type 0 where
  pub session : Session
  pub text : List ℕ

-- the two together
abbrev pub step_to : Session → List ℕ → Step
step_to s text = record { session = s; text = text }

-- the line was carried out with this effect, and the next one begins
unfoldable pub line_ended : Effect → Step
line_ended e = step_to (session nothing_read e.state e.memory) e.text

-- one character: a newline ends the line, which is then carried out
unfoldable pub stepped : Language → ℕ → Session → Step
stepped l c x =
    cond (is_newline c) (line_ended (line_effect l x.reading.phase x.reading.size x.reading.line x.state x.memory))
    (step_to (session (typed (pairs_from l x.reading.line) kept_size c x.reading) x.state x.memory) [])

-- a line is not ended where what it prints might not fit
unfoldable pub waits : ℕ → ℕ → Bool
waits c room = is_newline c && ltb room longest_text

-- what a block of text leads to: the session, what was printed, and the rest of the block that waits for room
pub record Fed : Type 0 where
  pub session : Session
  pub text : List ℕ
  pub rest : List ℕ

-- the three together
abbrev pub fed_to : Session → List ℕ → List ℕ → Fed
fed_to s text rest = record { session = s; text = text; rest = rest }

-- a block of text, from a session in which this text was printed already into a buffer of that length
unfoldable pub fed : Language → ℕ → Session → List ℕ → List ℕ → Fed
fed l size x text [] = fed_to x text []
fed l size x text (c ∷ cs) =
    cond (waits c (size - length text)) (fed_to x text (c ∷ cs))
    (fed l size (stepped l c x).session (text ++ (stepped l c x).text) cs)

-- the session that a text leads to, whatever it prints
unfoldable pub through : Language → Session → List ℕ → Session
through l x [] = x
through l x (c ∷ cs) = through l (stepped l c x).session cs

-- a function did one step: the line's buffer, state and memory after it, and the text at the start of a buffer
pub record Steps (e : Step) (r : code_step.Step) (line s m before after : List ℕ) : Type 0 where
  pub session : session (reading r.partial line) s m ≡ e.session
  pub text : Prints e.text r.len before after

-- a function fed a block: the line's buffer, state and memory after it, how much of the block is used, and the text at the start of a buffer
pub record Feeds (e : Fed) (r : code.Fed) (block line s m before after : List ℕ) : Type 0 where
  pub session : session (reading r.partial line) s m ≡ e.session
  pub used : r.used + length e.rest ≡ length block
  pub text : Prints e.text r.len before after
