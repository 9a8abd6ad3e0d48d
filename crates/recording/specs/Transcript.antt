-- A text as its lines: what all of it does and prints, whatever the blocks in which it comes.
use Rattle.std.specs.Prelude.{◌≡◌, true, cond, List, [], ◌∷◌, ◌++◌, ◌⊎◌, ℕ, ◌-◌, length, take, drop, ltb}
use Rattle.lines.specs.declared.scan.Phase.TheVariants.{Open}
use Rattle.lines.specs.Scan.{after, is_newline}
use Rattle.calls.specs.Effect.{Effect, longest_text}
use Rattle.recording.specs.declared.language.Language.{Language}
use Rattle.recording.specs.Line.{pairs_from, capped, whole_effect}
use Rattle.recording.specs.Session.{Session, session, kept_size, Fed, fed}

-- the line that has not ended yet, state and memory, and all that was printed
pub record Transcript : Type 0 where
  pub line : List ℕ
  pub state : List ℕ
  pub memory : List ℕ
  pub text : List ℕ

-- the line had this effect, and the next one begins
unfoldable pub answered : Effect → Transcript → Transcript
answered e t = record { line = []; state = e.state; memory = e.memory; text = t.text ++ e.text }

-- one character: a newline ends the line, which is then carried out as a whole
unfoldable pub character : Language → ℕ → Transcript → Transcript
character l c t =
    cond (is_newline c) (answered (whole_effect l t.line t.state t.memory) t)
    (record { line = t.line ++ (c ∷ []); state = t.state; memory = t.memory; text = t.text })

-- a text, character by character
unfoldable pub transcribed : Language → Transcript → List ℕ → Transcript
transcribed l t [] = t
transcribed l t (c ∷ cs) = transcribed l (character l c t) cs

-- what a session keeps of a transcript: of the line its first bytes, how many characters it has, and where all of its pairs led
unfoldable pub keeps : Language → Transcript → Session
keeps l t =
    session
    (record {
      line = take kept_size t.line;
      size = capped (length t.line);
      phase = after Open (drop (pairs_from l t.line) t.line);
    })
    t.state t.memory

-- a block was fed: some of its first bytes were used, the session and the text are those of a transcript of these, and the rest is left
-- only where another line might not fit
pub record Follows (l : Language) (size : ℕ) (t : Transcript) (block : List ℕ) (f : Fed) : Type 0 where
  pub used : List ℕ
  pub whole : used ++ f.rest ≡ block
  pub session : f.session ≡ keeps l (transcribed l t used)
  pub text : f.text ≡ (transcribed l t used).text
  pub stops : (f.rest ≡ []) ⊎ (ltb (size - length f.text) longest_text ≡ true)

-- any block, fed to a session that keeps a transcript, leads to one that keeps the transcript of what was used
unfoldable pub FollowsLines : Type 0
FollowsLines = (l : Language) (size : ℕ) (t : Transcript) (block : List ℕ) → Follows l size t block (fed l size (keeps l t) t.text block)

-- blocks one after another are one text
unfoldable pub InBlocks : Type 0
InBlocks = (l : Language) (t : Transcript) (xs ys : List ℕ) → transcribed l t (xs ++ ys) ≡ transcribed l (transcribed l t xs) ys
