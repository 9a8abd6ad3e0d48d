-- What a line does, and how a function that did it is described.
use Rattle.std.specs.Prelude.{◌≡◌, List, ℕ, ◌≤◌, length}
use Rattle.lists.specs.Buffer.{overlay}
use Rattle.state.specs.Layout.{capacity}
use Rattle.format.specs.Sizes.{message_bytes}
use Rattle.fields.specs.Written.{line_bytes}

-- the bytes of the lent memory
abbrev pub memory_size : ℕ
memory_size = capacity

-- the bytes of a buffer for a reply or a notice, and of the longest message
abbrev pub message_size : ℕ
message_size = message_bytes

-- the bytes of a buffer for a text line, and of the longest text line
abbrev pub line_size : ℕ
line_size = line_bytes

-- no line prints more bytes
abbrev pub longest_text : ℕ
longest_text = 16384

-- what a line does: the bytes of the state and the memory after it, and what it prints
pub record Effect : Type 0 where
  pub state : List ℕ
  pub memory : List ℕ
  pub text : List ℕ

-- an effect by its three parts
abbrev pub effect : List ℕ → List ℕ → List ℕ → Effect
effect s m text = record { state = s; memory = m; text = text }

-- a text was put at the start of a buffer, where it fits: its length, and the buffer after it
pub record Prints (text : List ℕ) (len : ℕ) (before after : List ℕ) : Type 0 where
  pub size : len ≡ length text
  pub fits : len ≤ length before
  pub laid : after ≡ overlay text before

-- a function did this: the state s and the memory m that it left, and the text at the start of a buffer
pub record Does (e : Effect) (len : ℕ) (s m before after : List ℕ) : Type 0 where
  pub state : s ≡ e.state
  pub memory : m ≡ e.memory
  pub text : Prints e.text len before after
