-- The sizes of a message, and the largest size that a message can ask for.
use Rattle.std.specs.Prelude.{ℕ}

-- the ten bytes that every message starts with
abbrev pub header_bytes : ℕ
header_bytes = 10

-- 'a string of 0 to 256 bytes'
abbrev pub string_bytes : ℕ
string_bytes = 256

-- the longest message, and so the room that every output buffer needs
abbrev pub message_bytes : ℕ
message_bytes = 266

-- 'an even size in ARG1, up to 4,096'
abbrev pub largest_size : ℕ
largest_size = 4096
