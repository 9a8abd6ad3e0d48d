-- The IDs of packets.
use Rattle.std.specs.Prelude.{ℕ, ◌+◌, ◌%◌}

-- 'the next ID (wrapping at 32 bits)'
unfoldable pub next_id : ℕ → ℕ
next_id id = (id + 1) % 4294967296
