-- The gateway's answers pass every test of a writer, so that it writes them with none: to every request that was read there is a reply and a
-- CAN'T, and a notice for every report that passes test 14.
use Rattle.std.specs.Prelude.{◌≡◌, true, List, [], ℕ, ◌<◌, ◌≤◌, length}
use Rattle.lists.specs.Word.{low_first}
use Rattle.format.specs.declared.header.Header.{Header}
use Rattle.format.specs.Outcome.{reading}
use Rattle.ops.specs.declared.table.Carried.TheVariants.{Nothing, Counted}
use Rattle.ops.specs.Table.{op, replies, request_form, answer_form}
use Rattle.message.specs.Exchange.{writes, sends, reads}
use Rattle.format.specs.Answer.{cant_of, created_of, notice_of}
use Rattle.format.specs.Sizes.{message_bytes, string_bytes}

-- what the gateway sends in answer to a request with these fields is what a writer with all its tests writes, in a buffer with room
pub record Answers (h : Header) (buffer : List ℕ) : Type 0 where
  pub reply : (replies (op h.cmd)).carried ≡ Nothing → writes answer_form h [] buffer ≡ sends h [] buffer
  pub created : (pid : ℕ) → (replies (op h.cmd)).pid ≡ true → (replies (op h.cmd)).carried ≡ Nothing
      → writes answer_form (created_of h pid) [] buffer ≡ sends (created_of h pid) [] buffer
  pub contents : (string : List ℕ) → (replies (op h.cmd)).carried ≡ Counted → length string ≡ h.arg2 → h.arg2 ≤ string_bytes
      → writes answer_form h string buffer ≡ sends h string buffer
  pub cant : (h.cmd ≡ 0 → ⊥) → writes answer_form (cant_of h) [] buffer ≡ sends (cant_of h) [] buffer

-- the answers to every request that was read, and the notice of every report of a known kind, pass every test
pub record AnswersGranted : Type 0 where
  pub answers : (m : List ℕ) (h : Header) (buffer : List ℕ) → reads request_form m ≡ reading 0 h → message_bytes ≤ length buffer → Answers h buffer
  pub notice : (host kind pid reason : ℕ) (vector buffer : List ℕ) → (host ≡ 0 → ⊥) → kind < 4 → ((kind ≡ 0 → ⊥) → reason ≡ 0)
      → length vector ≡ 9 → message_bytes ≤ length buffer → writes answer_form (notice_of host kind pid reason) (low_first vector) buffer ≡ sends (notice_of host kind pid reason) (low_first vector) buffer
