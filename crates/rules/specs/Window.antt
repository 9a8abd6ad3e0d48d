-- The state seen one process at a time: a process with its bytes is taken out, and put back. Words in quotation marks are
-- document 01's and those of change requests (K9, K7).
use Rattle.std.specs.Prelude.{cond, List, [], ℕ}
use Rattle.format.specs.Outcome.{Outcome}
use Rattle.process.specs.Local.{Local, local}
use Rattle.state.specs.Records.{start_of, with_process, with_start}
use Rattle.state.specs.Layout.{extent_at, used, slot, with_slot, closed, starts_without}
use Rattle.rules.specs.Tests.{State, record_of}

-- the output buffers lent with a call: its own and, with a report, the one for a text line
pub record Buffers : Type 0 where
  pub own : List ℕ
  pub line : List ℕ

-- 'An answer is all that a call returns but the state .., and every byte of its output buffers after it.'; of a report 'both lengths told'
pub record Answer : Type 0 where
  pub outcome : Outcome
  pub buffer : List ℕ
  pub line_length : ℕ
  pub line : List ℕ

-- the answer of a call that has no line buffer
abbrev pub plain_answer : Outcome → List ℕ → Answer
plain_answer o buffer = record { outcome = o; buffer = buffer; line_length = 0; line = [] }

-- an answer, and the state after it
pub record StepResult : Type 0 where
  pub answer : Answer
  pub after : State

-- a process with its bytes
abbrev pub local_of : State → ℕ → Local
local_of s p = local (record_of s p) (slot (start_of s.records p) (extent_at s.records p) s.memory)

-- process p with another record and other bytes, where it lies
unfoldable pub put_in_place : ℕ → Local → State → State
put_in_place p l s = record {
  records = with_process p l.process s.records;
  memory = with_slot (start_of s.records p) l.bytes s.memory;
}

-- 'a new one last': it begins where the free bytes did
unfoldable pub put_last : ℕ → Local → State → State
put_last p l s = record {
  records = with_start p (used s.records) (with_process p l.process s.records);
  memory = with_slot (used s.records) l.bytes s.memory;
}

-- 'at a DESTROY those above move down'; 'DESTROY zeroes the bytes it adds to the free end'
unfoldable pub taken_out : ℕ → Local → State → State
taken_out p l s = record {
  records = record { processes = (with_process p l.process s.records).processes; starts = starts_without p s.records };
  memory = closed (start_of s.records p) (extent_at s.records p) (used s.records) s.memory;
}

-- the state with another process p: one that is there stays where it is, or goes; one that is not there comes, or is absent still
unfoldable pub put : ℕ → Local → State → State
put p l s =
    cond (record_of s p).there (cond l.process.there (put_in_place p l s) (taken_out p l s))
    (cond l.process.there (put_last p l s) (put_in_place p l s))
