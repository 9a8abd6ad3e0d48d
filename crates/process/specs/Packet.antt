-- What the packets of the Pup door, and its ticks, do to the process of the door. Words in quotation marks are the change request's (K1).
use Rattle.std.specs.Prelude.{cond, [], ◌∷◌, ℕ}
use Rattle.lists.specs.Word.{low, high}
use Rattle.run_state.specs.declared.Run.TheVariants.{Running}
use Rattle.run_state.specs.RunState.{stopped_or_at_break}
use Rattle.session.specs.declared.Go.{Go}
use Rattle.session.specs.Session.{no_go, new_go, ticked_go, waits_for, answers_go, is_last_tick}
use Rattle.process.specs.declared.record.Process.{Process}
use Rattle.process.specs.Record.{with_run, going}
use Rattle.process.specs.Local.{Local}
use Rattle.process.specs.Request.{on_record, deposited}

-- the Go of a process
abbrev pub go_of : Process → Go
go_of p = p.session.go

-- 'any other granted packet abandons the Go'
abbrev pub without_go : Process → Process
without_go = going no_go

-- a Go of this ID waits; one of the ID that waits already goes on counting 'from the first Go of that ID', 'one of another ID counts afresh'
unfoldable pub go_asked : ℕ → Process → Process
go_asked id p = cond (waits_for id (go_of p)) p (going (new_go id) p)

-- the process resumes; 'If RESUME would then be refused, the Go just ends.'
unfoldable pub go_ended : Process → Process
go_ended p = cond (stopped_or_at_break p.run) (with_run Running (without_go p)) (without_go p)

-- 'The process resumes on a GoReply with the next ID .. after the waiting Go'; any other abandons it
unfoldable pub go_replied : ℕ → Process → Process
go_replied id p = cond (answers_go id (go_of p)) (go_ended p) (without_go p)

-- 'or at the hundredth tenth-second tick'
unfoldable pub ticked : Process → Process
ticked p = cond (go_of p).waits (cond (is_last_tick (go_of p)) (go_ended p) (going (ticked_go (go_of p)) p)) p

-- a Store of a word whose first byte has this address: 'seen bytes 2a and 2a + 1, low first'
unfoldable pub word_stored : ℕ → ℕ → Local → Local
word_stored first v l = on_record without_go (deposited first (low v ∷ high v ∷ []) l)
