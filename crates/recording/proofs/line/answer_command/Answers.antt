-- `recording::line::answer_command` meets its contract, by the word of the line. Assumes nothing.
use Rattle.recording.specs.Line.{command_effect}
use Rattle.recording.proofs.LineLaws.{rest-of-line}
use Rattle.recording.proofs.line.answer_command.Goals as goal

pub returns-in-Start : goal.returns-in-Start
unfolding command_effect
returns-in-Start c = rw c.in-Start.is c.answer_start.ensures

pub returns-in-Request : goal.returns-in-Request
unfolding command_effect
returns-in-Request c = rw c.in-Request.is (rw (rest-of-line 8 _ c.args.line.now c.at_most-request.ensures.0) at c.answer_request.ensures)

pub returns-in-Report : goal.returns-in-Report
unfolding command_effect
returns-in-Report c = rw c.in-Report.is c.answer_report.ensures

pub returns-in-Store : goal.returns-in-Store
unfolding command_effect
returns-in-Store c = rw c.in-Store.is c.answer_store.ensures

pub returns-in-Memory : goal.returns-in-Memory
unfolding command_effect
returns-in-Memory c = rw c.in-Memory.is c.answer_memory.ensures

pub returns-in-Whole : goal.returns-in-Whole
unfolding command_effect
returns-in-Whole c = rw c.in-Whole.is c.answer_whole.ensures

pub returns-in-Process : goal.returns-in-Process
unfolding command_effect
returns-in-Process c = rw c.in-Process.is c.answer_process.ensures

pub returns-in-Packet : goal.returns-in-Packet
unfolding command_effect
returns-in-Packet c = rw c.in-Packet.is c.answer_packet.ensures

pub returns-in-Tick : goal.returns-in-Tick
unfolding command_effect
returns-in-Tick c = rw c.in-Tick.is c.answer_tick.ensures

pub returns-in-Text : goal.returns-in-Text
unfolding command_effect
returns-in-Text c = rw c.in-Text.is (rw (rest-of-line 5 _ c.args.line.now c.at_most-text.ensures.0) at c.answer_text.ensures)

pub returns-in-Raw : goal.returns-in-Raw
unfolding command_effect
returns-in-Raw c = rw c.in-Raw.is (rw (rest-of-line 4 _ c.args.line.now c.at_most-short.ensures.0) at c.answer_raw.ensures)

pub returns-in-Why : goal.returns-in-Why
unfolding command_effect
returns-in-Why c = rw c.in-Why.is (rw (rest-of-line 4 _ c.args.line.now c.at_most-short.ensures.0, c.pairs_in.ensures) at c.answer_why.ensures)

pub returns-in-Unknown : goal.returns-in-Unknown
unfolding command_effect
returns-in-Unknown c = rw c.in-Unknown.is c.answer_unknown.ensures
