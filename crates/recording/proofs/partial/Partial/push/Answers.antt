-- `recording::partial::Partial::push` meets its contract, by whether there is room. Assumes nothing.
use Rattle.recording.proofs.SessionLaws.{typed-full, typed-kept}
use Rattle.recording.proofs.partial.Partial.push.Goals as goal

pub returns-then-line-len : goal.returns-then-line-len
returns-then-line-len c =
    typed-full c.args.first c.args.c c.args.self.len c.args.self.size c.one_more-size.result c.args.self.phase _ c.args.line.now c.requires c.one_more-size.ensures c.phase_after-phase.ensures c.if-line-len.true

pub returns : goal.returns
returns c =
    typed-kept c.args.first c.args.c c.args.self.len c.args.self.size c.one_more-size.result c.args.self.phase _ c.args.line.now c.requires c.one_more-size.ensures c.phase_after-phase.ensures c.if-line-len.false
