-- `recording::command::begins` meets its contract. The loop's invariant: what is left of the text decides. Assumes nothing.
use mathlib.Core.Path.{refl, ◌∙◌}
use native.Mathlib.Omega.{arith}
use lib.ListN.{drop}
use Rattle.recording.proofs.CommandLaws.{begins-short, begins-next, begins-other, begins-end}
use Rattle.recording.proofs.command.begins.Goals as goal

pub returns-then-line-text : goal.returns-then-line-text
returns-then-line-text c = begins-short c.args.text.now c.args.line.now c.if-line-text.true

pub loop-i-init : goal.loop-i-init
loop-i-init c = (omega arith, refl)

pub returns-then-line-i : goal.returns-then-line-i
returns-then-line-i c =
    begins-other c.args.text.now c.args.line.now c.loop-i.i (omega arith) (omega arith) c.if-line-i.true ∙ c.loop-i.invariant.1

pub loop-i-preserved : goal.loop-i-preserved
loop-i-preserved c =
    (omega arith, begins-next c.args.text.now c.args.line.now c.loop-i.i (omega arith) (omega arith) c.if-line-i.false ∙ c.loop-i.invariant.1)

pub returns : goal.returns
returns c =
    begins-end c.args.text.now (drop c.loop-i.i c.args.line.now) c.loop-i.i (omega arith) ∙ c.loop-i.invariant.1
