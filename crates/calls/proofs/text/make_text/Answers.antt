-- `calls::text::make_text` meets its contract: what is put is the answer of the call. Assumes nothing.
use native.Mathlib.Omega.{arith}
use lib.ListN.{length-take}
use Rattle.rules.specs.Step.{text_line}
use Rattle.gateway.specs.Called.{call_on, Did}
use Rattle.calls.specs.Meaning.{text_made}
use Rattle.calls.proofs.ShownLaws.{does-text}
use Rattle.calls.proofs.text.make_text.Goals as goal

pub returns : goal.returns
unfolding text_made Did
returns c =
    let line = c.text_line-outcome.new.out in
    rw (← c.zero_line-line.ensures)
    (does-text c.args.shown c.text_line-outcome.result c.text_line-outcome.new.state c.text_line-outcome.new.memory line (call_on c.args.state.now c.args.memory.now (text_line c.args.text.now c.zero_line-line.result)) c.text_line-outcome.ensures c.number_of.result c.line_length.result c.at_most-n.result c.put_text.result c.args.out.now _
    (omega arith) (omega (arith, length-take c.at_most-n.result line, c.requires))
    c.number_of.ensures c.line_length.ensures c.at_most-n.ensures.0 c.put_text.ensures)
