-- `state_bytes::starts::read_start` meets its contract: two bytes. Assumes nothing.
use mathlib.Core.Path.{◌∙◌}
use Rattle.state_bytes.proofs.StartLaws.{read-start-at}
use Rattle.state_bytes.proofs.starts.read_start.Goals as goal

pub returns : goal.returns
returns c =
    c.word_of.ensures ∙ read-start-at c.args.state.now c.args.p c.start_at-at.result c.requires.p_lt_process_count c.start_at-at.ensures
