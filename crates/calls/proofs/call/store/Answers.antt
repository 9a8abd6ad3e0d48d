-- `calls::call::store` meets its contract, by whether memory reaches so far. Assumes nothing.
use mathlib.Core.Path.{sym}
use lib.Seq.{set_out}
use Rattle.calls.proofs.call.store.Goals as goal

pub returns-else-at-memory : goal.returns-else-at-memory
returns-else-at-memory c = sym (set_out c.args.memory.now c.args.at c.args.byte c.if-at-memory.false)
