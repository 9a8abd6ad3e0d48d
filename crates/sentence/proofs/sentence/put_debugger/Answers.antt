-- `sentence::sentence::put_debugger` meets its contract, by the op code and the host. Assumes nothing.
use borrow.Author.Tests.{eq-eqb, ne_eqb}
use Rattle.ops.specs.Codes.{END-WATCH}
use Rattle.sentence.specs.Sentence.{debugger_text}
use Rattle.sentence.proofs.sentence.put_debugger.Goals as goal
use Rattle.sentence.proofs.sentence.put_debugger.Goals.{then-h-eq-END_WATCH, else-h-eq-END_WATCH+then-host-eq0, else-h-eq-END_WATCH+else-host-eq0+then-host-h, else-h-eq-END_WATCH+else-host-eq0+else-host-h}

pub returns-clause-put : goal.returns-clause-put
unfolding debugger_text
returns-clause-put c =
    let h = c.args.h in
    let host = c.args.host in
    let put = c.put_filled.ensures.put in
    elim c.if-h-eq-END_WATCH.branch [
      | then-h-eq-END_WATCH w ↦ rw (eq-eqb h.cmd END-WATCH w.if-h-eq-END_WATCH.true) (rw w.pattern-is at put)
      | else-h-eq-END_WATCH+then-host-eq0 w ↦ rw (ne_eqb h.cmd END-WATCH w.if-h-eq-END_WATCH.false, eq-eqb host 0 w.if-host-eq0.true) (rw w.pattern-is at put)
      | else-h-eq-END_WATCH+else-host-eq0+then-host-h w ↦ rw (ne_eqb h.cmd END-WATCH w.if-h-eq-END_WATCH.false, ne_eqb host 0 w.if-host-eq0.false, eq-eqb host h.host w.if-host-h.true) (rw w.pattern-is at put)
      | else-h-eq-END_WATCH+else-host-eq0+else-host-h w ↦ rw (ne_eqb h.cmd END-WATCH w.if-h-eq-END_WATCH.false, ne_eqb host 0 w.if-host-eq0.false, ne_eqb host h.host w.if-host-h.false) (rw w.pattern-is at put)
    ]
