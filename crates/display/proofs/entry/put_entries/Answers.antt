-- `display::entry::put_entries` meets its contract. The loop's invariant: what was passed is put, in 36 bytes each at most. Assumes nothing.
use mathlib.Core.Path.{refl}
use native.Mathlib.Omega.{arith}
use borrow.Author.Rules.{rules}
use Rattle.lines.proofs.PutLaws.{put-more, put-joined-none, put-joined-all}
use Rattle.display.specs.Line.{entry_text}
use Rattle.breakpoints.specs.Entry.{free}
use Rattle.display.proofs.entry.put_entries.Goals as goal

pub loop-b-init : goal.loop-b-init
loop-b-init c = (omega arith, refl, put-joined-none entry_text c.args.from c.args.out.now)

pub loop-b-preserved : goal.loop-b-preserved
loop-b-preserved c = (
  omega (arith, c.put_entry-at.ensures.upper_bound),
  search rules,
  put-more entry_text free c.args.breaks.now c.loop-b.b-index c.args.from c.loop-b.at c.put_entry-at.result c.args.out.now c.loop-b.out c.put_entry-at.new.out (omega arith) c.loop-b.invariant.2 c.put_entry-at.ensures.put,
)

pub returns : goal.returns
returns c =
    record {
      put = put-joined-all entry_text c.args.breaks.now c.loop-b.b-index c.args.from c.loop-b.at c.args.out.now c.loop-b.out (omega arith) c.loop-b.invariant.2;
      upper_bound = omega arith;
    }
