-- `display::record::put_words` meets its contract. The loop's invariant: what was passed is put, in 6 bytes each at most. Assumes nothing.
use mathlib.Core.Path.{refl}
use native.Mathlib.Omega.{arith}
use borrow.Author.Rules.{rules}
use Rattle.lines.proofs.PutLaws.{put-more, put-joined-none, put-joined-all}
use Rattle.display.specs.Line.{word_text}
use Rattle.display.proofs.record.put_words.Goals as goal

pub loop-word-init : goal.loop-word-init
loop-word-init c = (omega arith, refl, put-joined-none word_text c.args.from c.args.out.now)

pub loop-word-preserved : goal.loop-word-preserved
loop-word-preserved c = (
  omega (arith, c.put_field-at.ensures.upper_bound),
  search rules,
  put-more word_text 0 c.args.words c.loop-word.word-index c.args.from c.loop-word.at c.put_field-at.result c.args.out.now c.loop-word.out c.put_field-at.new.out (omega arith) c.loop-word.invariant.2 c.put_field-at.ensures.put,
)

pub returns : goal.returns
returns c =
    record {
      put = put-joined-all word_text c.args.words c.loop-word.word-index c.args.from c.loop-word.at c.args.out.now c.loop-word.out (omega arith) c.loop-word.invariant.2;
      upper_bound = omega arith;
    }
