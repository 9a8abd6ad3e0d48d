-- `sentence::pattern::put_filled` meets its contract. The loop's invariant: what was passed is put, and there is room for the rest. Assumes nothing.
use mathlib.Core.Path.{refl}
use Prim.Native.Nat.{◌<◌}
use native.Mathlib.Omega.{arith}
use borrow.Author.Rules.{rules}
use lib.ListN.{length}
use Rattle.lines.proofs.PutLaws.{put-more, put-joined-none, put-joined-all}
use Rattle.sentence.specs.Pattern.{piece_of}
use Rattle.sentence.proofs.PatternLaws.{room_next}
use Rattle.sentence.proofs.pattern.put_filled.Goals as goal

pub loop-c-init : goal.loop-c-init
loop-c-init c = (refl, omega arith, put-joined-none (piece_of c.args.h c.args.n) c.args.from c.args.out.now)

pub put_piece-at-requires : goal.put_piece-at-requires
put_piece-at-requires c = omega (arith, room_next c.args.pattern.now c.loop-c.c-index (omega arith))

pub loop-c-preserved : goal.loop-c-preserved
loop-c-preserved c =
    let pattern = c.args.pattern.now in
    let i = c.loop-c.c-index in
    let low : i < length pattern = omega arith in (
      search rules,
      omega (arith, room_next pattern i low),
      put-more (piece_of c.args.h c.args.n) 0 pattern i c.args.from c.loop-c.at c.put_piece-at.result c.args.out.now c.loop-c.out c.put_piece-at.new.out low c.loop-c.invariant.2 c.put_piece-at.ensures.put,
    )

pub returns : goal.returns
returns c =
    record {
      put = put-joined-all (piece_of c.args.h c.args.n) c.args.pattern.now c.loop-c.c-index c.args.from c.loop-c.at c.args.out.now c.loop-c.out (omega arith) c.loop-c.invariant.2;
      upper_bound = omega arith;
    }
