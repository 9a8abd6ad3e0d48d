-- `display::record::put_go` meets its contract: the name, then a dash or the Go. Assumes nothing.
use mathlib.Core.Path.{◌≡◌}
use mathlib.Core.List.{[], ◌∷◌, ◌++◌}
use Prim.Native.Nat.{◌+◌}
use native.Mathlib.Omega.{arith}
use Rattle.lines.proofs.PutLaws.{put_one, put_as, put_then}
use Rattle.display.specs.Line.{go_name, waiting_text, go_shown, go_text}
use Rattle.display.proofs.record.put_go.Goals as goal

pub returns-else-go : goal.returns-else-go
unfolding go_text go_shown
returns-else-go c =
    let at = c.put-at.result in
    let out1 = c.put-at.new.out in
    let out2 = c.put_mark.new.out in
    let dash = put_one at 45 out1 out2 c.put_mark.ensures in
    let both = put_then c.args.from at (at + 1) go_name (45 ∷ []) c.args.out.now out1 out2 c.put-at.ensures dash in
    let same : go_name ++ (45 ∷ []) ≡ go_text c.args.go = rw c.if-go.false in
    record {
      put = put_as c.args.from (at + 1) (go_name ++ (45 ∷ [])) (go_text c.args.go) c.args.out.now out2 same both;
      upper_bound = omega (arith, c.put-at.ensures.0);
    }

pub returns-then-go : goal.returns-then-go
unfolding go_text go_shown
returns-then-go c =
    let at = c.put-at.result in
    let out1 = c.put-at.new.out in
    let out2 = c.put_waiting.new.out in
    let both = put_then c.args.from at c.put_waiting.result go_name (waiting_text c.args.go) c.args.out.now out1 out2 c.put-at.ensures c.put_waiting.ensures.put in
    let same : go_name ++ waiting_text c.args.go ≡ go_text c.args.go = rw c.if-go.true in
    record {
      put = put_as c.args.from c.put_waiting.result (go_name ++ waiting_text c.args.go) (go_text c.args.go) c.args.out.now out2 same both;
      upper_bound = omega (arith, c.put-at.ensures.0, c.put_waiting.ensures.upper_bound);
    }
