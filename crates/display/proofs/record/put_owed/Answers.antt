-- `display::record::put_owed` meets its contract: the name, then the letter. Assumes nothing.
use mathlib.Core.Path.{◌≡◌, ap}
use mathlib.Core.List.{[], ◌∷◌, ◌++◌}
use Prim.Native.Nat.{ℕ, ◌+◌}
use native.Mathlib.Omega.{arith}
use Rattle.lines.proofs.PutLaws.{put_one, put_as, put_then}
use Rattle.display.specs.Line.{owed_name, owed_text}
use Rattle.display.proofs.record.put_owed.Goals as goal

pub returns : goal.returns
unfolding owed_text
returns c =
    let at = c.put-at.result in
    let out1 = c.put-at.new.out in
    let out2 = c.put_mark.new.out in
    let mark = put_one at c.owed_shown.result out1 out2 c.put_mark.ensures in
    let both = put_then c.args.from at (at + 1) owed_name (c.owed_shown.result ∷ []) c.args.out.now out1 out2 c.put-at.ensures mark in
    let same : owed_name ++ (c.owed_shown.result ∷ []) ≡ owed_text c.args.owed = ap (λ (n : ℕ). owed_name ++ (n ∷ [])) c.owed_shown.ensures in
    record {
      put = put_as c.args.from (at + 1) (owed_name ++ (c.owed_shown.result ∷ [])) (owed_text c.args.owed) c.args.out.now out2 same both;
      upper_bound = omega (arith, c.put-at.ensures.0);
    }
