-- `lines::print::put_pairs` meets its contract, by whether there are bytes. Assumes nothing.
use mathlib.Core.Path.{◌≡◌, refl, sym, ◌∙◌}
use mathlib.Core.List.{[], ◌∷◌}
use Prim.Native.Nat.{◌≤◌}
use native.Mathlib.Omega.{arith}
use borrow.Author.Tests.{eqb-true, eqb-false}
use lib.ListN.{length}
use Rattle.lists.proofs.Buffer.{sets-overlay}
use Rattle.lines.proofs.PutLaws.{line-none, length-line, line-laid}
use Rattle.lines.proofs.print.put_pairs.Goals as goal

pub returns-then-is_empty : goal.returns-then-is_empty
returns-then-is_empty c =
    rw (line-none c.args.bytes.now (eqb-true _ _ (sym c.is_empty.ensures ∙ c.if-is_empty.true))) record {
      value = refl;
      upper_bound = omega (arith, c.requires);
      out_after = sets-overlay (10 ∷ []) c.args.out.now (omega (arith, c.requires));
    }

pub returns : goal.returns
returns c =
    let more : length c.args.bytes.now ≡ 0 → ⊥ = eqb-false _ _ (sym c.is_empty.ensures ∙ c.if-is_empty.false) in
    let some : 1 ≤ length c.args.bytes.now = omega arith in record {
      value = length-line c.args.bytes.now c.args.out.now c.put_parted.new.out some c.put_parted.ensures c.requires;
      upper_bound = omega (arith, c.requires, some);
      out_after = line-laid c.args.bytes.now c.args.out.now c.put_parted.new.out some c.put_parted.ensures c.requires;
    }
