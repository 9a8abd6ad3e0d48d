-- `sentence::name::put_name` meets its contract, by whether the number has a name. Assumes nothing.
use mathlib.Core.Path.{◌≡◌, ap, ◌∙◌}
use mathlib.Core.List.{List}
use Prim.Native.Nat.{ℕ}
use native.Mathlib.Omega.{arith}
use lib.ListN.{length}
use Rattle.std.specs.Borrow.{Bor}
use Rattle.lines.proofs.PutLaws.{put_as, put_then}
use Rattle.decimal.specs.Numeral.{numeral}
use Rattle.sentence.specs.Name.{name_at, named_in}
use Rattle.sentence.proofs.NameLaws.{name-here}
use Rattle.sentence.proofs.name.put_name.Goals as goal

pub put-requires : goal.put-requires
put-requires c =
    let look = c.in-Some.ensures.lookup in
    let same : c.as_bytes.result.now ≡ name_at c.args.names.now c.args.number = c.as_bytes.ensures.value ∙ ap (λ (b : Bor (List ℕ)). b.now) look.1 ∙ name-here c.args.names.now c.args.number _ look.3.0 in
    omega (arith, ap length same, c.requires.by_index c.args.number)

pub returns-in-Some : goal.returns-in-Some
unfolding named_in
returns-in-Some c =
    let look = c.in-Some.ensures.lookup in
    let same : c.as_bytes.result.now ≡ name_at c.args.names.now c.args.number = c.as_bytes.ensures.value ∙ ap (λ (b : Bor (List ℕ)). b.now) look.1 ∙ name-here c.args.names.now c.args.number _ look.3.0 in
    record {
      put = rw (← look.0) (put_as c.args.from c.put.result c.as_bytes.result.now (name_at c.args.names.now c.args.number) c.args.out.now c.put.new.out same c.put.ensures);
      upper_bound = omega (arith, ap length same, c.requires.by_index c.args.number, c.put.ensures.0);
    }

pub returns-in-None-clause-put : goal.returns-in-None-clause-put
unfolding named_in
returns-in-None-clause-put c =
    let look = c.in-None.ensures.lookup in
    let out1 = c.put-at.new.out in
    let other = put_as c.args.from c.put-at.result c.as_bytes-in-None.result.now c.args.other.now c.args.out.now out1 c.as_bytes-in-None.ensures.value c.put-at.ensures in
    rw (← look.0) (put_then c.args.from c.put-at.result c.put_number.result c.args.other.now (numeral c.args.number) c.args.out.now out1 c.put_number.new.out other c.put_number.ensures.put)
