-- `state_bytes::place::lowest_absent` meets its contract. The loop's invariant: the first process that is not there is the first among those not passed. Assumes nothing.
use mathlib.Core.Path.{ap}
use Prim.Native.Nat.{◌≤◌}
use native.Mathlib.Omega.{arith}
use lib.ListN.{length, drop_of_length-le}
use Rattle.lists.specs.First.{first}
use Rattle.lists.proofs.First.{first-here, first_next}
use Rattle.state.specs.Records.{nobody, lowest_absent}
use Rattle.state_bytes.specs.State.{state_of}
use Rattle.state_bytes.proofs.StateLaws.{eight-at, absent-at, present-at}
use Rattle.state_bytes.proofs.place.lowest_absent.Invariants.{away}
use Rattle.state_bytes.proofs.place.lowest_absent.Goals as goal

pub loop-p-init : goal.loop-p-init
loop-p-init c = (omega arith, omega arith)

pub bounds-state-there : goal.bounds-state-there
bounds-state-there c = omega (arith, c.requires)

pub returns-then-state-there-eq0 : goal.returns-then-state-there-eq0
unfolding lowest_absent
returns-then-state-there-eq0 c =
    let m = c.args.state.now in
    let k = c.loop-p.p in
    let e = first-here away (state_of m).processes k nobody (omega (arith, eight-at m)) (absent-at m k c.loop-p.there (omega arith) c.loop-p.invariant.0 (omega (arith, c.if-state-there-eq0.true))) in
    omega arith

pub loop-p-preserved : goal.loop-p-preserved
loop-p-preserved c =
    let m = c.args.state.now in
    let k = c.loop-p.p in
    let e = first_next away (state_of m).processes k nobody (omega (arith, eight-at m)) (present-at m k c.loop-p.there (omega arith) c.loop-p.invariant.0 (λ z. c.if-state-there-eq0.false (omega (arith, z)))) in
    (omega arith, omega arith)

pub returns : goal.returns
unfolding lowest_absent
returns c =
    let m = c.args.state.now in
    let past : length (state_of m).processes ≤ c.loop-p.p = omega (arith, eight-at m) in
    let e = ap (first away) (drop_of_length-le (state_of m).processes past) in
    omega arith
