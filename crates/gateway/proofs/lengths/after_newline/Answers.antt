-- `gateway::lengths::after_newline` meets its contract. The loop's invariant: the first newline is the first of what was not passed. Assumes nothing.
use mathlib.Core.Path.{ap}
use Prim.Native.Nat.{◌≤◌}
use native.Mathlib.Omega.{arith}
use borrow.Author.Tests.{eq-eqb, ne_eqb}
use lib.ListN.{length, drop_of_length-le}
use Rattle.lists.specs.First.{first}
use Rattle.lists.proofs.First.{first-here, first_next}
use Rattle.gateway.specs.Lengths.{after_newline}
use Rattle.gateway.proofs.lengths.after_newline.Invariants.{newline}
use Rattle.gateway.proofs.lengths.after_newline.Goals as goal

pub loop-i-init : goal.loop-i-init
loop-i-init c = (omega arith, omega arith)

pub returns-then-buffer-i-eq10 : goal.returns-then-buffer-i-eq10
unfolding after_newline
returns-then-buffer-i-eq10 c =
    let b = c.args.buffer.now in
    let i = c.loop-i.i in
    let e = first-here newline b i 0 (omega arith) (eq-eqb _ 10 c.if-buffer-i-eq10.true) in
    omega arith

pub loop-i-preserved : goal.loop-i-preserved
loop-i-preserved c =
    let b = c.args.buffer.now in
    let i = c.loop-i.i in
    let e = first_next newline b i 0 (omega arith) (ne_eqb _ 10 c.if-buffer-i-eq10.false) in
    (omega arith, omega arith)

pub returns : goal.returns
unfolding after_newline
returns c =
    let b = c.args.buffer.now in
    let past : length b ≤ c.loop-i.i = omega arith in
    let e = ap (first newline) (drop_of_length-le b past) in
    omega arith
