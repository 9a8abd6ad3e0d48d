-- `service::target::target_of` meets its contract: the tests that led to each `return`. Assumes nothing.
use mathlib.Core.Path.{ap}
use native.Mathlib.Omega.{arith}
use borrow.Author.Tests.{eq-eqb, ne_eqb, lt-ltb, le-ltb}
use Rattle.service.specs.declared.target.Target.TheVariants.{Named}
use Rattle.service.specs.At.{target_of}
use Rattle.service.proofs.target.target_of.Goals as goal

pub returns-then-pid-lt8 : goal.returns-then-pid-lt8
unfolding target_of
returns-then-pid-lt8 c = rw (c.if-form.true, lt-ltb c.args.h.pid 8 (omega arith)) (ap Named (omega arith))

pub returns-then-form : goal.returns-then-form
unfolding target_of
returns-then-form c = rw (c.if-form.true, le-ltb c.args.h.pid 8 (omega arith))

pub returns-then-h-eq-CREATE : goal.returns-then-h-eq-CREATE
unfolding target_of
returns-then-h-eq-CREATE c = rw (c.if-form.false, eq-eqb c.args.h.cmd 12 (omega arith))

pub returns : goal.returns
unfolding target_of
returns c = rw (c.if-form.false, ne_eqb c.args.h.cmd 12 (λ creates. omega arith))
