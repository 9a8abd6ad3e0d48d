-- `why::facts::reason_for` meets its contract, by the number. Assumes nothing.
use borrow.Author.Tests.{ne_eqb}
use Rattle.rules.specs.Why.{reason_for}
use Rattle.why.proofs.facts.reason_for.Goals as goal

pub returns-in-0 : goal.returns-in-0
unfolding reason_for
returns-in-0 c = rw c.in-0.is

pub returns-in-3 : goal.returns-in-3
unfolding reason_for
returns-in-3 c = rw c.in-3.is

pub returns-in-8 : goal.returns-in-8
unfolding reason_for
returns-in-8 c = rw c.in-8.is

pub returns-in-9 : goal.returns-in-9
unfolding reason_for
returns-in-9 c = rw (c.in-9.is, ← c.number.ensures)

pub returns-in-10 : goal.returns-in-10
unfolding reason_for
returns-in-10 c = rw (c.in-10.is, ← c.past.ensures)

pub returns-in-11 : goal.returns-in-11
unfolding reason_for
returns-in-11 c = rw (c.in-11.is, ← c.full_of.ensures)

pub returns-in-15 : goal.returns-in-15
unfolding reason_for
returns-in-15 c = rw c.in-15.is

pub returns-in-16 : goal.returns-in-16
unfolding reason_for
returns-in-16 c = rw (c.in-16.is, ← c.who_set.ensures)

pub returns-in_default : goal.returns-in_default
unfolding reason_for
returns-in_default c =
    rw (ne_eqb _ 0 c.in_default.in_default-own.rest.0.0.0.0.0.0.0.1, ne_eqb _ 3 c.in_default.in_default-own.rest.0.0.0.0.0.0.1, ne_eqb _ 8 c.in_default.in_default-own.rest.0.0.0.0.0.1, ne_eqb _ 9 c.in_default.in_default-own.rest.0.0.0.0.1, ne_eqb _ 10 c.in_default.in_default-own.rest.0.0.0.1, ne_eqb _ 11 c.in_default.in_default-own.rest.0.0.1, ne_eqb _ 15 c.in_default.in_default-own.rest.0.1, ne_eqb _ 16 c.in_default.in_default-own.rest.1)
