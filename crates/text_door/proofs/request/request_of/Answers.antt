-- `text_door::request::request_of` meets its contract, by the letter. Assumes nothing.
use borrow.Author.Tests.{ne_eqb}
use Rattle.text_door.specs.At.{request_of}
use Rattle.text_door.proofs.request.request_of.Goals as goal

pub returns-in-105 : goal.returns-in-105
unfolding request_of
returns-in-105 c = rw c.in-105.is

pub returns-in-100 : goal.returns-in-100
unfolding request_of
returns-in-100 c = rw c.in-100.is

pub returns-in-73 : goal.returns-in-73
unfolding request_of
returns-in-73 c = rw c.in-73.is

pub returns-in-68 : goal.returns-in-68
unfolding request_of
returns-in-68 c = rw c.in-68.is

pub returns-in-114 : goal.returns-in-114
unfolding request_of
returns-in-114 c = rw c.in-114.is

pub returns-in-82 : goal.returns-in-82
unfolding request_of
returns-in-82 c = rw c.in-82.is

pub returns-in-99 : goal.returns-in-99
unfolding request_of
returns-in-99 c = rw c.in-99.is

pub returns-in_default : goal.returns-in_default
unfolding request_of
returns-in_default c =
    rw (ne_eqb _ 105 c.in_default.in_default-own.rest.0.0.0.0.0.0.1, ne_eqb _ 100 c.in_default.in_default-own.rest.0.0.0.0.0.1, ne_eqb _ 73 c.in_default.in_default-own.rest.0.0.0.0.1, ne_eqb _ 68 c.in_default.in_default-own.rest.0.0.0.1, ne_eqb _ 114 c.in_default.in_default-own.rest.0.0.1, ne_eqb _ 82 c.in_default.in_default-own.rest.0.1, ne_eqb _ 99 c.in_default.in_default-own.rest.1)
