-- `packet_door::request::request_of` meets its contract, by the type. Assumes nothing.
use borrow.Author.Tests.{ne_eqb}
use Rattle.packet_door.specs.At.{request_of}
use Rattle.packet_door.proofs.request.request_of.Goals as goal

pub returns-in-128 : goal.returns-in-128
unfolding request_of
returns-in-128 c = rw c.in-128.is

pub returns-in-129 : goal.returns-in-129
unfolding request_of
returns-in-129 c = rw c.in-129.is

pub returns-in-130 : goal.returns-in-130
unfolding request_of
returns-in-130 c = rw c.in-130.is

pub returns-in_default : goal.returns-in_default
unfolding request_of
returns-in_default c =
    rw (ne_eqb _ 128 c.in_default.in_default-own.rest.0.0.1, ne_eqb _ 129 c.in_default.in_default-own.rest.0.1, ne_eqb _ 130 c.in_default.in_default-own.rest.1)
