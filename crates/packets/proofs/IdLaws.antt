-- Laws of the IDs. Assumes nothing.
use mathlib.Core.Path.{refl}
use native.Mathlib.Omega.{arith}
use Rattle.packets.specs.Id.{next_id}
use Rattle.packets.specs.Theorems.{IdsFollow}

pub ids-follow : IdsFollow
unfolding next_id
ids-follow = record {
  one-greater = λ id h. omega arith;
  wraps = refl;
  fits = λ id. omega arith;
  another = λ id h e. omega arith;
  one-go = λ a b h k e. omega arith;
}
