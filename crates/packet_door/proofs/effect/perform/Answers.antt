-- `packet_door::effect::perform` meets its contract, by what is asked for. Assumes nothing.
use mathlib.Core.Path.{refl}
use native.Mathlib.Omega.{arith}
use Rattle.service.proofs.EffectLaws.{whole}
use Rattle.packet_door.specs.At.{row_of, fewest_of}
use Rattle.packet_door.proofs.RowLaws.{inside-within}
use Rattle.packet_door.proofs.effect.perform.Goals as goal

pub store-requires : goal.store-requires
unfolding row_of fewest_of
store-requires c =
    let enough = rw c.in-Store.is at c.requires.passed.enough in
    let inside = inside-within c.args.words.now c.args.process.size (rw c.in-Store.is at c.requires.passed.range) in
    record {
      tested = c.requires.present.tested;
      in_bounds = enough;
      words_in_bounds = omega (arith, inside, whole c.args.process c.args.bytes.now c.requires.present);
    }

pub returns-in-Store : goal.returns-in-Store
unfolding row_of
returns-in-Store c = rw c.in-Store.is c.store.ensures

pub returns-in-Fetch : goal.returns-in-Fetch
unfolding row_of
returns-in-Fetch c = rw c.in-Fetch.is record { value = c.without_go.ensures; bytes_after = refl }

pub returns-in-Go : goal.returns-in-Go
unfolding row_of
returns-in-Go c = rw c.in-Go.is record { value = c.ask_go.ensures; bytes_after = refl }

pub returns-in-GoReply : goal.returns-in-GoReply
unfolding row_of
returns-in-GoReply c = rw c.in-GoReply.is record { value = c.reply_go.ensures; bytes_after = refl }
