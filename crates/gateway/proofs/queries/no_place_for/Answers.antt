-- `gateway::queries::no_place_for` meets its contract: the lowest absent process, the used bytes and the size asked for. Assumes nothing.
use mathlib.Core.List.{List}
use Prim.Native.Nat.{ℕ}
use native.Mathlib.Omega.{arith}
use lib.ListN.{replicate, length-replicate}
use Rattle.state.specs.Layout.{capacity}
use Rattle.rules.specs.Tests.{lent}
use Rattle.rules.proofs.StateLaws.{layout_of}
use Rattle.state_bytes.specs.State.{state_of}
use Rattle.gateway.proofs.ReadyLaws.{formed-long, sound-formed, sound-ready}
use Rattle.gateway.proofs.queries.no_place_for.Goals as goal

pub lowest_absent-pid-requires : goal.lowest_absent-pid-requires
lowest_absent-pid-requires c = omega (arith, formed-long c.args.state.now (sound-formed c.args.state.now c.requires))

pub used_bytes-start-requires : goal.used_bytes-start-requires
used_bytes-start-requires c = omega (arith, formed-long c.args.state.now (sound-formed c.args.state.now c.requires))

pub no_place-requires : goal.no_place-requires
no_place-requires c =
    let st = c.args.state.now in
    let empty : List ℕ = replicate capacity 0 in
    rw c.used_bytes-start.ensures (layout_of (lent (state_of st) empty) (sound-ready st empty c.requires (length-replicate {A = ℕ} capacity 0))).fits

pub returns : goal.returns
returns c = rw (c.lowest_absent-pid.ensures, c.used_bytes-start.ensures, c.size_asked.ensures) at c.no_place.ensures
