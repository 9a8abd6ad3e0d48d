-- `gateway::requests::answer_new` meets its contract: CREATE of the lowest absent process after the last one, or refused. Assumes nothing.
use mathlib.Core.Path.{sym, ◌∙◌}
use mathlib.Core.Bool.{not}
use Prim.Native.Nat.{◌+◌, ◌-◌, ◌≤◌}
use native.Mathlib.Omega.{arith}
use borrow.Author.Tests.{ltb-true, ltb-false, not-false}
use lib.Dec.{ltb}
use Rattle.lists.specs.Buffer.{Bytes}
use Rattle.lists.proofs.Bool.{||-left, ||-right}
use Rattle.state.specs.Layout.{capacity}
use Rattle.rules.specs.Tests.{lent}
use Rattle.rules.proofs.StateLaws.{layout_of}
use Rattle.state_bytes.specs.State.{state_of}
use Rattle.gateway.proofs.AskedLaws.{asked-full}
use Rattle.gateway.proofs.LentLaws.{request-fits}
use Rattle.gateway.proofs.FinishLaws.{finished-unmoved}
use Rattle.gateway.proofs.requests.answer_new.Goals as goal

pub lowest_absent-pid-requires : goal.lowest_absent-pid-requires
lowest_absent-pid-requires c =
    omega (arith, (request-fits c.args.state.now c.args.memory.now c.args.reply.now c.requires.reply_value).long)

pub used_bytes-start-requires : goal.used_bytes-start-requires
used_bytes-start-requires c =
    omega (arith, (request-fits c.args.state.now c.args.memory.now c.args.reply.now c.requires.reply_value).long)

pub no_place-requires : goal.no_place-requires
no_place-requires c =
    let st = lent (state_of c.args.state.now) c.args.memory.now in
    rw c.used_bytes-start.ensures (layout_of st (request-fits c.args.state.now c.args.memory.now c.args.reply.now c.requires.reply_value).ready).fits

pub refuse-requires : goal.refuse-requires
refuse-requires c =
    record {
      fact = λ e. omega (arith, e);
      message_bytes_in_bounds = (request-fits c.args.state.now c.args.memory.now c.args.reply.now c.requires.reply_value).room;
    }

pub returns-then-no_place : goal.returns-then-no_place
returns-then-no_place c =
    λ string.
    let st = lent (state_of c.args.state.now) c.args.memory.now in
    let bytes : Bytes c.args.state.now = λ i. omega (arith, c.slice_known-1.given i) in
    let formed = (request-fits c.args.state.now c.args.memory.now c.args.reply.now c.requires.reply_value).formed in
    let full = rw (c.lowest_absent-pid.ensures, c.used_bytes-start.ensures, c.size_asked-size.ensures) at c.no_place.ensures in
    finished-unmoved c.args.state.now c.args.memory.now bytes formed _ _ c.refuse.ensures _ (asked-full c.args.h string c.args.reply.now st (c.requires.cmd_value.0, c.requires.cmd_value.1) (sym full ∙ c.if-no_place.true))

pub create_last-requires : goal.create_last-requires
create_last-requires c =
    let st = lent (state_of c.args.state.now) c.args.memory.now in
    let laid = layout_of st (request-fits c.args.state.now c.args.memory.now c.args.reply.now c.requires.reply_value).ready in
    let free = sym c.no_place.ensures ∙ c.if-no_place.false in
    let low = ltb-true c.lowest_absent-pid.result 8 (not-false _ (||-left (not (ltb c.lowest_absent-pid.result 8)) (ltb (capacity - c.used_bytes-start.result) c.size_asked-size.result) free)) in
    let room = ltb-false (capacity - c.used_bytes-start.result) c.size_asked-size.result (||-right (not (ltb c.lowest_absent-pid.result 8)) (ltb (capacity - c.used_bytes-start.result) c.size_asked-size.result) free) in
    let fits : c.used_bytes-start.result + c.size_asked-size.result ≤ capacity = omega (arith, room, c.used_bytes-start.ensures, laid.fits) in
    record {
      cmd_value = (c.requires.cmd_value.0, c.requires.cmd_value.1);
      reply_value = c.requires.reply_value;
      pid_value = (c.lowest_absent-pid.ensures, c.size_asked-size.ensures, c.used_bytes-start.ensures);
      pid_bound = (low, omega (arith, c.size_asked-size.ensures, c.requires.cmd_value.2), fits);
    }
