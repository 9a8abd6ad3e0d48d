-- `gateway::requests::answer` meets its contract, by where the request goes. Assumes nothing.
use mathlib.Core.Path.{sym, ◌∙◌}
use native.Mathlib.Omega.{arith}
use Rattle.lists.specs.Buffer.{Bytes}
use Rattle.format.specs.Layout.{string_of}
use Rattle.rules.specs.Tests.{lent}
use Rattle.state_bytes.specs.State.{state_of}
use Rattle.service.specs.declared.target.Target.TheVariants.{Named, OutOfRange, New, Nowhere}
use Rattle.gateway.proofs.AskedLaws.{request-found, carried-short, create-short, target-says, asked-beyond, asked-nowhere}
use Rattle.gateway.proofs.LentLaws.{request-fits}
use Rattle.gateway.proofs.FinishLaws.{finished-unmoved}
use Rattle.gateway.proofs.requests.answer.Goals as goal

pub answer_named-requires : goal.answer_named-requires
answer_named-requires c =
    let read = request-found c.args.message.now c.args.h c.args.form c.requires.form_value in
    let goes = target-says c.args.h c.args.form (Named _) read.1 (sym c.in-Named.is ∙ c.target_of.ensures) in
    let short = carried-short c.args.message.now c.args.h read.0 in
    record {
      cmd_value = goes;
      reply_value = c.requires.reply_value;
      string_len_bound = rw c.string.ensures short;
    }

pub refuse-requires : goal.refuse-requires
refuse-requires c =
    record {
      fact = λ e. omega (arith, e);
      message_bytes_in_bounds = (request-fits c.args.state.now c.args.memory.now c.args.reply.now c.requires.reply_value).room;
    }

pub answer_new-requires : goal.answer_new-requires
answer_new-requires c =
    let read = request-found c.args.message.now c.args.h c.args.form c.requires.form_value in
    let goes = target-says c.args.h c.args.form New read.1 (sym c.in-New.is ∙ c.target_of.ensures) in
    record {
      cmd_value = (goes.0, goes.1, create-short c.args.message.now c.args.h read.0 goes.1);
      reply_value = c.requires.reply_value;
    }

pub reply_plain-requires : goal.reply_plain-requires
reply_plain-requires c =
    (request-fits c.args.state.now c.args.memory.now c.args.reply.now c.requires.reply_value).room

pub returns-in-Named : goal.returns-in-Named
returns-in-Named c = rw c.string.ensures at c.answer_named.ensures

pub returns-in-OutOfRange : goal.returns-in-OutOfRange
returns-in-OutOfRange c =
    let st = lent (state_of c.args.state.now) c.args.memory.now in
    let read = request-found c.args.message.now c.args.h c.args.form c.requires.form_value in
    let goes = target-says c.args.h c.args.form OutOfRange read.1 (sym c.in-OutOfRange.is ∙ c.target_of.ensures) in
    let bytes : Bytes c.args.state.now = λ i. omega (arith, c.slice_known-1.given i) in
    let formed = (request-fits c.args.state.now c.args.memory.now c.args.reply.now c.requires.reply_value).formed in
    finished-unmoved c.args.state.now c.args.memory.now bytes formed _ _ c.refuse.ensures _ (asked-beyond c.args.h (string_of c.args.message.now) c.args.reply.now st goes)

pub returns-in-New : goal.returns-in-New
returns-in-New c = c.answer_new.ensures (string_of c.args.message.now)

pub returns-in-Nowhere : goal.returns-in-Nowhere
returns-in-Nowhere c =
    let st = lent (state_of c.args.state.now) c.args.memory.now in
    let read = request-found c.args.message.now c.args.h c.args.form c.requires.form_value in
    let goes = target-says c.args.h c.args.form Nowhere read.1 (sym c.in-Nowhere.is ∙ c.target_of.ensures) in
    let bytes : Bytes c.args.state.now = λ i. omega (arith, c.slice_known-1.given i) in
    let formed = (request-fits c.args.state.now c.args.memory.now c.args.reply.now c.requires.reply_value).formed in
    finished-unmoved c.args.state.now c.args.memory.now bytes formed _ _ c.reply_plain.ensures _ (asked-nowhere c.args.h (string_of c.args.message.now) c.args.reply.now st goes)
