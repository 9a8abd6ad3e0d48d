-- `service::request::answer_for_process` meets its contract, by what the request is to do. Assumes nothing.
use mathlib.Core.Path.{ap₂, refl, sym, ◌∙◌}
use Rattle.process.specs.Local.{local}
use Rattle.std.proofs.Common.{Ok, Err}
use Rattle.service.specs.At.{leaving, named_at, named_by}
use Rattle.checks.proofs.DecisionLaws.{says}
use Rattle.service.proofs.AtLaws.{named-refused}
use Rattle.service.proofs.request.answer_for_process.Goals as goal

pub grant-requires : goal.grant-requires
grant-requires c =
    let d = says c.args.h c.args.process (Ok _) (sym c.in-Ok.is ∙ c.decide.ensures) in
    record {
      present = record { tested = c.requires.tested; there = d.there };
      process_value = d.rule;
      k_value = d.entry;
      string_len_bound = c.requires.string_len_bound;
      message_bytes_in_bounds = c.requires.message_bytes_in_bounds;
    }

pub refuse-requires : goal.refuse-requires
refuse-requires c =
    let d = says c.args.h c.args.process (Err _) (sym c.in-Err.is ∙ c.decide.ensures) in
    record {
      fact = d.1;
      message_bytes_in_bounds = c.requires.message_bytes_in_bounds;
    }

pub returns-in-Ok : goal.returns-in-Ok
unfolding named_at named_by
returns-in-Ok c =
    let d = says c.args.h c.args.process (Ok _) (sym c.in-Ok.is ∙ c.decide.ensures) in
    rw d.passed c.grant.ensures

pub returns-in-Err : goal.returns-in-Err
unfolding named_at
returns-in-Err c =
    let d = says c.args.h c.args.process (Err _) (sym c.in-Err.is ∙ c.decide.ensures) in
    rw (← d.0, named-refused _ d.1 c.args.h c.args.string.now c.args.reply.now (local c.args.process c.args.bytes.now))
    (ap₂ leaving c.refuse.ensures refl)
