-- `gateway::queries::why_read` meets its contract, by where the request goes. Assumes nothing.
use mathlib.Core.Path.{sym, ◌∙◌}
use native.Mathlib.Omega.{arith}
use Rattle.service.specs.declared.target.Target.TheVariants.{Named, OutOfRange, New, Nowhere}
use Rattle.gateway.proofs.ReadyLaws.{formed-long, sound-formed}
use Rattle.gateway.proofs.AskedLaws.{request-found, target-says}
use Rattle.gateway.proofs.WhyLaws.{why-named, why-beyond, why-new, why-nowhere}
use Rattle.gateway.proofs.queries.why_read.Goals as goal

pub read_process_at-requires : goal.read_process_at-requires
read_process_at-requires c =
    let read = request-found c.args.message.now c.args.h c.args.form c.requires.form_value in
    let goes = target-says c.args.h c.args.form (Named _) read.1 (sym c.in-Named.is ∙ c.target_of.ensures) in
    record {
      p_lt_process_count = omega (arith, goes.2);
      state_width_in_bounds = omega (arith, formed-long c.args.state.now (sound-formed c.args.state.now c.requires.state_value));
    }

pub returns-in-Named : goal.returns-in-Named
returns-in-Named c =
    let read = request-found c.args.message.now c.args.h c.args.form c.requires.form_value in
    let goes = target-says c.args.h c.args.form (Named _) read.1 (sym c.in-Named.is ∙ c.target_of.ensures) in
    rw c.read_process_at.ensures at c.why_for_process.ensures ∙ sym (why-named c.args.state.now c.args.message.now c.requires.state_value c.args.h (sym read.0) _ goes)

pub returns-in-OutOfRange : goal.returns-in-OutOfRange
returns-in-OutOfRange c =
    let read = request-found c.args.message.now c.args.h c.args.form c.requires.form_value in
    let goes = target-says c.args.h c.args.form OutOfRange read.1 (sym c.in-OutOfRange.is ∙ c.target_of.ensures) in
    sym (why-beyond c.args.state.now c.args.message.now c.requires.state_value c.args.h (sym read.0) goes)

pub returns-in-New : goal.returns-in-New
returns-in-New c =
    let read = request-found c.args.message.now c.args.h c.args.form c.requires.form_value in
    let goes = target-says c.args.h c.args.form New read.1 (sym c.in-New.is ∙ c.target_of.ensures) in
    c.why_new.ensures ∙ sym (why-new c.args.state.now c.args.message.now c.requires.state_value c.args.h (sym read.0) goes)

pub returns-in-Nowhere : goal.returns-in-Nowhere
returns-in-Nowhere c =
    let read = request-found c.args.message.now c.args.h c.args.form c.requires.form_value in
    let goes = target-says c.args.h c.args.form Nowhere read.1 (sym c.in-Nowhere.is ∙ c.target_of.ensures) in
    sym (why-nowhere c.args.state.now c.args.message.now c.requires.state_value c.args.h (sym read.0) goes)
