-- `gateway::queries::why` meets its contract, by the state and by what was read. Assumes nothing.
use mathlib.Core.Path.{sym, ◌∙◌}
use Rattle.gateway.proofs.AskedLaws.{refused-found}
use Rattle.gateway.proofs.WhyLaws.{why-unsound, why-refused}
use Rattle.gateway.proofs.queries.why.Goals as goal

pub returns-then-not-state_sound : goal.returns-then-not-state_sound
returns-then-not-state_sound c =
    sym (why-unsound c.args.state.now c.args.message.now (sym c.state_sound.ensures ∙ c.if-not-state_sound.true))

pub why_read-requires : goal.why_read-requires
why_read-requires c =
    record {
      form_value = sym c.in-Ok.is ∙ c.read_request.ensures;
      state_value = sym c.state_sound.ensures ∙ c.if-not-state_sound.false;
    }

pub returns-in-Err : goal.returns-in-Err
returns-in-Err c =
    let sound = sym c.state_sound.ensures ∙ c.if-not-state_sound.false in
    let read = refused-found c.args.message.now _ (sym c.in-Err.is ∙ c.read_request.ensures) in
    c.reason_without_process.ensures ∙ sym (why-refused c.args.state.now c.args.message.now sound _ (sym read))
