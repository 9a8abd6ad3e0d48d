-- `gateway::gone::remove` meets its contract, by the outcome. Assumes nothing.
use mathlib.Core.Path.{◌≡◌, refl}
use mathlib.Core.Bool.{true}
use Rattle.rules.specs.Isolation.{is_granted}
use Rattle.gateway.proofs.gone.remove.Goals as goal

pub take_out-requires : goal.take_out-requires
unfolding is_granted
take_out-requires c =
    let granted : is_granted c.args.outcome ≡ true = rw c.in-Ok.is refl in
    record {
      pid_bound = (c.requires.pid_value.1, c.requires.pid_value.0 granted);
      start_value = (c.requires.start_value.0 granted, c.requires.start_value.1);
      state_value = c.requires.state_value;
    }

pub returns-in-Ok : goal.returns-in-Ok
unfolding is_granted
returns-in-Ok c = rw c.in-Ok.is c.take_out.ensures

pub returns-in_default : goal.returns-in_default
unfolding is_granted
returns-in_default c = rw c.in_default.is record { state_after = refl; memory_after = refl }
