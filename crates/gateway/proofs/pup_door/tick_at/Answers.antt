-- `gateway::pup_door::tick_at` meets its contract: a sound process has under a hundred ticks. Assumes nothing.
use native.Mathlib.Omega.{arith}
use Rattle.gateway.proofs.ReadyLaws.{formed-long, sound-formed}
use Rattle.gateway.proofs.TickedLaws.{few-ticks}
use Rattle.gateway.proofs.pup_door.tick_at.Goals as goal

pub read_process_at-process-requires : goal.read_process_at-process-requires
read_process_at-process-requires c =
    record { p_lt_process_count = c.requires.0; state_width_in_bounds = omega (arith, formed-long c.args.state.now (sound-formed c.args.state.now c.requires.1)) }

pub tick-next-requires : goal.tick-next-requires
tick-next-requires c = rw c.read_process_at-process.ensures (few-ticks c.args.state.now c.requires.1 c.args.pid c.requires.0)

pub put_process_at-requires : goal.put_process_at-requires
put_process_at-requires c =
    record { p_lt_process_count = c.requires.0; state_len = formed-long c.args.state.now (sound-formed c.args.state.now c.requires.1) }

pub returns : goal.returns
returns c = rw (c.put_process_at.ensures, c.tick-next.ensures, c.read_process_at-process.ensures)
