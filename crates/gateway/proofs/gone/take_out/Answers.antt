-- `gateway::gone::take_out` meets its contract: those above move down, then their starts, and then the record is written. Assumes nothing.
use mathlib.Core.Path.{◌∙◌}
use Prim.Native.Nat.{◌+◌, ◌≤◌}
use native.Mathlib.Omega.{arith}
use Rattle.lists.specs.Buffer.{Bytes}
use Rattle.state.specs.Layout.{used, starts_without}
use Rattle.state.proofs.LayoutLaws.{start-inside}
use Rattle.rules.specs.Tests.{lent}
use Rattle.rules.specs.Window.{taken_out}
use Rattle.rules.proofs.StateLaws.{layout_of}
use Rattle.state_bytes.specs.State.{state_of, with_starts_bytes}
use Rattle.gateway.proofs.ReadyLaws.{formed-long, sound-formed, sound-ready}
use Rattle.gateway.proofs.FinishLaws.{gone-bytes}
use Rattle.gateway.proofs.gone.take_out.Goals as goal

pub used_bytes-end-requires : goal.used_bytes-end-requires
used_bytes-end-requires c =
    omega (arith, formed-long c.args.state.now (sound-formed c.args.state.now c.requires.state_value.0))

pub close-requires : goal.close-requires
close-requires c =
    let st = lent (state_of c.args.state.now) c.args.memory.now in
    let laid = layout_of st (sound-ready c.args.state.now c.args.memory.now c.requires.state_value.0 c.requires.state_value.1) in
    let inside : c.args.start + c.args.count ≤ used (state_of c.args.state.now) = rw (c.requires.start_value.0, c.requires.start_value.1) (start-inside (state_of c.args.state.now) laid c.args.pid c.requires.pid_bound.0 c.requires.pid_bound.1) in
    (omega (arith, inside, c.used_bytes-end.ensures), omega (arith, c.used_bytes-end.ensures, laid.fits, c.requires.state_value.1))

pub put_starts_without-requires : goal.put_starts_without-requires
put_starts_without-requires c =
    record {
      p_lt_process_count = omega (arith, c.requires.pid_bound.0);
      state_len = formed-long c.args.state.now (sound-formed c.args.state.now c.requires.state_value.0);
    }

pub put_process_at-requires : goal.put_process_at-requires
put_process_at-requires c =
    record {
      p_lt_process_count = c.requires.pid_bound.0;
      state_len = c.put_starts_without.auto.state ∙ formed-long c.args.state.now (sound-formed c.args.state.now c.requires.state_value.0);
    }

pub returns : goal.returns
unfolding taken_out
returns c =
    let bytes : Bytes c.args.state.now = λ i. omega (arith, c.slice_known-1.given i) in
    let more : Bytes (with_starts_bytes (starts_without c.args.pid (state_of c.args.state.now)) c.args.state.now) = λ i. rw (← c.put_starts_without.ensures) (omega (arith, c.slice_known-4-1.given i)) in
    let formed = sound-formed c.args.state.now c.requires.state_value.0 in record {
      state_after = rw (c.put_process_at.ensures, c.put_starts_without.ensures) (gone-bytes c.args.state.now c.args.memory.now bytes formed c.args.pid c.args.process c.requires.pid_bound.0 more);
      memory_after = rw (← c.requires.start_value.0, ← c.requires.start_value.1, ← c.used_bytes-end.ensures) c.close.ensures;
    }
