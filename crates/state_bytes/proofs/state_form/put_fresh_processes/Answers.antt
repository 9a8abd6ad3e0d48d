-- `state_bytes::state_form::put_fresh_processes` meets its contract. The loop's invariant: the processes passed are laid over the bytes. Assumes nothing.
use mathlib.Core.Path.{◌≡◌, refl, sym, ap, ◌∙◌}
use mathlib.Core.List.{List}
use Prim.Native.Nat.{ℕ, ◌-◌, ◌<◌}
use native.Mathlib.Omega.{arith}
use borrow.Author.Rules.{rules}
use lib.ListN.{length, take, drop, length-drop}
use lib.Seq.{length-take-le, take_all}
use Rattle.lists.specs.Buffer.{overlay}
use Rattle.lists.specs.Joined.{joined}
use Rattle.lists.proofs.Buffer.{length-overlay}
use Rattle.process.specs.declared.record.Process.{Process}
use Rattle.state.specs.Fresh.{fresh_processes}
use Rattle.state.specs.Records.{nobody}
use Rattle.state_bytes.specs.Process.{process_bytes}
use Rattle.state_bytes.specs.Widths.{process_width, starts_at}
use Rattle.state_bytes.proofs.ChunkLaws.{joined_step, length-joined-more}
use Rattle.state.proofs.FreshLaws.{length-fresh_processes, getD-fresh_processes}
use Rattle.state_bytes.proofs.state_form.put_fresh_processes.Goals as goal

pub loop-p-init : goal.loop-p-init
unfolding joined overlay
loop-p-init c = (search rules, refl, omega arith, refl, refl)

pub put_process-requires : goal.put_process-requires
put_process-requires c =
    let now = c.loop-p.state in
    let at = c.loop-p.at in
    let rest = length-take-le (length now - at) (drop at now) (simp length-drop (omega arith)) in
    omega (arith, rest, c.loop-p.invariant.1, c.requires)

pub loop-p-preserved : goal.loop-p-preserved
loop-p-preserved c =
    let k = c.loop-p.p in
    let all = fresh_processes c.args.there c.args.sizes in
    let h : k < length all = omega (arith, c.loop-p.invariant.0, length-fresh_processes c.args.there c.args.sizes) in
    let one = rw c.size_of.ensures at c.fresh_process.ensures ∙ sym (getD-fresh_processes c.args.there c.args.sizes k (omega (arith, c.loop-p.invariant.0))) in
    let now = c.put_process.ensures.bytes_after ∙ ap (λ (r : Process). overlay (process_bytes r) (take (length c.loop-p.state - c.loop-p.at) (drop c.loop-p.at c.loop-p.state))) one in
    let laid = joined_step process_bytes all k c.loop-p.at nobody c.args.state.now c.loop-p.state c.put_process.new.bytes h c.loop-p.invariant.3 c.loop-p.invariant.4 now in
    let size = ap (λ (r : Process). length (process_bytes r)) (sym one) ∙ c.put_process.ensures.p_len in
    let long = length-joined-more process_width process_bytes all k c.loop-p.at nobody h c.loop-p.invariant.3 size in
    (c.loop-p.invariant.0, ap (λ (b : List ℕ). length b) laid ∙ length-overlay _ c.args.state.now (omega (arith, long, c.requires)), omega arith, long, laid)

pub shape_of-state : goal.shape_of-state
shape_of-state c = c.loop-p.invariant.1

pub returns : goal.returns
returns c =
    let processes = fresh_processes c.args.there c.args.sizes in
    let all : take c.loop-p.p processes ≡ processes = take_all c.loop-p.p processes (omega (arith, c.loop-p.invariant.0, length-fresh_processes c.args.there c.args.sizes)) in
    let end : c.loop-p.at ≡ starts_at = omega arith in
    record {
      sizes_len = rw (all, end) at c.loop-p.invariant.3;
      state_after = rw all at c.loop-p.invariant.4;
    }
