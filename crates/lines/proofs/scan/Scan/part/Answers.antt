-- `lines::scan::Scan::part` meets its contract. The loop's invariant: what is left of the text leads to the same end. Assumes nothing.
use mathlib.Core.Path.{◌≡◌, sym, ◌∙◌}
use Prim.Native.Nat.{◌≤◌, ◌<◌}
use native.Mathlib.Omega.{arith}
use lib.ListN.{length}
use Rattle.lines.proofs.ScanLaws.{step-phase, step-filled, step_kept, end-phase, end-filled, end_kept}
use Rattle.lines.proofs.scan.Scan.part.Goals as goal

pub loop-c-preserved : goal.loop-c-preserved
loop-c-preserved c =
    let t = c.args.text.now in
    let i = c.loop-c.c-index in
    let scan = c.loop-c.scan in
    let same : length c.loop-c.buffer ≡ length c.args.buffer.now = omega arith in
    let h : i < length t = omega arith in
    rw (c.push-scan.ensures.phase_value, c.push-scan.ensures.len_value, c.push-scan.ensures.buffer_after, same) record {
      phase = sym (step-phase scan.phase t i h) ∙ c.loop-c.invariant.phase;
      count = sym (step-filled scan.phase t i h (length c.args.buffer.now) scan.len) ∙ c.loop-c.invariant.count;
      bytes = rw same at (sym (step_kept scan.phase t i h scan.len c.loop-c.buffer) ∙ c.loop-c.invariant.bytes);
    }

pub returns : goal.returns
returns c =
    let t = c.args.text.now in
    let i = c.loop-c.c-index in
    let scan = c.loop-c.scan in
    let past : length t ≤ i = omega arith in
    record {
      phase_value = sym (end-phase scan.phase t i past) ∙ c.loop-c.invariant.phase;
      len_value = sym (end-filled scan.phase t i past (length c.args.buffer.now) scan.len) ∙ c.loop-c.invariant.count;
      buffer_after = sym (end_kept scan.phase t i past scan.len c.loop-c.buffer) ∙ c.loop-c.invariant.bytes;
    }
