-- `process::record::Process::create` meets its contract: the first zeros, as many as the size says, cover all of the process's bytes. Assumes
-- nothing.
use mathlib.Core.Path.{sym, ap, ◌∙◌}
use Prim.Native.Nat.{ℕ}
use native.Mathlib.Omega.{arith}
use lib.ListN.{length, length-replicate}
use Rattle.lists.proofs.Zeros.{take-replicate}
use Rattle.process.specs.Request.{created}
use Rattle.process.proofs.record.Process.create.Goals as goal

pub slice_bounds-copy_from_slice-end : goal.slice_bounds-copy_from_slice-end
slice_bounds-copy_from_slice-end c =
    let n = c.args.size in
    sym (ap (length {A = ℕ}) (take-replicate n 4096 0 c.requires.1) ∙ length-replicate {A = ℕ} n 0)

pub copy_from_slice-requires : goal.copy_from_slice-requires
copy_from_slice-requires c =
    let n = c.args.size in
    let e = ap (length {A = ℕ}) (take-replicate n 4096 0 c.requires.1) ∙ length-replicate {A = ℕ} n 0 in
    omega (arith, e, c.requires.0)

pub returns : goal.returns
unfolding created
returns c =
    let n = c.args.size in
    let front = take-replicate n 4096 0 c.requires.1 in
    record {
      value = c.fresh.ensures;
      bytes_after = c.copy_from_slice.ensures.after ∙ front;
    }
