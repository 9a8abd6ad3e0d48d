-- `process::record::Process::examine` meets its contract: the saved words laid over a part of memory give that part of the seen memory. Assumes nothing.
use mathlib.Core.Path.{◌≡◌, ap, ◌∙◌}
use Prim.Native.Nat.{ℕ, ◌+◌, ◌-◌}
use native.Mathlib.Omega.{arith}
use lib.ListN.{length, take, drop}
use Rattle.breakpoints.specs.Seen.{overlay_saved_words}
use Rattle.process.specs.Request.{examined}
use Rattle.breakpoints.proofs.ExamineLaws.{part-words}
use Rattle.process.proofs.record.Process.examine.Goals as goal

pub returns : goal.returns
unfolding examined
returns c =
    let at = c.args.at in
    let m = c.args.bytes.now in
    let n = length c.args.out.now in
    let size : at + n - at ≡ n = omega arith in
    c.overlay_saved_words.ensures
    ∙ ap (overlay_saved_words at c.args.self.breaks)
    (c.copy_from_slice.ensures.after ∙ ap (λ (i : ℕ). take i (drop at m)) size)
    ∙ part-words at n c.args.self.breaks m
