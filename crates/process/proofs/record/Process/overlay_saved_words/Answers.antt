-- `process::record::Process::overlay_saved_words` meets its contract. The loop's invariant: what is left to lay gives what laying all gives. Assumes nothing.
use mathlib.Core.List.{List}
use mathlib.Core.Path.{◌≡◌, refl, sym, ap, ◌∙◌}
use Prim.Native.Nat.{◌≤◌, ◌+◌}
use native.Mathlib.Omega.{arith}
use borrow.Author.Rules.{rules}
use lib.ListN.{length, drop, drop_of_length-le}
use Rattle.breakpoints.specs.declared.entry.Breakpoint.{Breakpoint}
use Rattle.breakpoints.specs.Seen.{overlay_saved_words}
use Rattle.breakpoints.proofs.SeenLaws.{overlay_saved_words-step}
use Rattle.process.proofs.record.Process.overlay_saved_words.Goals as goal

pub loop-b-init : goal.loop-b-init
loop-b-init c = refl

pub loop-b-preserved : goal.loop-b-preserved
loop-b-preserved c =
    let eight : length c.args.self.breaks ≡ 8 = search rules in
    c.loop-b.invariant ∙ overlay_saved_words-step c.args.at c.args.self.breaks c.loop-b.out c.loop-b.b-index (omega arith)
    ∙ ap (overlay_saved_words c.args.at (drop (c.loop-b.b-index + 1) c.args.self.breaks)) (sym c.overlay_saved_word.ensures)

pub returns : goal.returns
unfolding overlay_saved_words
returns c =
    let eight : length c.args.self.breaks ≡ 8 = search rules in
    let past : length c.args.self.breaks ≤ c.loop-b.b-index = omega arith in
    sym (c.loop-b.invariant ∙ ap (λ (bs : List Breakpoint). overlay_saved_words c.args.at bs c.loop-b.out) (drop_of_length-le c.args.self.breaks past))
