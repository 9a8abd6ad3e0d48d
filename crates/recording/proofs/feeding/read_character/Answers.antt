-- `recording::feeding::read_character` meets its contract, by whether the character is a newline. Assumes nothing.
use mathlib.Core.Path.{◌≡◌, refl}
use Prim.Native.Nat.{◌≤◌}
use native.Mathlib.Omega.{arith}
use borrow.Author.Tests.{eq-eqb, ne_eqb}
use lib.ListN.{length, length-take}
use Rattle.lists.specs.Buffer.{overlay}
use Rattle.recording.specs.Line.{pairs_from}
use Rattle.recording.specs.Session.{reading, typed, stepped}
use Rattle.recording.proofs.SessionLaws.{pairs-within, typed-begun, waits-room, steps-ended}
use borrow.Author.Rules.{rules}
use Rattle.recording.proofs.feeding.read_character.Goals as goal
use Rattle.recording.proofs.feeding.read_character.Goals.{then-partial-lt-BEGUN, else-partial-lt-BEGUN}

pub push-requires : goal.push-requires
push-requires c =
    let size : length c.args.line.now ≡ 1025 = search rules in
    elim c.if-partial-lt-BEGUN.branch [
      | then-partial-lt-BEGUN w ↦ omega (arith, size, w.first-is, w.pairs_begin-first.ensures, pairs-within)
      | else-partial-lt-BEGUN w ↦ omega (arith, size, w.first-is)
    ]

pub returns-then-c-ne10 : goal.returns-then-c-ne10
unfolding stepped overlay
returns-then-c-ne10 c =
    let size : length c.args.line.now ≡ 1025 = search rules in
    let before = reading c.args.partial c.args.line.now in
    let more : typed c.if-partial-lt-BEGUN.first 1025 c.args.c before ≡ typed (pairs_from c.args.language before.line) 1025 c.args.c before =
    elim c.if-partial-lt-BEGUN.branch [
      | then-partial-lt-BEGUN w ↦ rw (w.first-is, w.pairs_begin-first.ensures) refl
      | else-partial-lt-BEGUN w ↦
          let kept : 8 ≤ length before.line = omega (arith, length-take c.args.partial.len c.args.line.now, size, w.if-partial-lt-BEGUN.false) in
          typed-begun c.args.language c.if-partial-lt-BEGUN.first 1025 c.args.c before (omega (arith, w.first-is, kept)) kept
    ] in
    rw (ne_eqb _ _ c.if-c-ne10.true)
    (record {
      session = rw (c.push.ensures, size, more) refl;
      text = record { size = refl; fits = omega arith; laid = refl };
    })

pub end_line-len-requires : goal.end_line-len-requires
end_line-len-requires c = waits-room c.args.c _ c.requires c.if-c-ne10.false

pub returns : goal.returns
unfolding stepped
returns c = rw (eq-eqb _ _ c.if-c-ne10.false) (steps-ended _ _ _ _ _ _ _ (search rules) c.end_line-len.ensures)
