-- A law of text that is laid into the rest of a buffer. Assumes nothing.
use mathlib.Core.Path.{◌≡◌, sym, ap, ◌∙◌}
use mathlib.Core.List.{List, ◌++◌}
use Prim.Native.Nat.{ℕ, ◌+◌, ◌-◌, ◌≤◌}
use native.Mathlib.Omega.{arith}
use lib.ListN.{length, take, drop, length-append}
use Rattle.std.proofs.lemmas.List.{take-append-drop}
use lib.Seq.{length-take-le}
use Rattle.lists.specs.Buffer.{overlay}
use Rattle.lists.proofs.Buffer.{laid-part}
use Rattle.lines.specs.Scan.{kept, Put}
use Rattle.lines.proofs.PutLaws.{kept_append, kept-overlay}

-- what stands before an index, laid over the buffer, is the buffer
front-laid : (at : ℕ) (out : List ℕ) → at ≤ length out → overlay (take at out) out ≡ out
unfolding overlay
front-laid at out h = rw (length-take-le at out h) (take-append-drop at out)

-- text that is laid into the part of a buffer from an index on is put at that index
pub put-part : (at n : ℕ) (text out last : List ℕ) → at + length text ≤ length out → n ≡ length text
    → last ≡ overlay text (take (length out - at) (drop at out)) → Put at text out (at + n) (take at out ++ (last ++ drop (length out - at) (drop at out)))
put-part at n text out last room size laid =
    let front = take at out in
    let long : length front ≡ at = length-take-le at out (omega (arith, room)) in
    let same : overlay front out ≡ out = front-laid at out (omega (arith, room)) in
    let whole : kept 0 front out ≡ out = kept-overlay front out (omega (arith, long, room)) ∙ same in
    let joined : take at out ++ (last ++ drop (length out - at) (drop at out)) ≡ overlay (front ++ text) out = laid-part front text out out last at (sym long) (sym same) laid in (
      omega (arith, size),
      joined
          ∙ sym (kept-overlay (front ++ text) out (omega (arith, length-append front text, long, room)))
          ∙ sym (kept_append 0 front text out)
          ∙ ap (kept (0 + length front) text) whole
          ∙ ap (λ (k : ℕ). kept k text out) (omega (arith, long)),
    )
