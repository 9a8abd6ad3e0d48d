-- `state_bytes::sound::process_sound` meets its contract: its head, then whether there are breakpoints, then the record. Assumes nothing.
use mathlib.Core.Path.{◌≡◌, sym, ap, ◌∙◌}
use mathlib.Core.Bool.{true}
use native.Mathlib.Omega.{arith}
use Rattle.lists.specs.Buffer.{Bytes}
use Rattle.process.specs.Sound.{sound_test}
use Rattle.state_bytes.specs.Entry.{entries_bits, flags_formed}
use Rattle.state_bytes.specs.Process.{head_sound}
use Rattle.state_bytes.specs.Widths.{entries_at}
use Rattle.state_bytes.proofs.ChunkLaws.{tail-part}
use Rattle.state_bytes.proofs.ProcessLaws.{head-fails, bare-sound, flags-fail, full-sound}
use Rattle.state_bytes.proofs.sound.process_sound.Goals as goal

pub returns-then-not-head_sound : goal.returns-then-not-head_sound
returns-then-not-head_sound c = sym (head-fails c.args.bytes.now (sym c.head_sound.ensures ∙ c.if-not-head_sound.true))

pub returns-then-bits-eq0 : goal.returns-then-bits-eq0
returns-then-bits-eq0 c =
    let m = c.args.bytes.now in
    let head : head_sound m ≡ true = sym c.head_sound.ensures ∙ c.if-not-head_sound.false in
    let bits = c.entries_bits-bits.ensures ∙ ap entries_bits (tail-part entries_at m) in
    sym (bare-sound m (sym bits ∙ c.if-bits-eq0.true) ∙ rw head)

pub returns-else-flags_formed : goal.returns-else-flags_formed
returns-else-flags_formed c =
    let m = c.args.bytes.now in
    let head : head_sound m ≡ true = sym c.head_sound.ensures ∙ c.if-not-head_sound.false in
    let bits = c.entries_bits-bits.ensures ∙ ap entries_bits (tail-part entries_at m) in
    let bytes : Bytes m = λ i. omega (arith, c.shared_slice_known-1.given i) in
    c.if-flags_formed.false ∙ sym (flags-fail m bytes head (sym (c.flags_formed.ensures ∙ ap flags_formed bits) ∙ c.if-flags_formed.false))

pub returns-then-flags_formed : goal.returns-then-flags_formed
returns-then-flags_formed c =
    let m = c.args.bytes.now in
    let head : head_sound m ≡ true = sym c.head_sound.ensures ∙ c.if-not-head_sound.false in
    let bits = c.entries_bits-bits.ensures ∙ ap entries_bits (tail-part entries_at m) in
    let bytes : Bytes m = λ i. omega (arith, c.shared_slice_known-1.given i) in
    let flags = sym (c.flags_formed.ensures ∙ ap flags_formed bits) ∙ c.if-flags_formed.true in
    c.sound.ensures ∙ ap sound_test c.read_process.ensures ∙ sym (full-sound m bytes head flags)
