-- What the gateway's tests say of a process and its bytes. Assumes nothing.
use mathlib.Core.Path.{◌≡◌, refl, sym, ◌∙◌}
use mathlib.Core.Bool.{Bool, true, false, true≢false}
use mathlib.Core.List.{List, map}
use Prim.Native.Nat.{ℕ, ◌+◌, ◌<◌}
use native.Mathlib.Omega.{arith}
use lib.ListN.{length, length-map}
use Rattle.process.specs.declared.record.Process.{Process}
use Rattle.process.specs.Record.{entry, count_used, with_vector, with_breaks}
use Rattle.process.specs.Find.{find}
use Rattle.process.specs.Sound.{Sound, absent_has_no_host, lift_sound, setter_sound, used_sound, entry_sound, keeps_rules, sound_test}
use Rattle.breakpoints.specs.Seen.{saved_from}
use Rattle.process.specs.Local.{Tested}
use Rattle.process.proofs.SoundTestLaws.{passes-sound, sound-passes}
use Rattle.breakpoints.proofs.SeenLaws.{planted-used}
use Rattle.process.proofs.DepositLaws.{AllSpaced, map-alike, count-saved}
use Rattle.process.proofs.SoundLaws.{sound-alike}
use Rattle.breakpoints.specs.Entry.{in_use}

module _ (p : Process) (bytes : List ℕ) (t : Tested p bytes) where
  pub tested-sound : Sound p
  tested-sound = passes-sound p t.sound

  pub tested-counted : p.number ≡ count_used p.breaks
  tested-counted = tested-sound.counted

  -- a process with a breakpoint is there
  used-there : (k : ℕ) → k < 8 → in_use (entry p k) ≡ true → p.there ≡ true
  used-there k h u = go p.there refl
    where
      go : (b : Bool) → p.there ≡ b → b ≡ true
      go true e = refl
      go false e = absurd (true≢false (sym u ∙ (tested-sound.absent e).1 k h))

  -- a breakpoint's word is within the process's bytes
  pub tested-inside : (k : ℕ) → k < 8 → in_use (entry p k) ≡ true → (entry p k).address + 1 < length bytes
  tested-inside k h u =
      let here : p.there ≡ true = used-there k h u in
      let size : length bytes ≡ p.size = rw here at t.size in
      omega (arith, tested-sound.within k h u, size)

  -- and meets no other's
  pub tested-spaced : length p.breaks ≡ 8 → AllSpaced p.breaks
  tested-spaced eight j k l h x y =
      let v = planted-used (entry p j) x in
      let u = planted-used (entry p k) y in
      record {
        different = tested-sound.different j k l (omega arith) v u;
        even = tested-sound.even j (omega arith) v;
        even-too = tested-sound.even k (omega arith) u;
      }

-- the tests do not ask of the vector
pub tested-vector : (v : List ℕ) (p : Process) (m : List ℕ) → Tested p m → Tested (with_vector v p) m
unfolding sound_test keeps_rules absent_has_no_host entry_sound used_sound setter_sound lift_sound find
tested-vector v p m t = record { sound = t.sound; size = t.size }

-- after the exchange of saved words and memory the tests still hold, for any bytes of the same number
pub tested-exchanged : (p : Process) (m s : List ℕ) → Tested p m → length p.breaks ≡ 8 → length s ≡ length m → Tested (with_breaks (map (saved_from m) p.breaks) p) s
tested-exchanged p m s t eight size =
    let eight' : length (map (saved_from m) p.breaks) ≡ 8 = length-map p.breaks (saved_from m) ∙ eight in
    let sound = sound-alike (map (saved_from m) p.breaks) p (λ k h. map-alike m p.breaks k (omega arith)) (count-saved m p.breaks) (tested-sound p m t) in
    record { sound = sound-passes (with_breaks (map (saved_from m) p.breaks) p) eight' sound; size = size ∙ t.size }
