-- What STOP, `c`, `s`, DEBUG, WATCH, END WATCH, BREAK, packets and ticks leave of a process is again a sound record with eight entries and its bytes. Assumes nothing.
use mathlib.Core.Path.{◌≡◌, refl, sym, ◌∙◌}
use mathlib.Core.Bool.{true, false}
use mathlib.Core.Logic.{◌⊎◌}
use Prim.Native.Nat.{ℕ, ◌+◌, ◌≤◌, ◌%◌}
use lib.ListN.{length}
use Rattle.run_state.specs.RunState.{stopped_or_at_break}
use Rattle.session.specs.Session.{text_host, pup_host}
use Rattle.process.specs.Record.{with_host}
use Rattle.process.specs.Sound.{Sound, DebugsOrWatches}
use Rattle.process.specs.Local.{Local, extent, Proper}
use Rattle.process.specs.Request.{on_record, has_break, has_room, debugged, watched, end_watched, stopped, continued, stepped_from, break_set}
use Rattle.process.specs.Packet.{without_go, go_asked, go_replied, ticked, word_stored}
use Rattle.process.proofs.SoundTestLaws.{sound-passes}
use Rattle.process.proofs.TestedLaws.{tested-sound}
use Rattle.process.proofs.KeptLaws.{shape, same-there, same_size, same_entries, same_bytes, shape-stopped, shape-end_watched, shape-continued, shape-stepped_from, shape-break_set}
use Rattle.process.proofs.PacketLaws.{shape-go_asked, shape-go_replied, shape-ticked, shape-word_stored}
use Rattle.process.proofs.TheoremLaws.{sound-stays}

-- a sound process of the shape of a proper one
pub shape-proper : (k l : Local) → shape k ≡ shape l → Sound k.process → Proper l → Proper k
shape-proper k l e s g =
    let eight = same_entries e ∙ g.eight in
    let asked : extent k.process ≡ extent l.process = rw (same-there e, same_size e) in
    record { tested = record { sound = sound-passes k.process eight s; size = same_bytes e ∙ g.tested.size ∙ sym asked }; eight = eight }

module _ (l : Local) (g : Proper l) where
  pub stopped-proper : Proper (stopped l)
  stopped-proper = shape-proper (stopped l) l (shape-stopped l) (sound-stays.stop l g) g

  pub continued-proper : (a : ℕ) → stopped_or_at_break l.process.run ≡ true → l.process.host ≡ text_host → Proper (continued a l)
  continued-proper a e h = shape-proper (continued a l) l (shape-continued a l) (sound-stays.continue a l g e h) g

  pub stepped-from-proper : (a : ℕ) → stopped_or_at_break l.process.run ≡ true → l.process.host ≡ text_host → Proper (stepped_from a l)
  stepped-from-proper a e h = shape-proper (stepped_from a l) l (shape-stepped_from a l) (sound-stays.step_from a l g e h) g

  -- the asker debugs it, where nobody or he did before
  pub debugged-proper : (host : ℕ) → l.process.there ≡ true → (host ≡ 0 → ⊥) → (l.process.host ≡ 0) ⊎ (l.process.host ≡ host) → Proper (debugged host l)
  debugged-proper host t n b =
      let s = sound-stays.debug host l.process (tested-sound l.process l.bytes g.tested) t n b in
      record { tested = record { sound = sound-passes (with_host host l.process) g.eight s; size = g.tested.size }; eight = g.eight }

  -- the asker watches it, where nobody or he did before, and another debugs it
  pub watched-proper : (host : ℕ) → (l.process.host ≡ 0 → ⊥) → (host ≡ l.process.host → ⊥) → (l.process.session.watcher ≡ 0) ⊎ (l.process.session.watcher ≡ host) → Proper (watched host l)
  watched-proper host n m b =
      shape-proper (watched host l) l refl (sound-stays.watch host l.process (tested-sound l.process l.bytes g.tested) n m b) g

  pub end-watched-proper : Proper (end_watched l)
  end-watched-proper = shape-proper (end_watched l) l (shape-end_watched l) (sound-stays.end-watch l g) g

  -- a breakpoint of the host or the watcher, where one is at the address or there is room
  pub break-proper : (host a n : ℕ) → (l.process.host ≡ 0 → ⊥) → DebugsOrWatches l.process host → a % 2 ≡ 0 → a + 2 ≤ l.process.size
      → (has_break a l.process ≡ false → has_room l.process ≡ true) → Proper (break_set host a n l)
  break-proper host a n h i e w r = shape-proper (break_set host a n l) l (shape-break_set host a n l) (sound-stays.break host a n l g h i e w r) g

  -- ---- packets and ticks

  is-sound : Sound l.process
  is-sound = tested-sound l.process l.bytes g.tested

  -- no Go waits any more
  pub abandon-go-proper : Proper (on_record without_go l)
  abandon-go-proper = shape-proper (on_record without_go l) l refl (sound-stays.abandon-go l.process is-sound) g

  -- a Go of the host that may ask for one
  pub ask-go-proper : (id : ℕ) → l.process.host ≡ pup_host → Proper (on_record (go_asked id) l)
  ask-go-proper id h = shape-proper (on_record (go_asked id) l) l (shape-go_asked id l) (sound-stays.ask-go id l.process is-sound h) g

  pub reply-go-proper : (id : ℕ) → Proper (on_record (go_replied id) l)
  reply-go-proper id = shape-proper (on_record (go_replied id) l) l (shape-go_replied id l) (sound-stays.reply-go id l.process is-sound) g

  pub tick-proper : Proper (on_record ticked l)
  tick-proper = shape-proper (on_record ticked l) l (shape-ticked l) (sound-stays.tick l.process is-sound) g

  -- a word within the process's bytes
  pub store-proper : (first v : ℕ) → first + 2 ≤ length l.bytes → Proper (word_stored first v l)
  store-proper first v h = shape-proper (word_stored first v l) l (shape-word_stored first v l h) (sound-stays.store first v l g) g
