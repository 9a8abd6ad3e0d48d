-- A state with another process in one place: what changes, what stays, and that it is still sound, whether the process stays where it lies,
-- comes last, or goes. Assumes nothing.
use mathlib.Core.Path.{◌≡◌, refl, sym, ap, ap₂, ◌∙◌, subst}
use mathlib.Core.Bool.{Bool, true, false, cond}
use mathlib.Core.List.{List, [], ◌∷◌}
use mathlib.Core.Logic.{◌⊎◌, inl, inr}
use Prim.Native.Nat.{ℕ, ◌+◌, ◌≤◌, ◌<◌}
use native.Mathlib.Omega.{arith}
use borrow.Author.Tests.{eqb-true, eqb-false}
use lib.ListN.{length, get_or, length-set, get_or-eq_default, take-append-drop}
use lib.Seq.{get_or-set_same, get_or-set_other, set-get_or}
use lib.Dec.{eqb}
use Rattle.lists.specs.Buffer.{overlay}
use Rattle.process.specs.declared.record.Process.{Process}
use Rattle.process.specs.Sound.{Sound}
use Rattle.process.specs.Local.{Local, local, extent, Proper}
use Rattle.state.specs.Records.{nobody, start_of, with_process}
use Rattle.state.specs.Layout.{capacity, extent_at, used, LaidOut, slot, with_slot}
use Rattle.state.proofs.LayoutLaws.{Sized, start-inside, starts_apart, layout-kept, layout-last, layout-without, start-above, start_under, length-starts_without}
use Rattle.state.proofs.MemoryLaws.{length-slot, length-with_slot, with_slot-slot, with_slot-over, slot_same, slot-other, length-closed, closed-below, closed-above}
use Rattle.state.proofs.SoundLaws.{state-sound, state-passes}
use Rattle.lists.proofs.Sum.{total-alike}
use Rattle.rules.specs.Rule.{Public, public}
use Rattle.rules.specs.Tests.{State, record_of}
use Rattle.rules.specs.Window.{local_of, put_in_place, put_last, taken_out, put}
use Rattle.rules.specs.Ready.{Ready}
use Rattle.rules.specs.Isolation.{public_of}
use Rattle.rules.proofs.ProperLaws.{sound-of, proper-of}

-- ---- a sound state

-- each record is sound
pub each-sound : (s : State) → Ready s → (p : ℕ) → p < 8 → Sound (record_of s p)
each-sound s r = (state-sound s.records r.sound).each

-- 'sound includes the layout'
pub layout_of : (s : State) → Ready s → LaidOut s.records
layout_of s r = (state-sound s.records r.sound).layout

-- a process that is there has bytes
pub sized_of : (s : State) → Ready s → Sized s.records
sized_of s r p h t = rw t (let least = (each-sound s r p h).sized.least in omega arith)

-- an absent one has none
pub absent_none : (p : Process) → p.there ≡ false → extent p ≡ 0
absent_none p e = rw e

-- its bytes lie within the memory
pub inside : (s : State) → Ready s → (p : ℕ) → p < 8 → (record_of s p).there ≡ true → start_of s.records p + extent_at s.records p ≤ length s.memory
inside s r p h t =
    omega (arith, start-inside s.records (layout_of s r) p h t, (layout_of s r).fits, r.memory)

-- as many bytes as its size says
pub length-local : (s : State) → Ready s → (p : ℕ) → p < 8 → length (local_of s p).bytes ≡ extent_at s.records p
unfolding slot
length-local s r p h = go (record_of s p).there refl
  where
    go : (t : Bool) → (record_of s p).there ≡ t → length (local_of s p).bytes ≡ extent_at s.records p
    go true e = length-slot (start_of s.records p) (extent_at s.records p) s.memory (inside s r p h e)
    go false e = rw (absent_none (record_of s p) e)

-- each process of a sound state is sound, with its bytes
pub local-proper : (s : State) → Ready s → (p : ℕ) → p < 8 → Proper (local_of s p)
local-proper s r p h = proper-of (local_of s p) (each-sound s r p h) (r.entries p h) (length-local s r p h)

-- past the eight processes there is none
pub public-past : (s : State) → Ready s → (p : ℕ) → 8 ≤ p → public_of s p ≡ public nobody
public-past s r p h = let e = r.processes in ap public (get_or-eq_default s.records.processes nobody (omega arith))

-- ---- one process changes

-- what is in a state that is s but for process p
pub record Changed (s t : State) (p : ℕ) (l : Local) : Type 0 where
  pub here : local_of t p ≡ l
  pub else : (q : ℕ) → q < 8 → (q ≡ p → ⊥) → local_of t q ≡ local_of s q

pub unchanged : (s : State) (p : ℕ) → Changed s s p (local_of s p)
unchanged s p = record { here = refl; else = λ q h n. refl }

-- how many bytes a process has, by its public part
abbrev pub extent_of : Public → ℕ
extent_of u = cond u.there u.size 0

-- there is a place for a process with this public part: one that is there keeps its size, and for one that comes there are free bytes
pub record Fits (s : State) (p : ℕ) (u : Public) : Type 0 where
  pub kept : (public_of s p).there ≡ true → u.there ≡ true → u.size ≡ (public_of s p).size
  pub room : (public_of s p).there ≡ false → used s.records + extent_of u ≤ capacity

-- the used bytes are public
pub used-shown : (s t : State) → ((p : ℕ) → p < 8 → public_of s p ≡ public_of t p) → used s.records ≡ used t.records
unfolding used public
used-shown s t shown = total-alike (extent_at s.records) (extent_at t.records) 8 (λ p h. ap extent_of (shown p h))

pub fits-shown : (s t : State) → ((p : ℕ) → p < 8 → public_of s p ≡ public_of t p) → (p : ℕ) → p < 8 → (u : Public) → Fits s p u → Fits t p u
fits-shown s t shown p h u f =
    let same = shown p h in
    let there = ap (λ (v : Public). v.there) same in
    let size = ap (λ (v : Public). v.size) same in
    record {
      kept = λ e i. f.kept (there ∙ e) i ∙ size;
      room = λ e. rw (← used-shown s t shown) (f.room (there ∙ e));
    }

-- a process that keeps its public part has its place
pub fits_kept : (s : State) → Ready s → (p : ℕ) → Fits s p (public_of s p)
fits_kept s r p = record {
  kept = λ e i. refl;
  room = λ e. rw e (let all = (layout_of s r).fits in omega arith);
}

pair : {x y : Process} {bs cs : List ℕ} → x ≡ y → bs ≡ cs → local x bs ≡ local y cs
pair e q = ap₂ (λ (x : Process) (bs : List ℕ). local x bs) e q

-- no bytes
pub none_of : (bs : List ℕ) → length bs ≡ 0 → bs ≡ []
none_of [] e = refl
none_of (b ∷ bs) e = absurd (omega (arith, e))

-- ---- a process put back

-- which of the ways it is put, by whether it is there before and after
pub put_is : (p : ℕ) (l : Local) (s : State) (before after : Bool) → (record_of s p).there ≡ before → l.process.there ≡ after
    → put p l s ≡ cond before (cond after (put_in_place p l s) (taken_out p l s)) (cond after (put_last p l s) (put_in_place p l s))
unfolding put
put_is p l s before after e i =
    ap₂ (λ (b a : Bool). cond b (cond a (put_in_place p l s) (taken_out p l s)) (cond a (put_last p l s) (put_in_place p l s))) e i

-- one that is there, or absent, as before
pub put-stays : (p : ℕ) (l : Local) (s : State) → l.process.there ≡ (record_of s p).there → put p l s ≡ put_in_place p l s
put-stays p l s same = go (record_of s p).there refl
  where
    go : (t : Bool) → (record_of s p).there ≡ t → put p l s ≡ put_in_place p l s
    go true e = put_is p l s true true e (same ∙ e)
    go false e = put_is p l s false false e (same ∙ e)

-- as it is
pub put_same : (p : ℕ) (s : State) → put p (local_of s p) s ≡ s
unfolding put_in_place
put_same p s =
    put-stays p (local_of s p) s refl
    ∙ ap₂ (λ (ps : List Process) (m : List ℕ). record { records = record { processes = ps; starts = s.records.starts }; memory = m })
    (set-get_or s.records.processes p nobody)
    (with_slot-slot (start_of s.records p) (extent_at s.records p) s.memory)

-- where it lies, with its bytes laid over those that it had
in-place-over : (p : ℕ) (l : Local) (s : State) → put_in_place p (local l.process (overlay l.bytes (local_of s p).bytes)) s ≡ put_in_place p l s
unfolding put_in_place
in-place-over p l s =
    ap (λ (m : List ℕ). record { records = with_process p l.process s.records; memory = m })
    (with_slot-over (start_of s.records p) (extent_at s.records p) l.bytes s.memory)

-- so of one that was there, whether it stays or goes
pub put-over : (p : ℕ) (l : Local) (s : State) → (record_of s p).there ≡ true → put p (local l.process (overlay l.bytes (local_of s p).bytes)) s ≡ put p l s
unfolding taken_out
put-over p l s there = go l.process.there refl
  where
    over : Local
    over = local l.process (overlay l.bytes (local_of s p).bytes)

    go : (t : Bool) → l.process.there ≡ t → put p (local l.process (overlay l.bytes (local_of s p).bytes)) s ≡ put p l s
    go true e = put_is p over s true true there e ∙ in-place-over p l s ∙ sym (put_is p l s true true there e)
    go false e = put_is p over s true false there e ∙ sym (put_is p l s true false there e)

-- ---- another process put there

module _ (s : State) (r : Ready s) (p : ℕ) (h : p < 8) (l : Local) (g : Proper l) where
  -- a state that is s but for process p, with a memory and lists of their lengths and with a sound layout
  pub record After (t : State) : Type 0 where
    pub changed : Changed s t p l
    pub memory : length t.memory ≡ capacity
    pub processes : length t.records.processes ≡ 8
    pub starts : length t.records.starts ≡ 8
    pub layout : LaidOut t.records

  -- the record put, and the others
  record-here : get_or (with_process p l.process s.records).processes p nobody ≡ l.process
  record-here = get_or-set_same s.records.processes p l.process nobody (let e = r.processes in omega arith)

  record-else : (q : ℕ) → (q ≡ p → ⊥) → get_or (with_process p l.process s.records).processes q nobody ≡ record_of s q
  record-else q n = get_or-set_other s.records.processes p q l.process nobody n

  long : length (with_process p l.process s.records).processes ≡ 8
  long = length-set s.records.processes p l.process ∙ r.processes

  -- process p in a state with these records: so many bytes from its start on are those put
  here-is : (t : State) → t.records.processes ≡ (with_process p l.process s.records).processes
      → slot (start_of t.records p) (length l.bytes) t.memory ≡ l.bytes → local_of t p ≡ l
  here-is t e bytes =
      let record_is = ap (λ (ps : List Process). get_or ps p nobody) e ∙ record-here in
      pair record_is (ap (λ (n : ℕ). slot (start_of t.records p) n t.memory) (ap extent record_is ∙ sym g.tested.size) ∙ bytes)

  -- another process: where it is there, its bytes are those that it had
  else_is : (t : State) → t.records.processes ≡ (with_process p l.process s.records).processes → (q : ℕ) → q < 8 → (q ≡ p → ⊥)
      → ((record_of s q).there ≡ true → slot (start_of t.records q) (extent_at s.records q) t.memory ≡ (local_of s q).bytes) → local_of t q ≡ local_of s q
  unfolding slot
  else_is t e q i n known =
      let record_is = ap (λ (ps : List Process). get_or ps q nobody) e ∙ record-else q n in
      pair record_is (ap (λ (k : ℕ). slot (start_of t.records q) k t.memory) (ap extent record_is) ∙ go (record_of s q).there refl)
    where
      go : (b : Bool) → (record_of s q).there ≡ b → slot (start_of t.records q) (extent_at s.records q) t.memory ≡ (local_of s q).bytes
      go true b = known b
      go false b = rw (absent_none (record_of s q) b)

  -- ---- where it lies

  module _ (there : l.process.there ≡ (record_of s p).there) (same : length l.bytes ≡ extent_at s.records p) where
    -- one that is absent still has no bytes, and needs no place
    no_bytes : (record_of s p).there ≡ false → l.bytes ≡ []
    no_bytes e = none_of l.bytes (same ∙ absent_none (record_of s p) e)

    there-after : (record_of s p).there ≡ true → After (put_in_place p l s)
    unfolding put_in_place
    there-after e =
        let fits : start_of s.records p + length l.bytes ≤ length s.memory = omega (arith, inside s r p h e, same) in
        record {
          changed = record {
            here = here-is (put_in_place p l s) refl (slot_same (start_of s.records p) l.bytes s.memory fits);
            else = λ q i n. else_is (put_in_place p l s) refl q i n
                (λ t. slot-other (start_of s.records p) l.bytes s.memory fits (start_of s.records q) (extent_at s.records q)
                (rw same (starts_apart s.records (layout_of s r) p q h i n e t)));
          };
          memory = length-with_slot (start_of s.records p) l.bytes s.memory fits ∙ r.memory;
          processes = long;
          starts = r.starts;
          layout = layout-kept s.records r.processes (layout_of s r) p h l.process there (sym g.tested.size ∙ same);
        }

    -- nothing is written for one that is absent
    absent-memory : (l.bytes ≡ []) → (put_in_place p l s).memory ≡ s.memory
    unfolding put_in_place with_slot
    absent-memory e = rw e (take-append-drop (start_of s.records p) s.memory)

    absent-after : (record_of s p).there ≡ false → After (put_in_place p l s)
    unfolding put_in_place slot
    absent-after e =
        let none = no_bytes e in
        let still = absent-memory none in
        record {
          changed = record {
            here = here-is (put_in_place p l s) refl (rw none);
            else = λ q i n. else_is (put_in_place p l s) refl q i n (λ t. ap (slot (start_of s.records q) (extent_at s.records q)) still);
          };
          memory = ap (length {A = ℕ}) still ∙ r.memory;
          processes = long;
          starts = r.starts;
          layout = layout-kept s.records r.processes (layout_of s r) p h l.process there (sym g.tested.size ∙ same);
        }

    in-place-after : After (put_in_place p l s)
    in-place-after = go (record_of s p).there refl
      where
        go : (t : Bool) → (record_of s p).there ≡ t → After (put_in_place p l s)
        go true e = there-after e
        go false e = absent-after e

  -- ---- last

  last-after : (record_of s p).there ≡ false → l.process.there ≡ true → used s.records + length l.bytes ≤ capacity → After (put_last p l s)
  unfolding put_last
  last-after absent there room =
      let fits : used s.records + length l.bytes ≤ length s.memory = omega (arith, room, r.memory) in
      let here : get_or (put_last p l s).records.starts p 0 ≡ used s.records = get_or-set_same s.records.starts p (used s.records) 0 (let e = r.starts in omega arith) in
      let else : (q : ℕ) → (q ≡ p → ⊥) → get_or (put_last p l s).records.starts q 0 ≡ start_of s.records q = λ q n. get_or-set_other s.records.starts p q (used s.records) 0 n in
      record {
        changed = record {
          here = here-is (put_last p l s) refl
              (ap (λ (a : ℕ). slot a (length l.bytes) (put_last p l s).memory) here ∙ slot_same (used s.records) l.bytes s.memory fits);
          else = λ q i n. else_is (put_last p l s) refl q i n
              (λ t. ap (λ (a : ℕ). slot a (extent_at s.records q) (put_last p l s).memory) (else q n)
              ∙ slot-other (used s.records) l.bytes s.memory fits (start_of s.records q) (extent_at s.records q)
              (inl (start-inside s.records (layout_of s r) q i t)));
        };
        memory = length-with_slot (used s.records) l.bytes s.memory fits ∙ r.memory;
        processes = long;
        starts = length-set s.records.starts p (used s.records) ∙ r.starts;
        layout = layout-last s.records r.processes r.starts (layout_of s r) p h l.process absent there (rw (← g.tested.size) room) (sized_of s r);
      }

  -- ---- gone

  gone-after : (record_of s p).there ≡ true → l.process.there ≡ false → After (taken_out p l s)
  unfolding taken_out slot
  gone-after there absent =
      let at = start_of s.records p in
      let count = extent_at s.records p in
      let end = used s.records in
      let low : at + count ≤ end = start-inside s.records (layout_of s r) p h there in
      let within : end ≤ length s.memory = omega (arith, (layout_of s r).fits, r.memory) in
      let none = none_of l.bytes (g.tested.size ∙ absent_none l.process absent) in
      record {
        changed = record {
          here = here-is (taken_out p l s) refl (rw none);
          else = λ q i n. else_is (taken_out p l s) refl q i n (λ t. moved q i n t (starts_apart s.records (layout_of s r) p q h i n there t));
        };
        memory = length-closed at count end s.memory low within ∙ r.memory;
        processes = long;
        starts = length-starts_without p s.records;
        layout = layout-without s.records r.processes (layout_of s r) p h there l.process absent;
      }
    where
      moved : (q : ℕ) → q < 8 → (q ≡ p → ⊥) → (record_of s q).there ≡ true
          → (start_of s.records q + extent_at s.records q ≤ start_of s.records p) ⊎ (start_of s.records p + extent_at s.records p ≤ start_of s.records q)
          → slot (start_of (taken_out p l s).records q) (extent_at s.records q) (taken_out p l s).memory ≡ (local_of s q).bytes
      moved q i n t (inl under) =
          ap (λ (a : ℕ). slot a (extent_at s.records q) (taken_out p l s).memory) (start_under s.records p q i n t (omega (arith, under)))
          ∙ closed-below (start_of s.records p) (extent_at s.records p) (used s.records) s.memory
          (start-inside s.records (layout_of s r) p h there) (omega (arith, (layout_of s r).fits, r.memory)) (start_of s.records q) (extent_at s.records q) under
      moved q i n t (inr above) =
          ap (λ (a : ℕ). slot a (extent_at s.records q) (taken_out p l s).memory)
          (start-above s.records p q i n t (omega (arith, above, sized_of s r p h there)))
          ∙ closed-above (start_of s.records p) (extent_at s.records p) (used s.records) s.memory
          (start-inside s.records (layout_of s r) p h there) (omega (arith, (layout_of s r).fits, r.memory)) (start_of s.records q) (extent_at s.records q) above
          (start-inside s.records (layout_of s r) q i t)

  -- ---- whichever it is

  module _ (fits : Fits s p (public l.process)) where
    put-after : After (put p l s)
    unfolding public
    put-after = go (record_of s p).there refl l.process.there refl
      where
        stays : l.process.there ≡ (record_of s p).there → length l.bytes ≡ extent_at s.records p → After (put p l s)
        stays there same = subst After (sym (put-stays p l s there)) (in-place-after there same)

        go : (before : Bool) → (record_of s p).there ≡ before → (after : Bool) → l.process.there ≡ after → After (put p l s)
        go true b true a = stays (a ∙ sym b) (g.tested.size ∙ rw (a, b) (fits.kept b a))
        go true b false a = subst After (sym (put_is p l s true false b a)) (gone-after b a)
        go false b true a = subst After (sym (put_is p l s false true b a)) (last-after b a (rw g.tested.size (fits.room b)))
        go false b false a = stays (a ∙ sym b) (g.tested.size ∙ absent_none l.process a ∙ sym (absent_none (record_of s p) b))

    pub put-changed : Changed s (put p l s) p l
    put-changed = put-after.changed

    -- a fact of every record that holds of the one put and held of the others
    each_after : (F : Process → Type 0) → F l.process → ((q : ℕ) → q < 8 → F (record_of s q)) → (q : ℕ) → q < 8 → F (record_of (put p l s) q)
    each_after F here else q i = go (eqb q p) refl
      where
        go : (t : Bool) → eqb q p ≡ t → F (record_of (put p l s) q)
        go true e = subst (λ (x : Local). F x.process) (sym (ap (local_of (put p l s)) (eqb-true q p e) ∙ put-changed.here)) here
        go false e = subst (λ (x : Local). F x.process) (sym (put-changed.else q i (eqb-false q p e))) (else q i)

    eights : (q : ℕ) → q < 8 → length (record_of (put p l s) q).breaks ≡ 8
    eights = each_after (λ (x : Process). length x.breaks ≡ 8) g.eight r.entries

    pub put-ready : Ready (put p l s)
    put-ready = record {
      memory = put-after.memory;
      processes = put-after.processes;
      starts = put-after.starts;
      entries = eights;
      sound = state-passes (put p l s).records eights (record { each = each_after Sound (sound-of l g) (each-sound s r); layout = put-after.layout });
    }
