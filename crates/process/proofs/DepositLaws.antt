-- Laws of DEPOSIT: the saved words and the words in memory are exchanged, the bytes are laid over what is then in memory, which is
-- what is seen, and the words are exchanged back. Assumes nothing.
use mathlib.Core.Path.{◌≡◌, refl, sym, ap, ◌∙◌}
use mathlib.Core.Bool.{Bool, true, false, cond}
use mathlib.Core.List.{List, [], ◌∷◌, map}
use Prim.Native.Nat.{ℕ, zero, suc, ◌+◌, ◌<◌}
use native.Mathlib.Nat.{not-suc-le-zero}
use native.Mathlib.Omega.{arith}
use lib.ListN.{length, take, get_or, set, length-map}
use lib.Seq.{get_or-set_other, get_or-take, length-take-le}
use Rattle.breakpoints.specs.declared.entry.Breakpoint.{Breakpoint}
use Rattle.breakpoints.specs.Entry.{free, with_saved}
use Rattle.breakpoints.specs.Seen.{put_word, is_planted, restored, seen, saved_from}
use Rattle.process.specs.Record.{count_used}
use Rattle.process.specs.Request.{sheltered}
use Rattle.breakpoints.proofs.SeenLaws.{Spaced, put_word-again, put_word-same, restored-planted, restored-not, seen-restored}
use Rattle.process.proofs.CountLaws.{count_map}
use Rattle.process.proofs.SoundLaws.{Alike}

-- ---- a byte that no planted breakpoint covers

getD-put_word-other : (a x y i : ℕ) (m : List ℕ) → (i ≡ a → ⊥) → (i ≡ a + 1 → ⊥) → get_or (put_word a x y m) i 0 ≡ get_or m i 0
getD-put_word-other a x y i m n0 n1 = get_or-set_other (set m a x) (a + 1) i y 0 n1 ∙ get_or-set_other m a i x 0 n0

-- a byte outside the word of a breakpoint
pub record Beside (i : ℕ) (b : Breakpoint) : Type 0 where
  pub low : i ≡ b.address → ⊥
  pub high : i ≡ b.address + 1 → ⊥

pub getD-seen-beside : (bs : List Breakpoint) (m : List ℕ) (i : ℕ) → ((j : ℕ) → j < length bs → is_planted (get_or bs j free) ≡ true → Beside i (get_or bs j free))
    → get_or (seen bs m) i 0 ≡ get_or m i 0
unfolding seen
getD-seen-beside [] m i n = refl
getD-seen-beside (b ∷ bs) m i n =
    getD-seen-beside bs (restored b m) i (λ j h. n (suc j) (omega arith)) ∙ go (is_planted b) refl
  where
    go : (t : Bool) → is_planted b ≡ t → get_or (restored b m) i 0 ≡ get_or m i 0
    go true e =
        let o = n 0 (omega arith) e in
        ap (λ (l : List ℕ). get_or l i 0) (restored-planted b m e) ∙ getD-put_word-other b.address b.low b.high i m o.low o.high
    go false e = ap (λ (l : List ℕ). get_or l i 0) (restored-not b m e)

-- the word of a breakpoint that others do not meet stands as it did
module _ (bs : List Breakpoint) (b : Breakpoint) (m : List ℕ) (p : is_planted b ≡ true) (d : (j : ℕ) → j < length bs → Spaced (get_or bs j free) b) where
  pub low-beside : get_or (seen bs m) b.address 0 ≡ get_or m b.address 0
  low-beside =
      getD-seen-beside bs m b.address
      (λ j h q. let x = d j h q p in record { low = λ e. x.different (sym e); high = λ e. absurd (omega (arith, x.even, x.even-too)) })

  pub high-beside : get_or (seen bs m) (b.address + 1) 0 ≡ get_or m (b.address + 1) 0
  high-beside =
      getD-seen-beside bs m (b.address + 1)
      (λ j h q. let x = d j h q p in record { low = λ e. absurd (omega (arith, x.even, x.even-too)); high = λ e. x.different (omega arith) })

-- ---- a saved word taken from a list

pub saved_from-alike : (s : List ℕ) (b : Breakpoint) → Alike (saved_from s b) b
unfolding saved_from
saved_from-alike s b = go (is_planted b)
  where
    go : (t : Bool) → Alike (cond t (with_saved (get_or s b.address 0) (get_or s (b.address + 1) 0) b) b) b
    go true = record { used = refl; lifted = refl; address = refl; setter = refl }
    go false = record { used = refl; lifted = refl; address = refl; setter = refl }

pub saved_from-planted : (s : List ℕ) (b : Breakpoint) → is_planted (saved_from s b) ≡ is_planted b
saved_from-planted s b = let a = saved_from-alike s b in rw (a.used, a.lifted)

pub saved_from-again : (s m : List ℕ) (b : Breakpoint) → saved_from s (saved_from m b) ≡ saved_from s b
unfolding saved_from
saved_from-again s m b = go (is_planted b) refl
  where
    go : (t : Bool) → is_planted b ≡ t → saved_from s (cond t (with_saved (get_or m b.address 0) (get_or m (b.address + 1) 0) b) b)
        ≡ cond t (with_saved (get_or s b.address 0) (get_or s (b.address + 1) 0) b) b
    go true e = rw e
    go false e = rw e

pub map-again : (s m : List ℕ) (bs : List Breakpoint) → map (saved_from s) (map (saved_from m) bs) ≡ map (saved_from s) bs
map-again s m [] = refl
map-again s m (b ∷ bs) = rw (saved_from-again s m b, map-again s m bs)

-- two lists that agree at a breakpoint's word give it the same saved word
pub saved_from-agree : (s m : List ℕ) (b : Breakpoint) → (is_planted b ≡ true → get_or s b.address 0 ≡ get_or m b.address 0)
    → (is_planted b ≡ true → get_or s (b.address + 1) 0 ≡ get_or m (b.address + 1) 0) → saved_from s b ≡ saved_from m b
unfolding saved_from
saved_from-agree s m b l h = go (is_planted b) refl
  where
    go : (t : Bool) → is_planted b ≡ t → cond t (with_saved (get_or s b.address 0) (get_or s (b.address + 1) 0) b) b
        ≡ cond t (with_saved (get_or m b.address 0) (get_or m (b.address + 1) 0) b) b
    go true e = rw (l e, h e)
    go false e = refl

-- an entry of the mapped list is alike
pub map-alike : (s : List ℕ) (bs : List Breakpoint) (k : ℕ) → k < length bs → Alike (get_or (map (saved_from s) bs) k free) (get_or bs k free)
map-alike s [] k h = absurd (not-suc-le-zero h)
map-alike s (b ∷ bs) zero h = saved_from-alike s b
map-alike s (b ∷ bs) (suc k) h = map-alike s bs k (omega arith)

-- and as many of them are in use
pub count-saved : (s : List ℕ) (bs : List Breakpoint) → count_used (map (saved_from s) bs) ≡ count_used bs
count-saved s bs = count_map (saved_from s) bs (λ b. (saved_from-alike s b).used)

-- ---- spacing goes by what is alike

pub alike_refl : (b : Breakpoint) → Alike b b
alike_refl b = record { used = refl; lifted = refl; address = refl; setter = refl }

pub alike-planted : {b c : Breakpoint} → Alike b c → is_planted b ≡ is_planted c
alike-planted a = rw (a.used, a.lifted)

pub spaced-alike : {b c x y : Breakpoint} → Alike b x → Alike c y → Spaced x y → Spaced b c
spaced-alike a e d p q =
    let g = d (sym (alike-planted a) ∙ p) (sym (alike-planted e) ∙ q) in
    rw (a.address, e.address) g

pub spaced-flip : (b c : Breakpoint) → Spaced b c → Spaced c b
spaced-flip b c d p q = let g = d q p in record { different = λ e. g.different (sym e); even = g.even-too; even-too = g.even }

-- ---- what is to be seen is seen

-- breakpoints that pairwise do not meet
abbrev pub AllSpaced : List Breakpoint → Type 0
AllSpaced bs = (j k : ℕ) → j < k → k < length bs → Spaced (get_or bs j free) (get_or bs k free)

-- a breakpoint's word, put back from s over a memory that agrees with s there
put_back : (s m y : List ℕ) (b : Breakpoint) → (is_planted b ≡ true → get_or y b.address 0 ≡ get_or s b.address 0)
    → (is_planted b ≡ true → get_or y (b.address + 1) 0 ≡ get_or s (b.address + 1) 0) → restored (saved_from s b) (restored (saved_from m b) y) ≡ y
unfolding restored saved_from
put_back s m y b l h = go (is_planted b) refl
  where
    a : ℕ
    a = b.address

    of : List ℕ → Bool → Breakpoint
    of x t = cond t (with_saved (get_or x a 0) (get_or x (a + 1) 0) b) b

    go : (t : Bool) → is_planted b ≡ t → restored (of s t) (restored (of m t) y) ≡ y
    go true e =
        rw e
        (put_word-again a (get_or s a 0) (get_or s (a + 1) 0) (get_or m a 0) (get_or m (a + 1) 0) y
        ∙ rw (← l e, ← h e) (put_word-same a y))
    go false e = rw e

module _ (b : Breakpoint) (bs : List Breakpoint) (m : List ℕ) (d : AllSpaced (b ∷ bs)) where
  -- the entries after the first do not meet it, whatever their saved words
  spaced-first : (j : ℕ) → j < length (map (saved_from m) bs) → Spaced (get_or (map (saved_from m) bs) j free) b
  spaced-first j h =
      let l : j < length bs = rw (length-map bs (saved_from m)) at h in
      spaced-alike (map-alike m bs j l) (alike_refl b) (spaced-flip b (get_or bs j free) (d 0 (suc j) (omega arith) (omega arith)))

pub sheltered-seen : (bs : List Breakpoint) (m s : List ℕ) → AllSpaced bs → seen (map (saved_from s) bs) (sheltered bs m s) ≡ s
unfolding seen sheltered
sheltered-seen [] m s d = refl
sheltered-seen (b ∷ bs) m s d =
    let rest = map (saved_from m) bs in
    let near = spaced-first b bs m d in
    let inner : seen rest (restored (saved_from m b) s) ≡ restored (saved_from m b) (seen rest s) =
    seen-restored rest (saved_from m b) s (λ j h. spaced-alike (alike_refl (get_or rest j free)) (saved_from-alike m b) (near j h)) in
    ap (λ (x : List ℕ). seen (map (saved_from s) bs) (restored (saved_from s b) x)) inner
    ∙ ap (seen (map (saved_from s) bs)) (put_back s m (seen rest s) b (λ p. low-beside rest b s p near) (λ p. high-beside rest b s p near))
    ∙ sheltered-seen bs m s (λ j k l h. d (suc j) (suc k) (omega arith) (omega arith))

-- ---- the exchange, as a loop makes it

-- the word that the next breakpoint takes is still that of the memory before
pub saved_from-passed : (bs : List Breakpoint) (m : List ℕ) (k : ℕ) → k < length bs → AllSpaced bs → saved_from (seen (take k bs) m) (get_or bs k free) ≡ saved_from m (get_or bs k free)
saved_from-passed bs m k h d =
    let b = get_or bs k free in
    let short : length (take k bs) ≡ k = length-take-le k bs (omega arith) in
    let spaced : (j : ℕ) → j < length (take k bs) → Spaced (get_or (take k bs) j free) b =
    λ j l. let i : j < k = omega arith in rw (get_or-take k bs j free i) (d j k i h) in
    saved_from-agree (seen (take k bs) m) m b (λ p. low-beside (take k bs) b m p spaced) (λ p. high-beside (take k bs) b m p spaced)
