-- Laws of the seen memory: words that are put at different even addresses do not meet. Assumes nothing.
use mathlib.Core.Path.{◌≡◌, refl, sym, ap, ◌∙◌}
use mathlib.Core.Bool.{Bool, true, false, not, cond}
use mathlib.Core.List.{List, [], ◌∷◌, ◌++◌}
use Prim.Native.Nat.{ℕ, zero, suc, ◌+◌, ◌<◌, ◌%◌}
use native.Mathlib.Nat.{not-suc-le-zero}
use native.Mathlib.Numerals.{add-one}
use native.Mathlib.Omega.{arith}
use lib.ListN.{length, take, drop, get_or, set, length-set}
use lib.Seq.{drop-cons, take-suc, set_comm, set-set, set-get_or, get_or-set_same, get_or-set_other}
use borrow.Author.Tests.{eq-eqb, ne_eqb}
use Rattle.lists.proofs.Bool.{&&-left}
use Rattle.breakpoints.specs.declared.entry.Breakpoint.{Breakpoint}
use Rattle.breakpoints.specs.Entry.{free, in_use}
use Rattle.breakpoints.specs.Seen.{put_word, is_planted, restored, seen, planted, bpt_stored, overlay_saved_word, overlay_saved_words}

-- an entry that nobody set is free
pub none-set : (b : Breakpoint) → b.setter ≡ 0 → in_use b ≡ false
none-set b e = ap not (eq-eqb b.setter 0 e)

-- and one that somebody did is in use
pub some-set : (b : Breakpoint) → (b.setter ≡ 0 → ⊥) → in_use b ≡ true
some-set b n = ap not (ne_eqb b.setter 0 n)

-- a planted breakpoint is in use
pub planted-used : (b : Breakpoint) → is_planted b ≡ true → in_use b ≡ true
planted-used b e = &&-left (in_use b) (not b.lifted) e

-- ---- lengths

pub length-restored : (b : Breakpoint) (m : List ℕ) → length (restored b m) ≡ length m
unfolding restored
length-restored b m = go (is_planted b)
  where
    go : (t : Bool) → length (cond t (put_word b.address b.low b.high m) m) ≡ length m
    go true = simp length-set
    go false = refl

pub length_seen : (bs : List Breakpoint) (m : List ℕ) → length (seen bs m) ≡ length m
unfolding seen
length_seen [] m = refl
length_seen (b ∷ bs) m = length_seen bs (restored b m) ∙ length-restored b m

-- ---- a turn of the loop over the entries

pub overlay_saved_words-step : (at : ℕ) (bs : List Breakpoint) (out : List ℕ) (k : ℕ) → k < length bs
    → overlay_saved_words at (drop k bs) out ≡ overlay_saved_words at (drop (k + 1) bs) (overlay_saved_word at (get_or bs k free) out)
unfolding overlay_saved_words
overlay_saved_words-step at bs out k h = rw (drop-cons bs k free h, add-one k)

-- ---- words

-- a word put twice at an address is put once
pub put_word-again : (a x y u v : ℕ) (m : List ℕ) → put_word a x y (put_word a u v m) ≡ put_word a x y m
put_word-again a x y u v m =
    let n : a + 1 ≡ a → ⊥ = λ e. absurd (omega arith) in
    ap (λ (l : List ℕ). set l (a + 1) y) (set_comm (set m a u) (a + 1) a v x n ∙ ap (λ (l : List ℕ). set l (a + 1) v) (set-set m a u x))
    ∙ set-set (set m a x) (a + 1) v y

-- the word that stands there changes nothing
pub put_word-same : (a : ℕ) (m : List ℕ) → put_word a (get_or m a 0) (get_or m (a + 1) 0) m ≡ m
put_word-same a m = ap (λ (l : List ℕ). set l (a + 1) (get_or m (a + 1) 0)) (set-get_or m a 0) ∙ set-get_or m (a + 1) 0

-- two different even addresses, whose words do not meet
pub record Distinct (a b : ℕ) : Type 0 where
  pub different : a ≡ b → ⊥
  pub even : a % 2 ≡ 0
  pub even-too : b % 2 ≡ 0

pub put_word-comm : (a b x y u v : ℕ) (m : List ℕ) → Distinct a b → put_word a x y (put_word b u v m) ≡ put_word b u v (put_word a x y m)
put_word-comm a b x y u v m d =
    let n0 : b ≡ a → ⊥ = λ e. d.different (sym e) in
    let n1 : b + 1 ≡ a → ⊥ = λ e. absurd (omega (arith, d.even, d.even-too)) in
    let n2 : b ≡ a + 1 → ⊥ = λ e. absurd (omega (arith, d.even, d.even-too)) in
    let n3 : b + 1 ≡ a + 1 → ⊥ = λ e. d.different (omega arith) in
    ap (λ (l : List ℕ). set l (a + 1) y) (set_comm (set m b u) (b + 1) a v x n1 ∙ ap (λ (l : List ℕ). set l (b + 1) v) (set_comm m b a u x n0))
    ∙ set_comm (set (set m a x) b u) (b + 1) (a + 1) v y n3
    ∙ ap (λ (l : List ℕ). set l (b + 1) v) (set_comm (set m a x) b (a + 1) u y n2)

-- ---- breakpoints whose words do not meet

abbrev pub Spaced : Breakpoint → Breakpoint → Type 0
Spaced b c = is_planted b ≡ true → is_planted c ≡ true → Distinct b.address c.address

pub restored-planted : (b : Breakpoint) (m : List ℕ) → is_planted b ≡ true → restored b m ≡ put_word b.address b.low b.high m
unfolding restored
restored-planted b m e = rw e

pub restored-not : (b : Breakpoint) (m : List ℕ) → is_planted b ≡ false → restored b m ≡ m
unfolding restored
restored-not b m e = rw e

pub restored-comm : (b c : Breakpoint) (m : List ℕ) → Spaced b c → restored b (restored c m) ≡ restored c (restored b m)
unfolding restored
restored-comm b c m d = go (is_planted b) refl (is_planted c) refl
  where
    go : (s : Bool) → is_planted b ≡ s → (t : Bool) → is_planted c ≡ t
        → cond s (put_word b.address b.low b.high (cond t (put_word c.address c.low c.high m) m)) (cond t (put_word c.address c.low c.high m) m)
        ≡ cond t (put_word c.address c.low c.high (cond s (put_word b.address b.low b.high m) m)) (cond s (put_word b.address b.low b.high m) m)
    go true p true q = put_word-comm b.address c.address b.low b.high c.low c.high m (d p q)
    go true p false q = refl
    go false p true q = refl
    go false p false q = refl

-- ---- the seen memory, one breakpoint at a time

pub seen-snoc : (bs : List Breakpoint) (b : Breakpoint) (m : List ℕ) → seen (bs ++ (b ∷ [])) m ≡ restored b (seen bs m)
unfolding seen
seen-snoc [] b m = refl
seen-snoc (c ∷ bs) b m = seen-snoc bs b (restored c m)

-- one more breakpoint, as a loop takes them
pub seen_step : (bs : List Breakpoint) (m : List ℕ) (k : ℕ) → k < length bs → seen (take (k + 1) bs) m ≡ restored (get_or bs k free) (seen (take k bs) m)
seen_step bs m k h = rw (add-one k, take-suc bs k free h) (seen-snoc (take k bs) (get_or bs k free) m)

-- a breakpoint may be put back before or after others whose words it does not meet
pub seen-restored : (bs : List Breakpoint) (b : Breakpoint) (m : List ℕ) → ((j : ℕ) → j < length bs → Spaced (get_or bs j free) b) → seen bs (restored b m) ≡ restored b (seen bs m)
unfolding seen
seen-restored [] b m d = refl
seen-restored (c ∷ bs) b m d =
    rw (restored-comm c b m (d 0 (omega arith))) (seen-restored bs b (restored c m) (λ j h. d (suc j) (omega arith)))

-- ---- a breakpoint that is no longer planted: its word was put back, and nothing that is seen has changed

pub seen-unplanted : (bs : List Breakpoint) (k : ℕ) (b : Breakpoint) (m : List ℕ) → k < length bs → is_planted b ≡ false
    → ((j : ℕ) → j < k → Spaced (get_or bs j free) (get_or bs k free)) → seen (set bs k b) (restored (get_or bs k free) m) ≡ seen bs m
unfolding seen
seen-unplanted [] k b m h n d = absurd (not-suc-le-zero h)
seen-unplanted (c ∷ bs) zero b m h n d = ap (seen bs) (restored-not b (restored c m) n)
seen-unplanted (c ∷ bs) (suc k) b m h n d =
    ap (seen (set bs k b)) (restored-comm c (get_or bs k free) m (d 0 (omega arith)))
    ∙ seen-unplanted bs k b (restored c m) (omega arith) n (λ j l. d (suc j) (omega arith))

-- ---- a breakpoint that is planted where none was: it saved the word, so nothing that is seen has changed

pub seen-planted : (bs : List Breakpoint) (k : ℕ) (b : Breakpoint) (m : List ℕ) → k < length bs → is_planted (get_or bs k free) ≡ false → in_use b ≡ true
    → ((j : ℕ) → j < k → Spaced (get_or bs j free) (planted m b)) → seen (set bs k (planted m b)) (bpt_stored b m) ≡ seen bs m
seen-planted bs k b m h none u d =
    let c = planted m b in
    let bs' = set bs k c in
    let here : get_or bs' k free ≡ c = get_or-set_same bs k c free h in
    let stands : is_planted c ≡ true = rw u in
    let back : restored c (bpt_stored b m) ≡ m = restored-planted c (bpt_stored b m) stands ∙ put_word-again b.address _ _ 3 0 m ∙ put_word-same b.address m in
    let old : set bs' k (get_or bs k free) ≡ bs = set-set bs k c (get_or bs k free) ∙ set-get_or bs k free in
    let spaced : (j : ℕ) → j < k → Spaced (get_or bs' j free) (get_or bs' k free) =
    λ j l. rw (here, get_or-set_other bs k j c free (λ e. absurd (omega arith))) (d j l) in
    let e = seen-unplanted bs' k (get_or bs k free) (bpt_stored b m) (rw (length-set bs k c) h) none spaced in
    sym (rw (old, here, back) at e)

-- ---- an entry that differs in its count alone

pub seen_alike : (bs : List Breakpoint) (k : ℕ) (b : Breakpoint) (m : List ℕ) → ((x : List ℕ) → restored b x ≡ restored (get_or bs k free) x) → seen (set bs k b) m ≡ seen bs m
unfolding seen
seen_alike [] k b m e = refl
seen_alike (c ∷ bs) zero b m e = ap (seen bs) (e m)
seen_alike (c ∷ bs) (suc k) b m e = seen_alike bs k b (restored c m) e
