-- Laws of the block that is sent. Assumes nothing.
use Rattle.std.proofs.Common.{Some, None}
use Rattle.std.proofs.lemmas.Option.{some_pair_parts}
use mathlib.Core.Path.{◌≡◌, refl, ap, ◌∙◌}
use mathlib.Core.Bool.{Bool, true, false, cond}
use mathlib.Core.List.{List}
use mathlib.Core.Logic.{◌⊎◌, inl, inr}
use Prim.Native.Nat.{ℕ, zero, suc, ◌-◌, ◌*◌, ◌/◌, ◌%◌, ◌^◌, ◌≤◌, ◌<◌}
use native.Mathlib.Omega.{arith}
use borrow.Author.Tests.{eqb-false, eq-eqb, ne_eqb}
use lib.ListN.{length, get_or-eq_default}
use lib.Dec.{eqb}
use Rattle.packets.specs.declared.units.WordAddress.{WordAddress}
use Rattle.packets.specs.declared.units.WordCount.{WordCount}
use Rattle.packets.specs.declared.units.ByteCount.{ByteCount}
use Rattle.packets.specs.Units.{word_count, holds}
use Rattle.packets.specs.Data.{asked}
use Rattle.packets.specs.Block.{may_ask, sendable, none_or_sendable, length_to_send, base_of, half, halved_to_fit, block_for}
use Rattle.packets.specs.Theorems.{SentFor, BlocksFit}
use Rattle.packets.proofs.UnitLaws.{holds-within}
use Rattle.packets.proofs.LengthLaws.{sendable-some, sendable-power, powers, only-powers, sendable-most, some-sendable, half-sendable, twice_half, base-before, base-near, base-divisible, to-send-sendable, to-send-none, to-send-none-or, to-send-asked, to-send-longest}

-- ---- one length after the other

module _ (size : ByteCount) (at : WordAddress) (n : WordCount) where
  -- of no words there is no block
  pub halved_none : (k : ℕ) → n.0 ≡ 0 → halved_to_fit k size at n ≡ None
  unfolding halved_to_fit
  halved_none zero e = refl
  halved_none (suc k) e = rw (eq-eqb n.0 0 e)

  -- a length that fits is sent
  pub halved-fits : (k : ℕ) → 0 < n.0 → n.0 < 2 ^ k → holds size (base_of at n) n ≡ true → halved_to_fit k size at n ≡ Some (base_of at n, n)
  unfolding halved_to_fit
  halved-fits zero h l e = absurd (omega arith)
  halved-fits (suc k) h l e = rw (ne_eqb n.0 0 (λ z. omega arith), e)

  -- another is halved
  pub halved-next : (k : ℕ) → 0 < n.0 → n.0 < 2 ^ k → holds size (base_of at n) n ≡ false
      → (m : ℕ) × ((half n).0 < 2 ^ m) × (halved_to_fit m size at (half n) ≡ halved_to_fit k size at n)
  unfolding halved_to_fit
  halved-next zero h l e = absurd (omega arith)
  halved-next (suc k) h l e = (k, omega arith, rw (ne_eqb n.0 0 (λ z. omega arith), e))

-- ---- what is sent

-- a block of so many words at most, by what was tried
pub record Halved (size : ByteCount) (at : WordAddress) (n : WordCount) (base : WordAddress) (count : WordCount) : Type 0 where
  pub power : sendable count.0 ≡ true
  pub own-base : base ≡ base_of at count
  pub held : holds size base count ≡ true
  pub not-over : count.0 ≤ n.0
  pub tried : (count.0 ≡ n.0) ⊎ (holds size (base_of at (word_count (2 * count.0))) (word_count (2 * count.0)) ≡ false)

-- half of a length was sent: twice that did not fit
pub halved-further : (size : ByteCount) (at : WordAddress) (n : WordCount) (base : WordAddress) (count : WordCount) → sendable n.0 ≡ true
    → holds size (base_of at n) n ≡ false → Halved size at (half n) base count → Halved size at n base count
halved-further size at n base count e out h =
    record { power = h.power; own-base = h.own-base; held = h.held; not-over = omega (arith, h.not-over); tried = go h.tried }
  where
    go : (count.0 ≡ n.0 / 2) ⊎ (holds size (base_of at (word_count (2 * count.0))) (word_count (2 * count.0)) ≡ false)
        → (count.0 ≡ n.0) ⊎ (holds size (base_of at (word_count (2 * count.0))) (word_count (2 * count.0)) ≡ false)
    go (inr f) = inr f
    go (inl q) =
        let whole : 2 * count.0 ≡ n.0 = ap (λ (m : ℕ). 2 * m) q ∙ twice_half n.0 e (omega (arith, q, sendable-some count.0 h.power)) in
        inr (rw whole out)

pub halved-sent : (k : ℕ) (size : ByteCount) (at : WordAddress) (n : WordCount) (base : WordAddress) (count : WordCount) → none_or_sendable n.0 ≡ true
    → halved_to_fit k size at n ≡ Some (base, count) → Halved size at n base count
unfolding halved_to_fit
halved-sent zero size at n base count e q = let z : ◌≡◌ {A = ℕ} 0 1 = cc in absurd (omega arith)
halved-sent (suc k) size at n base count e q = go (eqb n.0 0) (holds size (base_of at n) n) refl refl q (λ length w. halved-sent k size at (half n) base count (half-sendable n.0 length) w)
  where
    go : (s t : Bool) → eqb n.0 0 ≡ s → holds size (base_of at n) n ≡ t
        → cond s None (cond t (Some (base_of at n, n)) (halved_to_fit k size at (half n))) ≡ Some (base, count)
        → (sendable n.0 ≡ true → halved_to_fit k size at (half n) ≡ Some (base, count) → Halved size at (half n) base count) → Halved size at n base count
    go true t f g w rest = let z : ◌≡◌ {A = ℕ} 0 1 = cc in absurd (omega arith)
    go false true f g w rest =
        let both = some_pair_parts (base_of at n) base n count w in
        let same_base : base_of at n ≡ base = both.0 in
        let same_count : n ≡ count = both.1 in
        let length : sendable n.0 ≡ true = some-sendable n.0 e (omega (arith, eqb-false n.0 0 f)) in
        rw (← same_base, ← same_count) (record { power = length; own-base = refl; held = g; not-over = omega arith; tried = inl refl })
    go false false f g w rest =
        let length : sendable n.0 ≡ true = some-sendable n.0 e (omega (arith, eqb-false n.0 0 f)) in
        halved-further size at n base count length g (rest length w)

-- ---- one word always fits

-- the block of one word begins at the word
pub base-of-one : (at : WordAddress) → base_of at (word_count 1) ≡ at
unfolding base_of
base-of-one at = let e : at.0 - at.0 % 1 ≡ at.0 = omega arith in rw e

-- so a length that does not fit where the word does has a half
pub half-left : (size : ByteCount) (at : WordAddress) (n : WordCount) → sendable n.0 ≡ true → holds size at (word_count 1) ≡ true
    → holds size (base_of at n) n ≡ false → 0 < n.0 / 2
half-left size at n e one out = let h : n.0 / 2 ≡ 0 → ⊥ = alone in omega arith
  where
    alone : n.0 / 2 ≡ 0 → ⊥
    alone z =
        let single : n.0 ≡ 1 = omega (arith, sendable-some n.0 e) in
        let same : n ≡ word_count 1 = rw (← single) in
        let fits : holds size (base_of at n) n ≡ true = rw (same, base-of-one at) one in
        let c : ◌≡◌ {A = ℕ} 0 1 = cc in
        omega arith

pub halved-some : (k : ℕ) (size : ByteCount) (at : WordAddress) (n : WordCount) → n.0 < 2 ^ k → sendable n.0 ≡ true → holds size at (word_count 1) ≡ true
    → (base : WordAddress) × (count : WordCount) × (halved_to_fit k size at n ≡ Some (base, count))
unfolding halved_to_fit
halved-some zero size at n l e one = absurd (omega (arith, sendable-some n.0 e))
halved-some (suc k) size at n l e one =
    go (holds size (base_of at n) n) refl
    (λ out. halved-some k size at (half n) (omega arith) (some-sendable (n.0 / 2) (half-sendable n.0 e) (half-left size at n e one out)) one)
  where
    go : (t : Bool) → holds size (base_of at n) n ≡ t
        → (holds size (base_of at n) n ≡ false → (base : WordAddress) × (count : WordCount) × (halved_to_fit k size at (half n) ≡ Some (base, count)))
        → (base : WordAddress) × (count : WordCount) × (halved_to_fit (suc k) size at n ≡ Some (base, count))
    go true f rest = (base_of at n, n, halved-fits size at n (suc k) (sendable-some n.0 e) l f)
    go false f rest =
        let r = rest f in
        (r.0, r.1, rw (ne_eqb n.0 0 (λ z. omega (arith, sendable-some n.0 e)), f) r.2)

-- ---- the block for a packet

pub sent-for : (size : ByteCount) (at : WordAddress) (words : List ℕ) (base : WordAddress) (count : WordCount)
    → block_for size at words ≡ Some (base, count) → SentFor size at words base count
unfolding block_for base_of
sent-for size at words base count e = record {
  from-base = rw own (base-before at.0 count.0);
  before-end = rw own (base-near at.0 count.0 h.power);
  power = sendable-power count.0 h.power;
  sendable-length = h.power;
  not-over-32 = sendable-most count.0 h.power;
  not-over-asked = omega (arith, h.not-over, to-send-asked n);
  divisible = rw own (base-divisible at.0 count.0 h.power);
  own-base = h.own-base;
  within = holds-within size base count h.held;
  longest = λ few less. go h.tried few less;
}
  where
    n : WordCount
    n = asked words

    h : Halved size at (length_to_send n) base count
    h = halved-sent 6 size at (length_to_send n) base count (to-send-none-or n) e

    own : base.0 ≡ at.0 - at.0 % count.0
    own = ap (λ (b : WordAddress). b.0) h.own-base

    go : (count.0 ≡ (length_to_send n).0) ⊎ (holds size (base_of at (word_count (2 * count.0))) (word_count (2 * count.0)) ≡ false)
        → 2 * count.0 ≤ 32 → 2 * count.0 ≤ n.0 → holds size (base_of at (word_count (2 * count.0))) (word_count (2 * count.0)) ≡ false
    go (inr out) few less = out
    go (inl q) few less = absurd (to-send-longest n (omega (arith, q, sendable-some count.0 h.power)) (omega arith) (omega arith))

pub some_block : (size : ByteCount) (at : WordAddress) (words : List ℕ) → may_ask (asked words).0 ≡ true → holds size at (word_count 1) ≡ true
    → (base : WordAddress) × (count : WordCount) × (block_for size at words ≡ Some (base, count))
unfolding block_for
some_block size at words e one =
    let length = to-send-sendable (asked words) e in
    halved-some 6 size at (length_to_send (asked words)) (omega (arith, sendable-most (length_to_send (asked words)).0 length)) length one

pub no_block : (size : ByteCount) (at : WordAddress) (words : List ℕ) → may_ask (asked words).0 ≡ false → block_for size at words ≡ None
unfolding block_for
no_block size at words e = halved_none size at (length_to_send (asked words)) 6 (to-send-none (asked words) e)

pub two-words : (size : ByteCount) (at : WordAddress) (words : List ℕ) → length words ≤ 2 → block_for size at words ≡ None
unfolding may_ask sendable
two-words size at words h = no_block size at words (rw (get_or-eq_default words 0 h))

pub blocks-fit : BlocksFit
blocks-fit = record { powers = powers; only-powers = only-powers; sent = sent-for; some_block = some_block; no_block = no_block; two-words = two-words }
