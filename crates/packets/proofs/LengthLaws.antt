-- Laws of the lengths that a block may have. Assumes nothing.
use mathlib.Core.Path.{◌≡◌, refl}
use mathlib.Core.Bool.{Bool, true, false, cond, ◌||◌}
use Prim.Native.Nat.{ℕ, ◌-◌, ◌+◌, ◌*◌, ◌/◌, ◌%◌, ◌^◌, ◌≤◌, ◌<◌}
use native.Mathlib.Omega.{arith}
use borrow.Author.Tests.{eqb-true, leb-true, leb-false}
use lib.Dec.{eqb, leb}
use Rattle.lists.proofs.Every.{below_at}
use Rattle.packets.specs.declared.units.WordCount.{WordCount}
use Rattle.packets.specs.Units.{word_count}
use Rattle.packets.specs.Block.{sendable, none_or_sendable, may_ask, length_to_send}

-- a number that is k, or passes another test
one-of : (P : ℕ → Type 0) (n k : ℕ) (rest : Bool) → P k → (rest ≡ true → P n) → eqb n k || rest ≡ true → P n
one-of P n k rest p others e = go (eqb n k) refl e
  where
    go : (t : Bool) → eqb n k ≡ t → t || rest ≡ true → P n
    go true q r = rw (eqb-true n k q) p
    go false q r = others r

-- what holds of the six lengths holds of each that may be sent
pub by_length : (P : ℕ → Type 0) (n : ℕ) → sendable n ≡ true → P 1 → P 2 → P 4 → P 8 → P 16 → P 32 → P n
unfolding sendable
by_length P n e p q r s t u =
    one-of P n 1 _ p (one-of P n 2 _ q (one-of P n 4 _ r (one-of P n 8 _ s (one-of P n 16 _ t (λ f. rw (eqb-true n 32 f) u))))) e

-- there is one word at least, and 32 at most
pub sendable-some : (n : ℕ) → sendable n ≡ true → 0 < n
sendable-some n e = by_length (λ (m : ℕ). 0 < m) n e (omega arith) (omega arith) (omega arith) (omega arith) (omega arith) (omega arith)

pub sendable-most : (n : ℕ) → sendable n ≡ true → n ≤ 32
sendable-most n e = by_length (λ (m : ℕ). m ≤ 32) n e (omega arith) (omega arith) (omega arith) (omega arith) (omega arith) (omega arith)

-- each is a power of two
pub sendable-power : (n : ℕ) → sendable n ≡ true → (k : ℕ) × (n ≡ 2 ^ k)
sendable-power n e = by_length (λ (m : ℕ). (k : ℕ) × (m ≡ 2 ^ k)) n e (0, refl) (1, refl) (2, refl) (3, refl) (4, refl) (5, refl)

-- no words, or a length
pub none_or : (P : ℕ → Type 0) (n : ℕ) → none_or_sendable n ≡ true → P 0 → (sendable n ≡ true → P n) → P n
unfolding none_or_sendable
none_or P n e p others = one-of P n 0 _ p others e

pub some-sendable : (n : ℕ) → none_or_sendable n ≡ true → 0 < n → sendable n ≡ true
some-sendable n e h = none_or (λ (m : ℕ). 0 < m → sendable m ≡ true) n e (λ z. absurd (omega arith)) (λ s z. s) h

pub none-or-most : (n : ℕ) → none_or_sendable n ≡ true → n ≤ 32
none-or-most n e = none_or (λ (m : ℕ). m ≤ 32) n e (omega arith) (sendable-most n)

-- half of a length is a length, or nothing is left
pub half-sendable : (n : ℕ) → sendable n ≡ true → none_or_sendable (n / 2) ≡ true
unfolding sendable none_or_sendable
half-sendable n e = by_length (λ (m : ℕ). none_or_sendable (m / 2) ≡ true) n e refl refl refl refl refl refl

-- and twice that half is the length again
pub twice_half : (n : ℕ) → sendable n ≡ true → 0 < n / 2 → 2 * (n / 2) ≡ n
twice_half n e h = by_length (λ (m : ℕ). 0 < m / 2 → 2 * (m / 2) ≡ m) n e (λ z. absurd (omega arith)) (λ _. refl) (λ _. refl) (λ _. refl) (λ _. refl) (λ _. refl) h

-- ---- the base

-- the multiple of a length that an address has reached is at most the address, less than a length before it, and a multiple
pub base-before : (a n : ℕ) → a - a % n ≤ a
base-before a n = omega arith

pub base-near : (a n : ℕ) → sendable n ≡ true → a < a - a % n + n
base-near a n e =
    by_length (λ (m : ℕ). a < a - a % m + m) n e (omega arith) (omega arith) (omega arith) (omega arith) (omega arith) (omega arith)

pub base-divisible : (a n : ℕ) → sendable n ≡ true → (a - a % n) % n ≡ 0
base-divisible a n e =
    by_length (λ (m : ℕ). (a - a % m) % m ≡ 0) n e (omega arith) (omega arith) (omega arith) (omega arith) (omega arith) (omega arith)

-- ---- the length to send

-- a power of two up to 256 is one up to 32, or greater
pub may-ask-cases : (P : ℕ → Type 0) (n : ℕ) → may_ask n ≡ true → (sendable n ≡ true → P n) → P 64 → P 128 → P 256 → P n
unfolding may_ask
may-ask-cases P n e sent p q r = go (sendable n) refl e
  where
    go : (t : Bool) → sendable n ≡ t → t || (eqb n 64 || (eqb n 128 || eqb n 256)) ≡ true → P n
    go true s f = sent s
    go false s f = one-of P n 64 _ p (one-of P n 128 _ q (λ g. rw (eqb-true n 256 g) r)) f

-- what may be asked is a power of two, and every one up to 256 may
pub only-powers : (n : ℕ) → may_ask n ≡ true → (k : ℕ) × (k ≤ 8) × (n ≡ 2 ^ k)
only-powers n e = may-ask-cases Power n e short (6, omega arith, refl) (7, omega arith, refl) (8, omega arith, refl)
  where
    Power : ℕ → Type 0
    Power m = (k : ℕ) × (k ≤ 8) × (m ≡ 2 ^ k)

    short : sendable n ≡ true → (k : ℕ) × (k ≤ 8) × (n ≡ 2 ^ k)
    short s =
        by_length Power n s (0, omega arith, refl) (1, omega arith, refl) (2, omega arith, refl) (3, omega arith, refl) (4, omega arith, refl) (5, omega arith, refl)

pub powers : (k : ℕ) → k ≤ 8 → may_ask (2 ^ k) ≡ true
unfolding may_ask sendable
powers k h = below_at (λ (m : ℕ). may_ask (2 ^ m)) 9 k (omega arith) refl

-- where a block may be asked, its length may be sent: it is what was asked, or 32
pub to-send-sendable : (n : WordCount) → may_ask n.0 ≡ true → sendable (length_to_send n).0 ≡ true
unfolding length_to_send sendable
to-send-sendable n e = rw e (go (leb n.0 32) refl)
  where
    go : (t : Bool) → leb n.0 32 ≡ t → sendable (cond t n (word_count 32)).0 ≡ true
    go true f =
        may-ask-cases (λ (m : ℕ). m ≤ 32 → sendable m ≡ true) n.0 e (λ s _. s) (λ h. absurd (omega arith)) (λ h. absurd (omega arith)) (λ h. absurd (omega arith))
        (leb-true n.0 32 f)
    go false f = refl

-- where none may be asked, no words are sent
pub to-send-none : (n : WordCount) → may_ask n.0 ≡ false → (length_to_send n).0 ≡ 0
unfolding length_to_send
to-send-none n e = rw e

pub to-send-none-or : (n : WordCount) → none_or_sendable (length_to_send n).0 ≡ true
unfolding none_or_sendable sendable
to-send-none-or n = go (may_ask n.0) refl
  where
    or_right : (s t : Bool) → t ≡ true → s || t ≡ true
    or_right true t e = refl
    or_right false t e = e

    go : (t : Bool) → may_ask n.0 ≡ t → none_or_sendable (length_to_send n).0 ≡ true
    go true e = or_right (eqb (length_to_send n).0 0) _ (to-send-sendable n e)
    go false e = rw (to-send-none n e)

-- it is not over what was asked
pub to-send-asked : (n : WordCount) → (length_to_send n).0 ≤ n.0
unfolding length_to_send
to-send-asked n = go (may_ask n.0) (leb n.0 32) refl
  where
    go : (s t : Bool) → leb n.0 32 ≡ t → (cond s (cond t n (word_count 32)) (word_count 0)).0 ≤ n.0
    go true true f = omega arith
    go true false f = omega (arith, leb-false n.0 32 f)
    go false t f = omega arith

-- and it is what was asked, or 32, unless it is nothing
pub to-send-longest : (n : WordCount) → 0 < (length_to_send n).0 → 2 * (length_to_send n).0 ≤ 32 → 2 * (length_to_send n).0 ≤ n.0 → ⊥
unfolding length_to_send
to-send-longest n = go (may_ask n.0) (leb n.0 32)
  where
    go : (s t : Bool) → 0 < (cond s (cond t n (word_count 32)) (word_count 0)).0 → 2 * (cond s (cond t n (word_count 32)) (word_count 0)).0 ≤ 32
        → 2 * (cond s (cond t n (word_count 32)) (word_count 0)).0 ≤ n.0 → ⊥
    go true true h k l = omega arith
    go true false h k l = omega arith
    go false t h k l = omega arith

-- ---- which length it is

-- none of the five shorter ones: 32
pub last-length : (n : ℕ) → sendable n ≡ true → (n ≡ 1 → ⊥) → (n ≡ 2 → ⊥) → (n ≡ 4 → ⊥) → (n ≡ 8 → ⊥) → (n ≡ 16 → ⊥) → n ≡ 32
last-length n e =
    by_length (λ (m : ℕ). (m ≡ 1 → ⊥) → (m ≡ 2 → ⊥) → (m ≡ 4 → ⊥) → (m ≡ 8 → ⊥) → (m ≡ 16 → ⊥) → m ≡ 32) n e
    (λ a b c d f. absurd (a refl)) (λ a b c d f. absurd (b refl)) (λ a b c d f. absurd (c refl)) (λ a b c d f. absurd (d refl)) (λ a b c d f. absurd (f refl))
    (λ a b c d f. refl)
