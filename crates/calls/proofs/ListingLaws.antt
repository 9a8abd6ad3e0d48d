-- Laws of the processes that a start lists and of the process of the Pup door, read character by character. Assumes nothing.
use mathlib.Core.Path.{◌≡◌, sym, ap, ◌∙◌}
use mathlib.Core.Bool.{Bool, true, ◌&&◌}
use mathlib.Core.List.{List}
use Prim.Native.Nat.{ℕ, ◌+◌, ◌-◌, ◌*◌, ◌≤◌, ◌<◌}
use native.Mathlib.Numerals.{add-one}
use borrow.Author.Tests.{leb-true}
use lib.ListN.{length, drop, get_or, drop_of_length-le}
use lib.Seq.{drop-cons}
use lib.Dec.{leb, ltb}
use Rattle.lists.proofs.Bool.{&&-left, &&-right}
use Rattle.calls.specs.declared.listing.Listing.{Listing}
use Rattle.calls.specs.Listing.{is_digit, goes_on, next_listing, listed}

pub digit-range : (last c : ℕ) → is_digit last c ≡ true → (48 ≤ c) × (c ≤ last)
unfolding is_digit
digit-range last c e = (leb-true 48 c (&&-left (leb 48 c) (leb c last) e), leb-true c last (&&-right (leb 48 c) (leb c last) e))

-- ---- whether a number goes on

pub goes-range : (most n c : ℕ) → goes_on most n c ≡ true → (48 ≤ c) × (10 * n + (c - 48) ≤ most)
unfolding goes_on
goes-range most n c e =
    let d : Bool = is_digit 57 c in
    let few : Bool = leb (10 * n + (c - 48)) most in
    let both : (d && few) ≡ true = &&-right (ltb 0 n) (d && few) e in
    ((digit-range 57 c (&&-left d few both)).0, leb-true (10 * n + (c - 48)) most (&&-right d few both))

-- ---- one character more, and none

module _ (r : Listing) (text : List ℕ) (i : ℕ) where
  pub listed-turn : i < length text → listed r (drop i text) ≡ listed (next_listing r (get_or text i 0)) (drop (i + 1) text)
  unfolding listed
  listed-turn h =
      ap (listed r) (drop-cons text i 0 h) ∙ ap (λ (n : ℕ). listed (next_listing r (get_or text i 0)) (drop n text)) (sym (add-one i))

  pub listed-end : length text ≤ i → listed r (drop i text) ≡ r
  unfolding listed
  listed-end h = ap (listed r) (drop_of_length-le text h)
