-- Laws of lists in pieces. Assumes nothing.
use mathlib.Core.Path.{◌≡◌, refl, sym, ap, ◌∙◌}
use mathlib.Core.Bool.{Bool, true, false, ◌&&◌}
use mathlib.Core.List.{List, [], ◌∷◌, ◌++◌, append_assoc}
use Prim.Native.Nat.{ℕ, zero, suc, ◌+◌, ◌-◌, ◌*◌, ◌≤◌, ◌<◌}
use native.Mathlib.Omega.{arith}
use borrow.Author.Tests.{ltb-true, ltb-false}
use lib.ListN.{length, take, drop, get_or, set, replicate, length-append, length-drop, take-append-drop, get_or-eq_default}
use lib.Seq.{take_at, drop_at, take_all, length-take-le, take-append-le, drop-append-le, take-append-add, drop-append-add, get_or-take, get_or-drop, drop-drop, take-add}
use lib.Dec.{ltb}
use Rattle.lists.specs.Buffer.{Bytes, overlay}
use Rattle.lists.proofs.Buffer.{part-overlay}
use Rattle.lists.proofs.Joined.{joined-more}
use Rattle.lists.proofs.Short.{take_short}
use Rattle.lists.specs.Every.{every}
use Rattle.lists.proofs.Bool.{&&-left, &&-right, &&-both, &&-pairs}
use Rattle.lists.specs.Joined.{joined}
use Rattle.state_bytes.specs.Chunk.{chunks, every_chunk}

-- ---- bytes of a part

pub bytes_take : (n : ℕ) (m : List ℕ) → Bytes m → Bytes (take n m)
bytes_take n m b i = go (ltb i n) refl
  where
    go : (t : Bool) → ltb i n ≡ t → get_or (take n m) i 0 < 256
    go true e = rw (get_or-take n m i 0 (ltb-true i n e)) (b i)
    go false e = rw (get_or-eq_default (take n m) 0 {n = i} (omega (arith, (take_short n m).0, ltb-false i n e))) (omega arith)

pub bytes_drop : (n : ℕ) (m : List ℕ) → Bytes m → Bytes (drop n m)
bytes_drop n m b i = rw (get_or-drop n m i 0) (b (n + i))

-- f 0, f 1, .., n of them
abbrev pub listed : {A : Type 0} → (ℕ → A) → ℕ → List A
listed f zero = []
listed f (suc n) = f 0 ∷ listed (λ (k : ℕ). f (suc k)) n

pub listed_same : {A : Type 0} (f g : ℕ → A) → ((k : ℕ) → f k ≡ g k) → (n : ℕ) → listed f n ≡ listed g n
listed_same f g same zero = refl
listed_same f g same (suc n) = rw (same 0, listed_same (λ (k : ℕ). f (suc k)) (λ (k : ℕ). g (suc k)) (λ k. same (suc k)) n)

-- a list by its elements
pub listed-by : {A : Type 0} (d : A) (xs : List A) → xs ≡ listed (λ (k : ℕ). get_or xs k d) (length xs)
listed-by d [] = refl
listed-by d (x ∷ xs) = ap (λ (l : List _). x ∷ l) (listed-by d xs)

module _ {A : Type 0} (w : ℕ) (f : List ℕ → A) where
  pub length-chunks : (n : ℕ) (m : List ℕ) → length (chunks w f n m) ≡ n
  unfolding chunks
  length-chunks zero m = refl
  length-chunks (suc n) m = ap suc (length-chunks n (drop w m))

  -- piece k
  pub getD-chunks : (n k : ℕ) (m : List ℕ) (d : A) → k < n → get_or (chunks w f n m) k d ≡ f (take w (drop (w * k) m))
  unfolding chunks
  getD-chunks zero k m d h = absurd (omega arith)
  getD-chunks (suc n) zero m d h = let z : w * 0 ≡ 0 = omega arith in rw z refl
  getD-chunks (suc n) (suc k) m d h =
      getD-chunks n k (drop w m) d (omega arith) ∙ ap (λ (l : List ℕ). f (take w l)) (drop-drop (w * k) w m ∙ ap (λ (n : ℕ). drop n m) (further k))
    where
      further : (k : ℕ) → w + w * k ≡ w * suc k
      further k = omega arith

  -- the pieces one by one
  pub chunks-listed : (n : ℕ) (m : List ℕ) → chunks w f n m ≡ listed (λ (k : ℕ). f (take w (drop (w * k) m))) n
  unfolding chunks
  chunks-listed zero m = refl
  chunks-listed (suc n) m =
      let z : w * 0 ≡ 0 = omega arith in
      rw (z, chunks-listed n (drop w m))
      (ap (λ (l : List A). f (take w m) ∷ l) (listed_same (λ (k : ℕ). f (take w (drop (w * k) (drop w m)))) (λ (k : ℕ). f (take w (drop (w * suc k) m))) next n))
    where
      further : (k : ℕ) → w + w * k ≡ w * suc k
      further k = omega arith

      next : (k : ℕ) → f (take w (drop (w * k) (drop w m))) ≡ f (take w (drop (w * suc k) m))
      next k = ap (λ (l : List ℕ). f (take w l)) (drop-drop (w * k) w m ∙ ap (λ (n : ℕ). drop n m) (further k))

  -- pieces that all are read as one and the same
  pub chunks-same : (t : List ℕ → Bool) (x : A) → ((c : List ℕ) → t c ≡ true → f c ≡ x) → (n : ℕ) (m : List ℕ) → every_chunk w t n m ≡ true → chunks w f n m ≡ replicate n x
  unfolding chunks every_chunk
  chunks-same t x same zero m e = refl
  chunks-same t x same (suc n) m e =
      rw (same (take w m) (&&-left (t (take w m)) _ e), chunks-same t x same n (drop w m) (&&-right (t (take w m)) (every_chunk w t n (drop w m)) e))

  -- a test of what is read
  pub every-read : (t : A → Bool) (n : ℕ) (m : List ℕ) → every_chunk w (λ (c : List ℕ). t (f c)) n m ≡ every t (chunks w f n m)
  unfolding chunks every_chunk
  every-read t zero m = refl
  every-read t (suc n) m = ap (λ (b : Bool). t (f (take w m)) && b) (every-read t n (drop w m))

  -- what stands after the pieces is not read
  pub chunks-front : (n : ℕ) (a b : List ℕ) → w * n ≤ length a → chunks w f n (a ++ b) ≡ chunks w f n a
  unfolding chunks
  chunks-front zero a b h = refl
  chunks-front (suc n) a b h =
      let one : w ≤ length a = omega arith in
      rw (take-append-le w a b one, drop-append-le w a b one, chunks-front n (drop w a) b (simp length-drop (omega arith)))

-- ---- tests

module _ (w : ℕ) (t : List ℕ → Bool) where
  pub every_front : (n : ℕ) (a b : List ℕ) → w * n ≤ length a → every_chunk w t n (a ++ b) ≡ every_chunk w t n a
  unfolding every_chunk
  every_front zero a b h = refl
  every_front (suc n) a b h =
      let one : w ≤ length a = omega arith in
      rw (take-append-le w a b one, drop-append-le w a b one, every_front n (drop w a) b (simp length-drop (omega arith)))

  -- a test that all pass
  pub every_any : ((c : List ℕ) → t c ≡ true) → (n : ℕ) (m : List ℕ) → every_chunk w t n m ≡ true
  unfolding every_chunk
  every_any all zero m = refl
  every_any all (suc n) m = &&-both (t (take w m)) (every_chunk w t n (drop w m)) (all (take w m)) (every_any all n (drop w m))

  mul-more : (k : ℕ) → w + w * k ≡ w * suc k
  mul-more k = omega arith

  at_next : (k : ℕ) (m : List ℕ) → take w (drop (w * k) (drop w m)) ≡ take w (drop (w * suc k) m)
  at_next k m = ap (take w) (drop-drop (w * k) w m ∙ ap (λ (n : ℕ). drop n m) (mul-more k))

  pub every-snoc : (k : ℕ) (m : List ℕ) → every_chunk w t k m ≡ true → t (take w (drop (w * k) m)) ≡ true → every_chunk w t (suc k) m ≡ true
  unfolding every_chunk
  every-snoc zero m e h = let z : w * 0 ≡ 0 = omega arith in &&-both (t (take w m)) true (rw z at h) refl
  every-snoc (suc k) m e h =
      &&-both (t (take w m)) (every_chunk w t (suc k) (drop w m)) (&&-left (t (take w m)) _ e)
      (every-snoc k (drop w m) (&&-right (t (take w m)) (every_chunk w t k (drop w m)) e) (rw (at_next k m) h))

  pub every-fails : (n k : ℕ) (m : List ℕ) → k < n → t (take w (drop (w * k) m)) ≡ false → every_chunk w t n m ≡ false
  unfolding every_chunk
  every-fails zero k m h e = absurd (omega (arith, h))
  every-fails (suc n) zero m h e = let z : w * 0 ≡ 0 = omega arith in rw (rw z at e)
  every-fails (suc n) (suc k) m h e = false_right (t (take w m)) (every-fails n k (drop w m) (omega (arith, h)) (rw (at_next k m) e))
    where
      false_right : (a : Bool) → every_chunk w t n (drop w m) ≡ false → a && every_chunk w t n (drop w m) ≡ false
      false_right true i = i
      false_right false i = refl

  -- a weaker test
  pub every-weaker : (s : List ℕ → Bool) → ((c : List ℕ) → t c ≡ true → s c ≡ true) → (n : ℕ) (m : List ℕ) → every_chunk w t n m ≡ true → every_chunk w s n m ≡ true
  unfolding every_chunk
  every-weaker s weaker zero m e = refl
  every-weaker s weaker (suc n) m e =
      &&-both (s (take w m)) (every_chunk w s n (drop w m)) (weaker (take w m) (&&-left (t (take w m)) _ e))
      (every-weaker s weaker n (drop w m) (&&-right (t (take w m)) (every_chunk w t n (drop w m)) e))

  -- two tests that agree on bytes
  pub every-same : (s : List ℕ → Bool) → ((c : List ℕ) → Bytes c → t c ≡ s c) → (n : ℕ) (m : List ℕ) → Bytes m → every_chunk w t n m ≡ every_chunk w s n m
  unfolding every_chunk
  every-same s same zero m b = refl
  every-same s same (suc n) m b = rw (same (take w m) (bytes_take w m b), every-same s same n (drop w m) (bytes_drop w m b))

  -- two tests in one
  pub every-both : (s u : List ℕ → Bool) → ((c : List ℕ) → u c ≡ s c && t c) → (n : ℕ) (m : List ℕ) → every_chunk w u n m ≡ every_chunk w s n m && every_chunk w t n m
  unfolding every_chunk
  every-both s u both zero m = refl
  every-both s u both (suc n) m =
      rw (both (take w m), every-both s u both n (drop w m)) (&&-pairs (s (take w m)) (t (take w m)) (every_chunk w s n (drop w m)) (every_chunk w t n (drop w m)))

-- ---- writing

module _ {A : Type 0} (f : A → List ℕ) where
  pub length-joined : (w : ℕ) (xs : List A) (d : A) → ((k : ℕ) → k < length xs → length (f (get_or xs k d)) ≡ w) → length (joined f xs) ≡ w * length xs
  unfolding joined
  length-joined w [] d h = omega arith
  length-joined w (x ∷ xs) d h =
      length-append (f x) (joined f xs) ∙ omega (arith, h 0 (omega arith), length-joined w xs d (λ k i. h (suc k) (omega (arith, i))))

  -- another in place of one
  pub joined-set : (w : ℕ) → ((x : A) → length (f x) ≡ w) → (xs : List A) (k : ℕ) (x : A) → k < length xs
      → joined f (set xs k x) ≡ take (w * k) (joined f xs) ++ (f x ++ drop w (drop (w * k) (joined f xs)))
  unfolding joined
  joined-set w wide [] k x h = absurd (omega arith)
  joined-set w wide (y ∷ xs) zero x h =
      let none : w * 0 ≡ 0 = omega arith in
      rw (none, drop_at (f y) (joined f xs) w (wide y))
  joined-set w wide (y ∷ xs) (suc k) x h =
      let more : w * suc k ≡ length (f y) + w * k = omega (arith, wide y) in
      rw (more, take-append-add (f y) (joined f xs) (w * k), drop-append-add (f y) (joined f xs) (w * k), joined-set w wide xs k x (omega arith))
      (sym (append_assoc (f y) (take (w * k) (joined f xs)) (f x ++ drop w (drop (w * k) (joined f xs)))))

-- ---- reading and writing

module _ {A : Type 0} (w : ℕ) (f : List ℕ → A) (g : A → List ℕ) where
  -- what was written is read
  pub chunks-joined : (xs : List A) (d : A) → ((k : ℕ) → k < length xs → length (g (get_or xs k d)) ≡ w) → ((k : ℕ) → k < length xs → f (g (get_or xs k d)) ≡ get_or xs k d)
      → chunks w f (length xs) (joined g xs) ≡ xs
  unfolding chunks joined
  chunks-joined [] d size back = refl
  chunks-joined (x ∷ xs) d size back =
      rw (take_at (g x) (joined g xs) w (size 0 (omega arith)), drop_at (g x) (joined g xs) w (size 0 (omega arith)), back 0 (omega arith))
      (ap (λ (l : List A). x ∷ l) (chunks-joined xs d (λ k h. size (suc k) (omega (arith, h))) (λ k h. back (suc k) (omega (arith, h)))))

  pub every-joined : (t : List ℕ → Bool) (xs : List A) (d : A) → ((k : ℕ) → k < length xs → length (g (get_or xs k d)) ≡ w) → ((k : ℕ) → k < length xs → t (g (get_or xs k d)) ≡ true)
      → every_chunk w t (length xs) (joined g xs) ≡ true
  unfolding every_chunk joined
  every-joined t [] d size good = refl
  every-joined t (x ∷ xs) d size good =
      rw (take_at (g x) (joined g xs) w (size 0 (omega arith)), drop_at (g x) (joined g xs) w (size 0 (omega arith)), good 0 (omega arith))
      (every-joined t xs d (λ k h. size (suc k) (omega (arith, h))) (λ k h. good (suc k) (omega (arith, h))))

  -- what was read is written
  pub joined-chunks : (t : List ℕ → Bool) → ((c : List ℕ) → length c ≡ w → Bytes c → t c ≡ true → g (f c) ≡ c)
      → (n : ℕ) (m : List ℕ) → length m ≡ w * n → Bytes m → every_chunk w t n m ≡ true → joined g (chunks w f n m) ≡ m
  unfolding chunks joined every_chunk
  joined-chunks t forth zero [] size b e = refl
  joined-chunks t forth zero (x ∷ m) size b e = absurd (omega (arith, size))
  joined-chunks t forth (suc n) m size b e =
      let front : length (take w m) ≡ w = length-take-le w m (omega (arith, size)) in
      let one = forth (take w m) front (bytes_take w m b) (&&-left (t (take w m)) _ e) in
      let rest = joined-chunks t forth n (drop w m) (simp length-drop (omega (arith, size))) (bytes_drop w m b) (&&-right (t (take w m)) (every_chunk w t n (drop w m)) e) in
      rw (one, rest) (take-append-drop w m)

  -- and with another in place of one
  pub joined-with : (t : List ℕ → Bool) → ((c : List ℕ) → length c ≡ w → Bytes c → t c ≡ true → g (f c) ≡ c)
      → (n : ℕ) (m : List ℕ) → length m ≡ w * n → Bytes m → every_chunk w t n m ≡ true → (k : ℕ) (x : A) → k < n
      → joined g (set (chunks w f n m) k x) ≡ take (w * k) m ++ (g x ++ drop w (drop (w * k) m))
  unfolding chunks joined every_chunk
  joined-with t forth zero m size b e k x h = absurd (omega arith)
  joined-with t forth (suc n) m size b e zero x h =
      let none : w * 0 ≡ 0 = omega arith in
      let rest = joined-chunks t forth n (drop w m) (simp length-drop (omega (arith, size))) (bytes_drop w m b) (&&-right (t (take w m)) (every_chunk w t n (drop w m)) e) in
      rw (none, rest)
  joined-with t forth (suc n) m size b e (suc k) x h =
      let front : length (take w m) ≡ w = length-take-le w m (omega (arith, size)) in
      let one = forth (take w m) front (bytes_take w m b) (&&-left (t (take w m)) _ e) in
      let rest = joined-with t forth n (drop w m) (simp length-drop (omega (arith, size))) (bytes_drop w m b) (&&-right (t (take w m)) (every_chunk w t n (drop w m)) e) k x (omega arith) in
      let more : w * suc k ≡ w + w * k = omega arith in
      rw (one, rest, more, take-add w (w * k) m, drop-drop (w * k) w m) (sym (append_assoc (take w m) (take (w * k) (drop w m)) (g x ++ drop w (drop (w + w * k) m))))

-- ---- turns of the loops, in the shapes in which parts are taken and come back

-- a piece that starts at `at` and ends w bytes further
pub piece : (w at : ℕ) (m : List ℕ) → take (at + w - at) (drop at m) ≡ take w (drop at m)
piece w at m = let e : at + w - at ≡ w = omega arith in rw e

pub length-piece : (w at : ℕ) (m : List ℕ) → at + w ≤ length m → length (take (at + w - at) (drop at m)) ≡ w
length-piece w at m fits = rw (piece w at m) (length-take-le w (drop at m) (simp length-drop (omega arith)))

pub test-piece : (w k at : ℕ) (t : List ℕ → Bool) (m : List ℕ) (b : Bool) → at ≡ w * k → t (take (at + w - at) (drop at m)) ≡ b → t (take w (drop (w * k) m)) ≡ b
test-piece w k at t m b e h = rw (piece w at m, e) at h

pub joined_step : {A : Type 0} (f : A → List ℕ) (xs : List A) (k at : ℕ) (d : A) (buffer now last : List ℕ) → k < length xs
    → length (joined f (take k xs)) ≡ at → now ≡ overlay (joined f (take k xs)) buffer
    → last ≡ overlay (f (get_or xs k d)) (take (length now - at) (drop at now))
    → take at now ++ (last ++ drop (length now - at) (drop at now)) ≡ overlay (joined f (take (k + 1) xs)) buffer
joined_step f xs k at d buffer now last h size e l =
    rw (l, ← joined-more f xs k d h, ← size) (part-overlay (joined f (take k xs)) (f (get_or xs k d)) buffer now e)

pub length-joined-more : {A : Type 0} (w : ℕ) (f : A → List ℕ) (xs : List A) (k at : ℕ) (d : A) → k < length xs
    → length (joined f (take k xs)) ≡ at → length (f (get_or xs k d)) ≡ w → length (joined f (take (k + 1) xs)) ≡ at + w
length-joined-more w f xs k at d h size one =
    ap (λ (l : List ℕ). length l) (sym (joined-more f xs k d h))
    ∙ length-append (joined f (take k xs)) (f (get_or xs k d)) ∙ omega (arith, size, one)

-- a part that reaches to the end
pub tail-part : (at : ℕ) (m : List ℕ) → take (length m - at) (drop at m) ≡ drop at m
tail-part at m = take_all (length m - at) (drop at m) (simp length-drop (omega arith))
