-- Laws of long lines: what is kept of a line has the effect of all of it, and tells as many pairs. Assumes nothing.
use mathlib.Core.Path.{◌≡◌, refl, sym, ap, ◌∙◌}
use mathlib.Core.Bool.{Bool, true, false, cond, ◌||◌, true≢false}
use mathlib.Core.List.{List, [], ◌∷◌, ◌++◌}
use Prim.Native.Nat.{ℕ, suc, ◌+◌, ◌-◌, ◌*◌, ◌%◌, ◌≤◌, ◌<◌, min}
use native.Mathlib.Omega.{arith}
use borrow.Author.Tests.{leb-true, leb-false, lt-ltb}
use lib.ListN.{length, take, drop, length-append, length-drop, take-append-drop}
use lib.Seq.{take_all, take-add, take-append-le, drop_at, length-take-le}
use lib.Dec.{leb, ltb, eqb}
use Rattle.lines.specs.declared.scan.Phase.{Phase}
use Rattle.lines.specs.declared.scan.Phase.TheVariants.{Open, Half, Full, Bad}
use Rattle.lines.specs.Hex.{value}
use Rattle.lines.specs.Scan.{opened, next, full, made, after, bytes_of}
use Rattle.lines.proofs.ScanLaws.{in_parts, parts-read}
use Rattle.calls.specs.declared.text.Shown.{Shown}
use Rattle.calls.specs.declared.text.Shown.TheVariants.{Recorded, Alone}
use Rattle.gateway.specs.Called.{why_on}
use Rattle.display.specs.Reason.{why_line}
use Rattle.calls.specs.Effect.{Effect, effect}
use Rattle.calls.specs.Meaning.{if_right, request_made, request_effect, text_made, text_effect, raw_effect, why_made, why_effect}
use Rattle.calls.proofs.MeaningLaws.{made-long, drop-at-most}
use Rattle.calls.proofs.TextLaws.{made-begun, ended-front}
use Rattle.calls.proofs.WhyLaws.{why-long, why-own}
use Rattle.recording.specs.declared.command.Command.{Command}
use Rattle.recording.specs.declared.command.Command.TheVariants.{Request, Text, Raw, Why, Unknown}
use Rattle.recording.specs.declared.language.Language.{Language}
use Rattle.recording.specs.declared.language.Language.TheVariants.{Bench, Recording, TextDoor}
use Rattle.recording.specs.Command.{begins, request_word, line_word, raw_word, why_word, text_word, any_length, command_of}
use Rattle.recording.specs.Line.{pairs_behind, pairs_from, most_counted, capped, pairs_in, command_effect, line_effect, whole_effect, TellsWhy}
use Rattle.recording.proofs.CommandLaws.{begins-take, request-not-raw, other-first, any-front}

-- what stands after a line's word and its blank, as the code takes it
pub rest-of-line : (k n : ℕ) (line : List ℕ) → n ≡ min k (length line) → take (length line - n) (drop n line) ≡ drop k line
rest-of-line k n line N =
    take_all (length line - n) (drop n line) (simp length-drop (omega arith)) ∙ ap (λ (j : ℕ). drop j line) N ∙ drop-at-most k line

-- ---- pairs that were read have a byte for every three characters

bad-stays : (xs : List ℕ) → after Bad xs ≡ Bad
unfolding after next
bad-stays [] = refl
bad-stays (x ∷ xs) = bad-stays xs

-- how far a phase is into a pair and its blank
unfoldable rank : Phase → ℕ
rank Open = 1
rank (Half h) = 2
rank Full = 0
rank Bad = 0

-- the characters are three for each byte, but for those of a pair that is not whole
abbrev Counted : Phase → List ℕ → Type 0
Counted p xs = (after p xs ≡ Bad → ⊥) → length xs + rank p ≡ 3 * length (bytes_of p xs) + rank (after p xs)

counted : (p : Phase) (xs : List ℕ) → Counted p xs
unfolding after bytes_of next made opened rank
counted p [] good = omega arith
counted Open (x ∷ xs) good = go (ltb (value x) 16) (counted (Half (value x)) xs) good
  where
    go : (t : Bool) → Counted (Half (value x)) xs → (after (cond t (Half (value x)) Bad) xs ≡ Bad → ⊥)
        → suc (length xs) + 1 ≡ 3 * length (bytes_of (cond t (Half (value x)) Bad) xs) + rank (after (cond t (Half (value x)) Bad) xs)
    go true rest g = omega (arith, rest g)
    go false rest g = absurd (g (bad-stays xs))
counted (Half h) (x ∷ xs) good = go (ltb (value x) 16) (h % 16 * 16 + value x) (counted Full xs) good
  where
    go : (t : Bool) (b : ℕ) → Counted Full xs → (after (cond t Full Bad) xs ≡ Bad → ⊥)
        → suc (length xs) + 2 ≡ 3 * length (cond t (b ∷ []) [] ++ bytes_of (cond t Full Bad) xs) + rank (after (cond t Full Bad) xs)
    go true b rest g = omega (arith, rest g)
    go false b rest g = absurd (g (bad-stays xs))
counted Full (x ∷ xs) good = go (eqb x 32) (counted Open xs) good
  where
    go : (t : Bool) → Counted Open xs → (after (cond t Open Bad) xs ≡ Bad → ⊥)
        → suc (length xs) + 0 ≡ 3 * length (bytes_of (cond t Open Bad) xs) + rank (after (cond t Open Bad) xs)
    go true rest g = omega (arith, rest g)
    go false rest g = absurd (g (bad-stays xs))
counted Bad (x ∷ xs) good = absurd (good (bad-stays xs))

-- ---- so a message of a long line is over 266 bytes

module _ (pairs : List ℕ) (n : ℕ) (low : 800 < n) (far : n ≤ length pairs) (F : after Open pairs ≡ Full) where
  split : take n pairs ++ drop n pairs ≡ pairs
  split = take-append-drop n pairs

  good : after Open (take n pairs) ≡ Bad → ⊥
  good bad =
      let all : after Open pairs ≡ Bad = ap (after Open) (sym split) ∙ in_parts Open (take n pairs) (drop n pairs) ∙ ap (λ (p : Phase). after p (drop n pairs)) bad ∙ bad-stays (drop n pairs) in
      let z : ◌≡◌ {A = ℕ} 0 1 = cc in
      omega arith

  front_long : 266 < length (bytes_of Open (take n pairs))
  unfolding rank
  front_long = go (after Open (take n pairs)) refl (counted Open (take n pairs) good)
    where
      go : (p : Phase) → after Open (take n pairs) ≡ p → length (take n pairs) + 1 ≡ 3 * length (bytes_of Open (take n pairs)) + rank (after Open (take n pairs)) → 266 < length (bytes_of Open (take n pairs))
      go Open e k = omega (arith, length-take-le n pairs far, low, rw e at k)
      go (Half h) e k = omega (arith, length-take-le n pairs far, low, rw e at k)
      go Full e k = omega (arith, length-take-le n pairs far, low, rw e at k)
      go Bad e k = omega (arith, length-take-le n pairs far, low, rw e at k)

  both : bytes_of Open pairs ≡ bytes_of Open (take n pairs) ++ bytes_of (after Open (take n pairs)) (drop n pairs)
  both = ap (bytes_of Open) (sym split) ∙ parts-read Open (take n pairs) (drop n pairs)

  whole_long : 266 < length (bytes_of Open pairs)
  whole_long =
      omega (arith, front_long, ap (λ (l : List ℕ). length l) both, length-append (bytes_of Open (take n pairs)) (bytes_of (after Open (take n pairs)) (drop n pairs)))

  made-front : (s m : List ℕ) → request_made (bytes_of Open (take n pairs)) s m ≡ request_made (bytes_of Open pairs) s m
  made-front s m = made-long (bytes_of Open (take n pairs)) (bytes_of Open pairs) s m front_long whole_long

  text-front : (s m : List ℕ) → text_made Recorded (bytes_of Open (take n pairs)) s m ≡ text_made Recorded (bytes_of Open pairs) s m
  text-front s m =
      let front : List ℕ = bytes_of Open (take n pairs) in
      made-begun Recorded front (bytes_of Open pairs) s m (omega (arith, front_long)) (omega (arith, whole_long))
      (sym (ap (take 35) both ∙ take-append-le 35 front (bytes_of (after Open (take n pairs)) (drop n pairs)) (omega (arith, front_long))))

  why-alike : (count : ℕ) (s m : List ℕ) → why_made count (bytes_of Open (take n pairs)) s m ≡ why_made count (bytes_of Open pairs) s m
  why-alike count s m = why-long count (bytes_of Open (take n pairs)) (bytes_of Open pairs) s m front_long whole_long

-- and its first pairs are answered like all of them
module _ (made : List ℕ → Effect) (pairs : List ℕ) (n : ℕ) (s m : List ℕ)
    (same : after Open pairs ≡ Full → made (bytes_of Open (take n pairs)) ≡ made (bytes_of Open pairs)) where
  right-front : if_right (full (after Open pairs)) (made (bytes_of Open (take n pairs))) s m ≡ if_right (full (after Open pairs)) (made (bytes_of Open pairs)) s m
  unfolding if_right full
  right-front = go (after Open pairs) refl
    where
      go : (p : Phase) → after Open pairs ≡ p → if_right (full (after Open pairs)) (made (bytes_of Open (take n pairs))) s m ≡ if_right (full (after Open pairs)) (made (bytes_of Open pairs)) s m
      go Open e = rw e refl
      go (Half h) e = rw e refl
      go Full e = rw e (same e)
      go Bad e = rw e refl

module _ (pairs : List ℕ) (n : ℕ) (s m : List ℕ) (low : 800 < n) (far : n ≤ length pairs) where
  request-front : request_effect (after Open pairs) (bytes_of Open (take n pairs)) s m ≡ request_effect (after Open pairs) (bytes_of Open pairs) s m
  unfolding request_effect
  request-front = right-front (λ x. request_made x s m) pairs n s m (λ e. made-front pairs n low far e s m)

  raw-front : raw_effect (after Open pairs) (bytes_of Open (take n pairs)) s m ≡ raw_effect (after Open pairs) (bytes_of Open pairs) s m
  unfolding raw_effect
  raw-front = right-front (λ x. text_made Recorded x s m) pairs n s m (λ e. text-front pairs n low far e s m)

  why-front : (count : ℕ) → why_effect (after Open pairs) count (bytes_of Open (take n pairs)) s m ≡ why_effect (after Open pairs) count (bytes_of Open pairs) s m
  unfolding why_effect
  why-front count = right-front (λ x. why_made count x s m) pairs n s m (λ e. why-alike pairs n low far e count s m)

-- ---- what is kept of a line has the effect of the whole line

module _ (line s m : List ℕ) (long : 1025 < length line) where
  kept-size : length (take 1025 line) ≡ 1025
  kept-size = length-take-le 1025 line (omega (arith, long))

  command-long : (xs : List ℕ) → 1024 < length xs → command_of xs ≡ any_length xs Unknown
  unfolding command_of
  command-long xs h = rw (lt-ltb 1024 (length xs) h) refl

  kept-command : command_of (take 1025 line) ≡ any_length line Unknown
  kept-command = command-long (take 1025 line) (omega (arith, kept-size)) ∙ any-front line 1025 Unknown (omega arith)

  -- what is kept after a word of k bytes
  rest-kept : (k r : ℕ) → k + r ≡ 1025 → drop k (take 1025 line) ≡ take r (drop k line)
  rest-kept k r e =
      ap (λ (n : ℕ). drop k (take n line)) (sym e) ∙ ap (drop k) (take-add k r line)
      ∙ drop_at (take k line) (take r (drop k line)) k (length-take-le k line (omega (arith, long, e)))

  module _ (shown : Shown) (size : ℕ) where
    abbrev Same : Phase → Command → Type 0
    Same phase word = command_effect shown phase size (take 1025 line) s m word ≡ command_effect shown phase size line s m word

    request-long : Same (after Open (drop 8 line)) Request
    unfolding command_effect
    request-long =
        ap (λ (l : List ℕ). request_effect (after Open (drop 8 line)) (bytes_of Open l) s m) (rest-kept 8 1017 refl)
        ∙ request-front (drop 8 line) 1017 s m (omega arith) (omega (arith, length-drop 8 line, long))

    raw-long : Same (after Open (drop 4 line)) Raw
    unfolding command_effect
    raw-long =
        ap (λ (l : List ℕ). raw_effect (after Open (drop 4 line)) (bytes_of Open l) s m) (rest-kept 4 1021 refl)
        ∙ raw-front (drop 4 line) 1021 s m (omega arith) (omega (arith, length-drop 4 line, long))

    query-long : Same (after Open (drop 4 line)) Why
    unfolding command_effect
    query-long =
        ap (λ (l : List ℕ). why_effect (after Open (drop 4 line)) (pairs_in size) (bytes_of Open l) s m) (rest-kept 4 1021 refl)
        ∙ why-front (drop 4 line) 1021 s m (omega arith) (omega (arith, length-drop 4 line, long)) (pairs_in size)

    text-long : (phase : Phase) → Same phase Text
    unfolding command_effect
    text-long phase =
        ap (λ (l : List ℕ). text_effect Recorded l s m) (rest-kept 5 1020 refl) ∙ ended-front Recorded 1020 (drop 5 line) s m (omega arith)

    unknown-long : Same (after Open (drop 8 line)) Unknown
    unfolding command_effect
    unknown-long = refl

    any-long : Same (after Open (drop (pairs_behind line) line)) (any_length line Unknown)
    unfolding any_length pairs_behind
    any-long = go (begins request_word line) refl (begins line_word line) (begins raw_word line) refl (begins why_word line) refl
      where
        go : (q : Bool) → begins request_word line ≡ q → (t r : Bool) → begins raw_word line ≡ r → (y : Bool) → begins why_word line ≡ y
            → Same (after Open (drop (cond (r || y) 4 8) line)) (cond q Request (cond t Text (cond r Raw (cond y Why Unknown))))
        go true e t true f y g = absurd (request-not-raw line e f)
        go true e t false f true g = absurd (true≢false (sym g ∙ other-first 114 119 _ _ line (λ z. omega (arith, z)) e))
        go true e t false f false g = request-long
        go false e true r f y g = text-long (after Open (drop (cond (r || y) 4 8) line))
        go false e false true f y g = raw-long
        go false e false false f true g = query-long
        go false e false false f false g = unknown-long

    recording-long : command_effect shown (after Open (drop (pairs_behind line) line)) size (take 1025 line) s m (command_of (take 1025 line))
        ≡ command_effect shown (after Open (drop (pairs_behind line) line)) size line s m (command_of line)
    recording-long =
        ap (command_effect shown (after Open (drop (pairs_behind line) line)) size (take 1025 line) s m) kept-command
        ∙ any-long
        ∙ ap (command_effect shown (after Open (drop (pairs_behind line) line)) size line s m) (sym (command-long line (omega (arith, long))))

  effect-long : (l : Language) → line_effect l (after Open (drop (pairs_from l line) line)) (capped (length line)) (take 1025 line) s m ≡ whole_effect l line s m
  unfolding whole_effect line_effect pairs_from
  effect-long Bench = request-front line 1025 s m (omega arith) (omega (arith, long))
  effect-long Recording = recording-long Recorded (capped (length line))
  effect-long TextDoor = rw (begins-take text_word line 1025 (omega arith)) (go (begins text_word line))
    where
      go : (t : Bool) → cond t (text_effect Alone (take 1025 line) s m) (command_effect Alone (after Open (drop (pairs_behind line) line)) (capped (length line)) (take 1025 line) s m (command_of (take 1025 line)))
          ≡ cond t (text_effect Alone line s m) (command_effect Alone (after Open (drop (pairs_behind line) line)) (capped (length line)) line s m (command_of line))
      go true = ended-front Alone 1025 line s m (omega arith)
      go false = recording-long Alone (capped (length line))

pub kept-effect : (l : Language) (line s m : List ℕ) → line_effect l (after Open (drop (pairs_from l line) line)) (capped (length line)) (take 1025 line) s m ≡ whole_effect l line s m
unfolding whole_effect
kept-effect l line s m = go (leb (length line) 1025) refl
  where
    go : (t : Bool) → leb (length line) 1025 ≡ t → line_effect l (after Open (drop (pairs_from l line) line)) (capped (length line)) (take 1025 line) s m ≡ whole_effect l line s m
    go true e = ap (λ (x : List ℕ). line_effect l (after Open (drop (pairs_from l line) line)) (capped (length line)) x s m) (take_all 1025 line (leb-true (length line) 1025 e))
    go false e = effect-long line s m (leb-false (length line) 1025 e) l

-- ---- a line `why ` and pairs

module _ (line s m : List ℕ) (W : begins why_word line ≡ true) (F : after Open (drop 4 line) ≡ Full) (most : length line ≤ most_counted) where
  abbrev message : List ℕ
  message = bytes_of Open (drop 4 line)

  -- it has as many pairs as its message has bytes
  pairs-counted : pairs_in (capped (length line)) ≡ length message
  unfolding pairs_in rank
  pairs-counted =
      let whole : after Open (drop 4 line) ≡ Bad → ⊥ = λ bad. (let z : ◌≡◌ {A = ℕ} 0 1 = cc in omega arith) in
      let three = rw F at (counted Open (drop 4 line) whole) in
      omega (arith, three, length-drop 4 line, most)

  -- no other word stands there
  not-request : begins request_word line ≡ false
  not-request = other-first 119 114 _ _ line (λ z. omega (arith, z)) W

  not-text : begins line_word line ≡ false
  not-text = other-first 119 108 _ _ line (λ z. omega (arith, z)) W

  not-raw : begins raw_word line ≡ false
  not-raw = other-first 119 114 _ _ line (λ z. omega (arith, z)) W

  not-door : begins text_word line ≡ false
  not-door = other-first 119 48 _ _ line (λ z. omega (arith, z)) W

  command-why : command_of line ≡ Why
  unfolding command_of any_length
  command-why = rw (not-request, not-text, not-raw, W)

  pairs-why : pairs_behind line ≡ 4
  unfolding pairs_behind
  pairs-why = rw (not-raw, W)

  effect-why : why_effect Full (pairs_in (capped (length line))) message s m ≡ effect s m (why_line (why_on s message))
  unfolding why_effect if_right full why_made
  effect-why = rw (pairs-counted, why-own message s)

  told : (shown : Shown) → command_effect shown (after Open (drop (pairs_behind line) line)) (capped (length line)) line s m (command_of line) ≡ effect s m (why_line (why_on s message))
  unfolding command_effect
  told shown = rw (pairs-why, F, command-why) effect-why

pub tells-why : TellsWhy
unfolding TellsWhy whole_effect line_effect pairs_from
tells-why Bench line s m n W F most = absurd (n refl)
tells-why Recording line s m n W F most = told line s m W F most Recorded
tells-why TextDoor line s m n W F most = rw (not-door line s m W F most) (told line s m W F most Alone)
