-- Laws of what lines do: an effect by whether its line is right, the text that is put, bytes of memory, and long messages.
-- Assumes nothing.
use mathlib.Core.Path.{◌≡◌, refl, sym, ap, ◌∙◌}
use mathlib.Core.Bool.{Bool, true, false, cond}
use mathlib.Core.List.{List}
use Prim.Native.Nat.{ℕ, ◌+◌, ◌-◌, ◌≤◌, ◌<◌, min}
use native.Mathlib.Omega.{arith}
use borrow.Author.Tests.{lt-ltb, le-ltb, leb-true, leb-false, eq-eqb, ne_eqb}
use lib.ListN.{length, take, drop, replicate, length-take, length-drop, drop_of_length-le}
use lib.Seq.{take_all}
use lib.Dec.{leb}
use Rattle.lists.specs.Buffer.{overlay}
use Rattle.lists.proofs.Buffer.{take-overlay}
use Rattle.format.specs.Outcome.{Outcome}
use Rattle.format.specs.Outcome.{outcome, number_of, first_failing}
use Rattle.format.specs.Refusal.{wrong_length}
use Rattle.state.specs.Layout.{slot}
use Rattle.rules.specs.Tests.{State, lent, no_room, unsound, request_number}
use Rattle.rules.specs.Step.{answers, refused, request_step, step}
use Rattle.state_bytes.specs.State.{state_of}
use Rattle.gateway.specs.Called.{Called, called, badly_lent, call_on, started, start_on}
use Rattle.gateway.specs.Lengths.{reply_length}
use Rattle.rules.specs.Turn.{buffers_of}
use Rattle.lines.specs.declared.scan.Phase.{Phase}
use Rattle.lines.specs.declared.scan.Phase.TheVariants.{Open}
use Rattle.lines.specs.declared.scan.Scan.{Scan}
use Rattle.lines.specs.Scan.{Put, bytes_of, kept, filled}
use Rattle.lines.proofs.PairLaws.{reads-pairs}
use Rattle.lines.proofs.PutLaws.{put_whole}
use Rattle.display.specs.Answer.{answer_line}
use Rattle.calls.specs.declared.listing.Listing.{Listing}
use Rattle.calls.specs.Listing.{empty, listed}
use Rattle.calls.specs.Effect.{Effect, Prints, Does}
use Rattle.calls.specs.Meaning.{unknown_effect, if_right, zero_buffer, request_answered, request_made, number_line, start_answered, start_made, start_listing}

-- ---- a call by whether its line is right

pub does-as : (e f : Effect) (len : ℕ) (s m before after : List ℕ) → e ≡ f → Does e len s m before after → Does f len s m before after
does-as e f len s m before after same d = rw same at d

pub does-right : (right : Bool) (e : Effect) (s₀ m₀ : List ℕ) (len : ℕ) (s m before after : List ℕ) → right ≡ true
    → Does e len s m before after → Does (if_right right e s₀ m₀) len s m before after
unfolding if_right
does-right right e s₀ m₀ len s m before after t d = rw t d

pub does-wrong : (right : Bool) (e : Effect) (s₀ m₀ : List ℕ) (len : ℕ) (s m before after : List ℕ) → right ≡ false
    → Does (unknown_effect s₀ m₀) len s m before after → Does (if_right right e s₀ m₀) len s m before after
unfolding if_right
does-wrong right e s₀ m₀ len s m before after t d = rw t d

-- ---- text

pub prints-put : (text : List ℕ) (len : ℕ) (before after : List ℕ) → length text ≤ length before → Put 0 text before len after → Prints text len before after
prints-put text len before after h p = let w = put_whole len text before after h p in record { size = w.0; fits = omega (arith, w.0, h); laid = w.1 }

pub prints-as : (xs ys : List ℕ) (len : ℕ) (before after : List ℕ) → xs ≡ ys → Prints xs len before after → Prints ys len before after
prints-as xs ys len before after e p = rw e at p

-- ---- as many as there are

pub take-at-most : (n : ℕ) (xs : List ℕ) → take (min n (length xs)) xs ≡ take n xs
take-at-most n xs = go (leb n (length xs)) refl
  where
    go : (t : Bool) → leb n (length xs) ≡ t → take (min n (length xs)) xs ≡ take n xs
    go true e = let k : min n (length xs) ≡ n = omega (arith, leb-true n (length xs) e) in rw k
    go false e =
        let few = leb-false n (length xs) e in
        take_all (min n (length xs)) xs (omega (arith, few)) ∙ sym (take_all n xs (omega (arith, few)))

pub drop-at-most : (n : ℕ) (xs : List ℕ) → drop (min n (length xs)) xs ≡ drop n xs
drop-at-most n xs = go (leb n (length xs)) refl
  where
    go : (t : Bool) → leb n (length xs) ≡ t → drop (min n (length xs)) xs ≡ drop n xs
    go true e = let k : min n (length xs) ≡ n = omega (arith, leb-true n (length xs) e) in rw k
    go false e =
        let few = leb-false n (length xs) e in
        let left : length xs ≤ min n (length xs) = omega (arith, few) in
        let right : length xs ≤ n = omega (arith, few) in
        drop_of_length-le xs left ∙ sym (drop_of_length-le xs right)

-- what was put at the start of a buffer stands there
pub printed : (text : List ℕ) (len n : ℕ) (before after : List ℕ) → Prints text len before after → n ≡ min len (length after) → take n after ≡ text
printed text len n before after p N =
    ap (λ (j : ℕ). take j after) N ∙ take-at-most len after ∙ ap (λ (j : ℕ). take j after) p.size ∙ ap (take (length text)) p.laid ∙ take-overlay text before

-- so many bytes of memory from an index on, both cut at its end as the code cuts them
pub part-slot : (from count start end : ℕ) (m : List ℕ) → start ≡ min from (length m) → end ≡ min (start + count) (length m)
    → take (end - start) (drop start m) ≡ slot from count m
unfolding slot
part-slot from count start end m S E =
    let rest : List ℕ = drop start m in
    let many : end - start ≡ min count (length rest) = omega (arith, length-drop start m, S, E) in
    ap (λ (n : ℕ). take n rest) many ∙ take-at-most count rest ∙ ap (take count) (ap (λ (n : ℕ). drop n m) S ∙ drop-at-most from m)

-- ---- the answer of a call

-- what is put is the line of the answer
module _ (o : Outcome) (s m buffer : List ℕ) (x : Called) (X : called o s m buffer ≡ x) (number k n len : ℕ) (before after : List ℕ) where
  pub does-answer : number ≡ number_of o → k ≡ reply_length o → n ≡ min k (length buffer) → Prints (answer_line number (take n buffer)) len before after
      → Does (request_answered x) len s m before after
  unfolding request_answered
  does-answer N K E p =
      let text : answer_line number (take n buffer) ≡ answer_line (number_of o) (take (reply_length o) buffer) =
      ap (λ (j : ℕ). answer_line j (take n buffer)) N ∙ ap (answer_line (number_of o)) (ap (λ (j : ℕ). take j buffer) E ∙ take-at-most k buffer ∙ ap (λ (j : ℕ). take j buffer) K) in
      rw (← X) (record { state = refl; memory = refl; text = prints-as _ _ len before after text p })

-- ---- a fresh start

module _ (o : Outcome) (there : List Bool) (sizes : List ℕ) (door : ℕ) (s m s₁ : List ℕ) (X : started o s₁ ≡ start_on there sizes door s) (number : ℕ) (N : number ≡ number_of o) where
  pub start-refused : (number ≡ 0 → ⊥) → (len : ℕ) (before after : List ℕ) → Prints (number_line number) len before after
      → Does (start_made there sizes door s m) len s₁ m before after
  unfolding start_made start_answered
  start-refused ne len before after p = rw (← X, ← N, ne_eqb number 0 ne) (record { state = refl; memory = refl; text = p })

  pub start-granted : number ≡ 0 → (m₁ before : List ℕ) → m₁ ≡ replicate (length m) 0 → Does (start_made there sizes door s m) 0 s₁ m₁ before before
  unfolding start_made start_answered overlay
  start-granted z m₁ before M =
      rw (← X, ← N, eq-eqb number 0 z) (record { state = refl; memory = M; text = record { size = refl; fits = omega arith; laid = refl } })

-- ---- a message over 266 bytes is refused whatever stands after them

pub too_long : (m : List ℕ) → 266 < length m → wrong_length (length m) ≡ true
unfolding wrong_length
too_long m h = rw (le-ltb (length m) 10 (omega (arith, h)), lt-ltb 266 (length m) h)

-- what answers all of them alike answers a message like its first bytes, if these are more than 266 or all
pub front-alike : (made : List ℕ → Effect) → ((x y : List ℕ) → 266 < length x → 266 < length y → made x ≡ made y)
    → (n : ℕ) (x : List ℕ) → 267 ≤ n → made (take n x) ≡ made x
front-alike made alike n x h = go (leb (length x) n) refl
  where
    go : (t : Bool) → leb (length x) n ≡ t → made (take n x) ≡ made x
    go true e = ap made (take_all n x (leb-true (length x) n e))
    go false e =
        let long = leb-false (length x) n e in
        alike (take n x) x (omega (arith, length-take n x, long, h)) (omega (arith, long, h))

module _ (s : State) (buffer : List ℕ) where
  abbrev lent_or3 : ℕ
  lent_or3 = cond (no_room s.memory buffer) 1 (cond (unsound s) 2 3)

  number-long : (m : List ℕ) → 266 < length m → request_number s m buffer ≡ lent_or3
  unfolding request_number first_failing
  number-long m h = rw (too_long m h)

  refused-long : (m : List ℕ) → 266 < length m → request_step m buffer s ≡ answers (outcome lent_or3 0) buffer s
  unfolding request_step refused
  refused-long m h = go (no_room s.memory buffer) (unsound s) (number-long m h)
    where
      go : (a b : Bool) → request_number s m buffer ≡ cond a 1 (cond b 2 3) → request_step m buffer s ≡ answers (outcome (cond a 1 (cond b 2 3)) 0) buffer s
      go true b e = rw e
      go false true e = rw e
      go false false e = rw e

-- two messages over 266 bytes are answered alike
pub made-long : (x y s m : List ℕ) → 266 < length x → 266 < length y → request_made x s m ≡ request_made y s m
unfolding request_made call_on badly_lent buffers_of step
made-long x y s m h k = rw (refused-long (lent (state_of s) m) zero_buffer x h, refused-long (lent (state_of s) m) zero_buffer y k)

-- a message is answered like its first bytes, if these are more than 266 or all
pub made-front : (n : ℕ) (x s m : List ℕ) → 267 ≤ n → request_made (take n x) s m ≡ request_made x s m
made-front n x s m h = front-alike (λ y. request_made y s m) (λ y z. made-long y z s m) n x h

-- ---- a line's pairs, and a line's listing

-- pairs that were read into a buffer with room for the least that answers for all are answered like their bytes
pub pairs_made : (least : ℕ) (made : List ℕ → Effect) → ((n : ℕ) (x : List ℕ) → least ≤ n → made (take n x) ≡ made x)
    → (new scan : Scan) (n : ℕ) (pairs buffer last : List ℕ) → new.phase ≡ Open → new.len ≡ 0
    → scan.len ≡ filled (length buffer) new.len (bytes_of new.phase pairs) → last ≡ kept new.len (bytes_of new.phase pairs) buffer
    → n ≡ min scan.len (length last) → least ≤ length buffer → made (take n last) ≡ made (bytes_of Open pairs)
pairs_made least made front new scan n pairs buffer last P Z L K N room =
    let len : scan.len ≡ filled (length buffer) 0 (bytes_of Open pairs) = L ∙ ap (λ (j : ℕ). filled (length buffer) j (bytes_of new.phase pairs)) Z ∙ ap (λ (p : Phase). filled (length buffer) 0 (bytes_of p pairs)) P in
    let bytes : last ≡ kept 0 (bytes_of Open pairs) buffer = K ∙ ap (λ (j : ℕ). kept j (bytes_of new.phase pairs) buffer) Z ∙ ap (λ (p : Phase). kept 0 (bytes_of p pairs) buffer) P in
    let first : take n last ≡ take (length buffer) (bytes_of Open pairs) =
    ap (λ (j : ℕ). take j last) N ∙ take-at-most scan.len last ∙ ap (λ (j : ℕ). take j last) len ∙ ap (take (filled (length buffer) 0 (bytes_of Open pairs))) bytes ∙ reads-pairs.kept-start (bytes_of Open pairs) buffer in
    ap made first ∙ front (length buffer) (bytes_of Open pairs) room

-- what is listed after the word `start`
pub start-listing : (new r : Listing) (word : ℕ) (line : List ℕ) → new ≡ empty → word ≡ min 5 (length line)
    → r ≡ listed new (take (length line - word) (drop word line)) → r ≡ start_listing line
start-listing new r word line N W R =
    R
    ∙ ap (listed new) (take_all (length line - word) (drop word line) (simp length-drop (omega arith)))
    ∙ ap (λ (x : Listing). listed x (drop word line)) N
    ∙ ap (listed empty) (ap (λ (j : ℕ). drop j line) W ∙ drop-at-most 5 line)
