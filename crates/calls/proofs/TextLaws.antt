-- Laws of text lines: a text that is longer than a line is answered like its first bytes. Assumes nothing.
use mathlib.Core.Path.{◌≡◌, refl, sym, ap, ◌∙◌}
use mathlib.Core.Bool.{Bool, true, false, true≢false}
use mathlib.Core.List.{List, [], ◌∷◌, ◌++◌, append_assoc}
use Prim.Native.Nat.{ℕ, ◌+◌, ◌≤◌, ◌<◌}
use native.Mathlib.Omega.{arith}
use borrow.Author.Tests.{leb-true, leb-false}
use lib.ListN.{length, take, drop, length-append, length-take, length-drop, take-append-drop}
use lib.Seq.{take_all, take_at, take-take, take-append_seam, take-append-le, drop-append-le, length-take-le}
use lib.Dec.{leb}
use Rattle.fields.specs.declared.read.Line.{Line}
use Rattle.fields.specs.Hex.{hex_numeral}
use Rattle.fields.specs.Read.{line_of, fields_of, separates}
use Rattle.fields.proofs.HexLaws.{length-numeral}
use Rattle.fields.proofs.LineLaws.{reads_lines, reads-heads}
use Rattle.fields.proofs.WriteLaws.{short-line}
use Rattle.rules.specs.Turn.{buffers_of}
use Rattle.rules.specs.Tests.{text_number}
use Rattle.rules.specs.Step.{text_step, step}
use Rattle.gateway.specs.Called.{badly_lent, call_on}
use Rattle.calls.specs.declared.text.Shown.{Shown}
use Rattle.calls.specs.Meaning.{text_made, text_effect}

-- ---- two texts over 35 bytes that begin alike are read alike

-- whether a field ends is seen at the first byte after it
separates-front : (r x y : List ℕ) → 0 < length r → separates (r ++ x) ≡ separates (r ++ y)
unfolding separates
separates-front [] x y h = absurd (omega (arith, h))
separates-front (c ∷ cs) x y h = refl

module _ (front x y : List ℕ) (far : 35 ≤ length front) (h : (line_of (front ++ x)).headed ≡ true) where
  abbrev pid : ℕ
  pid = (line_of (front ++ x)).pid

  abbrev letter : ℕ
  letter = (line_of (front ++ x)).letter

  abbrev after : ℕ
  after = length (hex_numeral pid) + 2

  abbrev headed : List ℕ → List ℕ
  headed r = hex_numeral pid ++ (32 ∷ letter ∷ r)

  within : after ≤ 12
  within = omega (arith, length-numeral pid (reads-heads.read-is-head (front ++ x) h).1)

  rest : drop after (front ++ x) ≡ drop after front ++ x
  rest = drop-append-le after front x (omega (arith, within, far))

  -- all of the head stands in the front
  front-is : front ≡ headed (drop after front)
  front-is =
      let whole : front ++ x ≡ headed (drop after front) ++ x =
      (reads-heads.read-is-head (front ++ x) h).0 ∙ ap headed rest ∙ sym (append_assoc (hex_numeral pid) (32 ∷ letter ∷ drop after front) x) in
      let size : length (headed (drop after front)) ≡ length front =
      omega (arith, length-append (hex_numeral pid) (32 ∷ letter ∷ drop after front), length-drop after front, within, far) in
      sym (take-append_seam front x) ∙ ap (take (length front)) whole ∙ take_at (headed (drop after front)) x (length front) size

  headed-too : ((line_of (front ++ y)).headed ≡ true) × ((line_of (front ++ y)).pid ≡ pid) × ((line_of (front ++ y)).letter ≡ letter)
  headed-too =
      let r = reads-heads.read-is-head (front ++ x) h in
      let text : headed (drop after front ++ y) ≡ front ++ y =
      sym (append_assoc (hex_numeral pid) (32 ∷ letter ∷ drop after front) y) ∙ ap (λ (l : List ℕ). l ++ y) (sym front-is) in
      let ends : separates (drop after front ++ y) ≡ true =
      separates-front (drop after front) y x (omega (arith, length-drop after front, within, far)) ∙ ap separates (sym rest) ∙ r.3 in
      rw text at (reads-heads.head-is-read pid letter (drop after front ++ y) r.1 r.2 ends)

not-whole : (text : List ℕ) → 35 < length text → (line_of text).whole ≡ false
not-whole text h = go (line_of text).whole refl
  where
    go : (t : Bool) → (line_of text).whole ≡ t → t ≡ false
    go false e = refl
    go true e =
        let w = reads_lines.read-is-written text e in
        absurd (omega (arith, short-line (fields_of (line_of text)) w.1.pid-fits w.1.third-fits w.1.fourth-fits, ap (λ (l : List ℕ). length l) w.0, h))

line_as : (a b : Line) → a.headed ≡ b.headed → a.whole ≡ b.whole → a.pid ≡ b.pid → a.letter ≡ b.letter → a.third ≡ b.third → a.fourth ≡ b.fourth → a ≡ b
line_as a b H W P L T F = same a.headed b.headed a.whole b.whole a.pid b.pid a.letter b.letter a.third b.third a.fourth b.fourth H W P L T F
  where
    same : (h h' w w' : Bool) (p p' l l' t t' f f' : ℕ) → h ≡ h' → w ≡ w' → p ≡ p' → l ≡ l' → t ≡ t' → f ≡ f'
        → ◌≡◌ {A = Line} (record { headed = h; whole = w; pid = p; letter = l; third = t; fourth = f }) (record { headed = h'; whole = w'; pid = p'; letter = l'; third = t'; fourth = f' })
    same h h' w w' p p' l l' t t' f f' H W P L T F = rw (H, W, P, L, T, F)

module _ (front x y : List ℕ) (far : 35 ≤ length front) (X : 0 < length x) (Y : 0 < length y) where
  beyond : (z : List ℕ) → 0 < length z → (line_of (front ++ z)).whole ≡ false
  beyond z h = not-whole (front ++ z) (omega (arith, length-append front z, h, far))

  both : (line_of (front ++ x)).headed ≡ (line_of (front ++ y)).headed → (line_of (front ++ x)).pid ≡ (line_of (front ++ y)).pid
      → (line_of (front ++ x)).letter ≡ (line_of (front ++ y)).letter → line_of (front ++ x) ≡ line_of (front ++ y)
  both H P L =
      let a = reads-heads.rest-is-nought (front ++ x) (beyond x X) in
      let b = reads-heads.rest-is-nought (front ++ y) (beyond y Y) in
      line_as (line_of (front ++ x)) (line_of (front ++ y)) H (beyond x X ∙ sym (beyond y Y)) P L (a.0 ∙ sym b.0) (a.1 ∙ sym b.1)

  alike : line_of (front ++ x) ≡ line_of (front ++ y)
  alike = go (line_of (front ++ x)).headed refl (line_of (front ++ y)).headed refl
    where
      go : (a : Bool) → (line_of (front ++ x)).headed ≡ a → (b : Bool) → (line_of (front ++ y)).headed ≡ b → line_of (front ++ x) ≡ line_of (front ++ y)
      go true e b f = let h = headed-too front x y far e in both (e ∙ sym h.0) (sym h.1) (sym h.2)
      go false e true f = absurd (true≢false (sym (headed-too front y x far f).0 ∙ e))
      go false e false f =
          let a = reads-heads.unread-is-nought (front ++ x) e in
          let b = reads-heads.unread-is-nought (front ++ y) f in
          both (e ∙ sym f) (a.0 ∙ sym b.0) (a.1 ∙ sym b.1)

pub lines-alike : (x y : List ℕ) → 35 < length x → 35 < length y → take 35 x ≡ take 35 y → line_of x ≡ line_of y
lines-alike x y X Y e =
    let front = take 35 x in
    let size : 35 ≤ length front = omega (arith, length-take-le 35 x (omega (arith, X))) in
    ap line_of (sym (take-append-drop 35 x))
    ∙ alike front (drop 35 x) (drop 35 y) size (omega (arith, length-drop 35 x, X)) (omega (arith, length-drop 35 y, Y))
    ∙ ap line_of (ap (λ (l : List ℕ). l ++ drop 35 y) e ∙ take-append-drop 35 y)

-- ---- and answered alike

made_alike : (shown : Shown) (x y s m : List ℕ) → line_of x ≡ line_of y → text_made shown x s m ≡ text_made shown y s m
unfolding text_made call_on step text_step text_number badly_lent buffers_of
made_alike shown x y s m e = rw e

pub made-begun : (shown : Shown) (x y s m : List ℕ) → 35 < length x → 35 < length y → take 35 x ≡ take 35 y → text_made shown x s m ≡ text_made shown y s m
made-begun shown x y s m X Y e = made_alike shown x y s m (lines-alike x y X Y e)

-- a text is answered like its first bytes, if these are more than 35 or all
pub text-front : (shown : Shown) (n : ℕ) (text s m : List ℕ) → 36 ≤ n → text_made shown (take n text) s m ≡ text_made shown text s m
text-front shown n text s m h = go (leb (length text) n) refl
  where
    go : (t : Bool) → leb (length text) n ≡ t → text_made shown (take n text) s m ≡ text_made shown text s m
    go true e = ap (λ (l : List ℕ). text_made shown l s m) (take_all n text (leb-true (length text) n e))
    go false e =
        let long = leb-false (length text) n e in
        made-begun shown (take n text) text s m (omega (arith, length-take n text, long, h)) (omega (arith, long, h)) (take-take 35 n text (omega (arith, h)))

-- and so is one to which a newline is added
pub ended-front : (shown : Shown) (n : ℕ) (text s m : List ℕ) → 35 ≤ n → text_effect shown (take n text) s m ≡ text_effect shown text s m
unfolding text_effect
ended-front shown n text s m h = go (leb (length text) n) refl
  where
    go : (t : Bool) → leb (length text) n ≡ t → text_made shown (take n text ++ (10 ∷ [])) s m ≡ text_made shown (text ++ (10 ∷ [])) s m
    go true e = ap (λ (l : List ℕ). text_made shown (l ++ (10 ∷ [])) s m) (take_all n text (leb-true (length text) n e))
    go false e =
        let long = leb-false (length text) n e in
        let part : length (take n text) ≡ n = length-take-le n text (omega (arith, long)) in
        made-begun shown (take n text ++ (10 ∷ [])) (text ++ (10 ∷ [])) s m
        (omega (arith, length-append (take n text) (10 ∷ []), part, h))
        (omega (arith, length-append text (10 ∷ []), long, h))
        (take-append-le 35 (take n text) (10 ∷ []) (omega (arith, part, h)) ∙ take-take 35 n text (omega (arith, h)) ∙ sym (take-append-le 35 text (10 ∷ []) (omega (arith, long, h))))
