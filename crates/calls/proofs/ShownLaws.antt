-- Laws of the text line that answers a call: what is put of it, after a number or beside a notice. Assumes nothing.
use mathlib.Core.Path.{◌≡◌, refl, sym, ap, ◌∙◌}
use mathlib.Core.List.{List, [], ◌∷◌, ◌++◌}
use Prim.Native.Nat.{ℕ, ◌+◌, ◌-◌, ◌*◌, ◌≤◌, ◌<◌, min}
use native.Mathlib.Omega.{arith}
use lib.ListN.{length, take, length-append}
use lib.Seq.{set-set}
use Rattle.lists.specs.Buffer.{overlay}
use Rattle.format.specs.Outcome.{Outcome}
use Rattle.format.specs.Outcome.{number_of}
use Rattle.lines.specs.Hex.{spaced_or_dash}
use Rattle.lines.specs.Scan.{Put, kept}
use Rattle.lines.proofs.PrintLaws.{body-short}
use Rattle.lines.proofs.PutLaws.{kept_append, kept-overlay}
use Rattle.decimal.specs.Numeral.{numeral}
use Rattle.decimal.proofs.NumeralLaws.{five-digits}
use Rattle.display.specs.Answer.{answer_line}
use Rattle.gateway.specs.Called.{Called, called, report_called}
use Rattle.gateway.specs.Lengths.{notice_length, line_length}
use Rattle.calls.specs.declared.text.Shown.{Shown}
use Rattle.calls.specs.declared.text.Shown.TheVariants.{Recorded, Alone}
use Rattle.calls.specs.Shown.{line_or_dash, text_shown, mark_of, beside_notice, report_shown}
use Rattle.calls.specs.Effect.{Does}
use Rattle.calls.specs.Meaning.{report_answered, text_answered}
use Rattle.calls.proofs.MeaningLaws.{take-at-most, prints-put, prints-as}

-- ---- a line, or none

pub recorded-none : (number : ℕ) (line : List ℕ) → length line ≡ 0 → text_shown Recorded number line ≡ numeral number ++ (32 ∷ 45 ∷ 10 ∷ [])
unfolding text_shown line_or_dash
recorded-none number [] e = refl
recorded-none number (c ∷ cs) e = absurd (omega (arith, e))

pub recorded-some : (number : ℕ) (line : List ℕ) → (length line ≡ 0 → ⊥) → text_shown Recorded number line ≡ numeral number ++ ((32 ∷ []) ++ line)
unfolding text_shown line_or_dash
recorded-some number [] n = absurd (n refl)
recorded-some number (c ∷ cs) n = refl

pub beside_none : (shown : Shown) (line : List ℕ) → length line ≡ 0 → beside_notice shown line ≡ 10 ∷ []
unfolding beside_notice
beside_none shown [] e = refl
beside_none shown (c ∷ cs) e = absurd (omega (arith, e))

pub beside-some : (shown : Shown) (line : List ℕ) → (length line ≡ 0 → ⊥) → beside_notice shown line ≡ mark_of shown ++ line
unfolding beside_notice
beside-some shown [] n = absurd (n refl)
beside-some shown (c ∷ cs) n = refl

-- ---- how long it is

mark-short : (shown : Shown) → length (mark_of shown) ≤ 3
unfolding mark_of
mark-short Recorded = omega arith
mark-short Alone = omega arith

beside-short : (shown : Shown) (line : List ℕ) → (1 ≤ length (beside_notice shown line)) × (length (beside_notice shown line) ≤ 3 + length line)
unfolding beside_notice
beside-short shown [] = (omega arith, omega arith)
beside-short shown (c ∷ cs) = (omega (arith, length-append (mark_of shown) (c ∷ cs)), omega (arith, length-append (mark_of shown) (c ∷ cs), mark-short shown))

pub text-short : (shown : Shown) (number : ℕ) (line : List ℕ) → number < 256 → length (text_shown shown number line) ≤ 8 + length line
unfolding text_shown line_or_dash
text-short Recorded number [] h = omega (arith, five-digits number (omega (arith, h)), length-append (numeral number) (32 ∷ 45 ∷ 10 ∷ []))
text-short Recorded number (c ∷ cs) h = omega (arith, five-digits number (omega (arith, h)), length-append (numeral number) (32 ∷ c ∷ cs))
text-short Alone number line h = omega arith

-- the line of an answer without its newline
pub answer-short : (number : ℕ) (bytes : List ℕ) → number < 256 → (1 ≤ length (answer_line number bytes)) × (length (answer_line number bytes) ≤ 8 + 3 * length bytes)
unfolding answer_line
answer-short number bytes h =
    let text : List ℕ = numeral number ++ spaced_or_dash bytes in
    (omega (arith, length-append text (10 ∷ [])), omega (arith, five-digits number (omega (arith, h)), body-short bytes, length-append (numeral number) (spaced_or_dash bytes), length-append text (10 ∷ [])))

-- ---- what is put over a newline

kept-over : (at c : ℕ) (ys buffer : List ℕ) → 1 ≤ length ys → kept at ys (kept at (c ∷ []) buffer) ≡ kept at ys buffer
unfolding kept
kept-over at c [] buffer h = absurd (omega (arith, h))
kept-over at c (y ∷ ys) buffer h = ap (kept (at + 1) ys) (set-set buffer at c y)

-- a text with its newline was laid, and another over the newline
laid-over : (text ys before mid after : List ℕ) (next : ℕ) → mid ≡ overlay (text ++ (10 ∷ [])) before → length (text ++ (10 ∷ [])) ≤ length before → 1 ≤ length ys
    → Put (length text) ys mid next after → Put 0 (text ++ ys) before next after
laid-over text ys before mid after next M room some p =
    let zero : 0 + length text ≡ length text = omega arith in
    let first : mid ≡ kept (length text) (10 ∷ []) (kept 0 text before) =
    M ∙ sym (kept-overlay (text ++ (10 ∷ [])) before room) ∙ sym (kept_append 0 text (10 ∷ []) before) ∙ ap (λ (k : ℕ). kept k (10 ∷ []) (kept 0 text before)) zero in (
      p.0 ∙ omega (arith, length-append text ys),
      p.1 ∙ ap (kept (length text) ys) first ∙ kept-over (length text) 10 ys (kept 0 text before) some
          ∙ ap (λ (k : ℕ). kept k ys (kept 0 text before)) (sym zero) ∙ kept_append 0 text ys before,
    )

-- ---- the answers

-- what is put is the answer of a text line
module _ (shown : Shown) (o : Outcome) (s m buffer : List ℕ) (x : Called) (X : called o s m buffer ≡ x) (number k n len : ℕ) (before after : List ℕ) where
  pub does-text : number < 256 → 8 + length (take n buffer) ≤ length before → number ≡ number_of o → k ≡ line_length o buffer → n ≡ min k (length buffer)
      → Put 0 (text_shown shown number (take n buffer)) before len after → Does (text_answered shown x) len s m before after
  unfolding text_answered
  does-text byte room N K E p =
      let short = text-short shown number (take n buffer) byte in
      let line : take n buffer ≡ take (line_length o buffer) buffer = ap (λ (j : ℕ). take j buffer) E ∙ take-at-most k buffer ∙ ap (λ (j : ℕ). take j buffer) K in
      let text : text_shown shown number (take n buffer) ≡ text_shown shown (number_of o) (take (line_length o buffer) buffer) =
      ap (λ (j : ℕ). text_shown shown j (take n buffer)) N ∙ ap (text_shown shown (number_of o)) line in
      rw (← X) (record { state = refl; memory = refl; text = prints-as _ _ len before after text (prints-put _ len before after (omega (arith, short, room)) p) })

-- what is put is the answer of a report: its notice, and the line over the newline
module _ (shown : Shown) (o : Outcome) (told : ℕ) (s m buffer line : List ℕ) (x : Called) (X : report_called o told s m buffer line ≡ x) (number k n j end len : ℕ) (before mid after : List ℕ) where
  pub does-report : number < 256 → 16 + 3 * length (take n buffer) + length (take j line) ≤ length before
      → number ≡ number_of o → k ≡ notice_length o → n ≡ min k (length buffer) → j ≡ min told (length line)
      → end ≡ length (answer_line number (take n buffer)) → mid ≡ overlay (answer_line number (take n buffer)) before
      → Put (end - 1) (beside_notice shown (take j line)) mid len after → Does (report_answered shown x) len s m before after
  unfolding report_answered report_shown answer_line
  does-report byte room N K E J Z M p =
      let head : List ℕ = numeral number ++ spaced_or_dash (take n buffer) in
      let tail : List ℕ = beside_notice shown (take j line) in
      let short = answer-short number (take n buffer) byte in
      let more = beside-short shown (take j line) in
      let seam : end - 1 ≡ length head = omega (arith, Z, length-append head (10 ∷ [])) in
      let put : Put 0 (head ++ tail) before len after =
      laid-over head tail before mid after len M (omega (arith, short.1, room)) more.0 (rw seam at p) in
      let notice : take n buffer ≡ take (notice_length o) buffer = ap (λ (i : ℕ). take i buffer) E ∙ take-at-most k buffer ∙ ap (λ (i : ℕ). take i buffer) K in
      let beside : take j line ≡ take told line = ap (λ (i : ℕ). take i line) J ∙ take-at-most told line in
      let text : report_shown shown number (take n buffer) (take j line) ≡ report_shown shown (number_of o) (take (notice_length o) buffer) (take told line) =
      rw (N, notice, beside) in
      let fits : length (head ++ tail) ≤ length before = omega (arith, length-append head tail, length-append head (10 ∷ []), short.1, more.1, room) in
      rw (← X) (record { state = refl; memory = refl; text = prints-as _ _ len before after text (prints-put _ len before after fits put) })
