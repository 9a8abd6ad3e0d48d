-- Laws of transcripts: a session that keeps a transcript, one character more. Assumes nothing.
use mathlib.Core.Path.{◌≡◌, refl, sym, ap, ◌∙◌}
use mathlib.Core.Bool.{Bool, true, false, cond, ◌||◌}
use mathlib.Core.List.{List, [], ◌∷◌, ◌++◌, append-nil}
use mathlib.Core.Logic.{inl, inr}
use Prim.Native.Nat.{ℕ, ◌+◌, ◌-◌, ◌≤◌, ◌<◌}
use native.Mathlib.Omega.{arith}
use borrow.Author.Tests.{ltb-true, ltb-false, le-ltb, leb-true, leb-false}
use lib.ListN.{length, take, drop, length-append, length-take, drop_of_length-le}
use lib.Seq.{take_all, take-take, take-nil, drop-nil, take-append-le, drop-append-le, length-take-le}
use lib.Dec.{leb, ltb}
use Rattle.lists.proofs.Bool.{&&-right}
use Rattle.lines.specs.declared.scan.Phase.TheVariants.{Open}
use Rattle.lines.specs.Scan.{next, after, is_newline}
use Rattle.lines.proofs.ScanLaws.{in_parts}
use Rattle.recording.specs.declared.language.Language.{Language}
use Rattle.recording.specs.declared.language.Language.TheVariants.{Bench, Recording, TextDoor}
use Rattle.recording.specs.Command.{begins, raw_word, why_word}
use Rattle.recording.specs.Line.{pairs_behind, pairs_from, capped, line_effect, whole_effect}
use Rattle.recording.specs.Session.{phase_after, typed, session, line_ended, stepped, waits, fed_to, fed}
use Rattle.recording.specs.Transcript.{Transcript, answered, character, transcribed, keeps, Follows, FollowsLines, InBlocks}
use Rattle.recording.proofs.CommandLaws.{begins-short, begins-take, begins-more}
use Rattle.recording.proofs.SessionLaws.{pairs-within}
use Rattle.recording.proofs.LineLaws.{kept-effect}

pub in_blocks : InBlocks
unfolding InBlocks transcribed
in_blocks l t xs ys = go xs t
  where
    go : (zs : List ℕ) (u : Transcript) → transcribed l u (zs ++ ys) ≡ transcribed l (transcribed l u zs) ys
    go [] u = refl
    go (z ∷ zs) u = go zs (character l z u)

-- ---- one character more of a line

take_more : (n c : ℕ) (line : List ℕ) → take n (take n line ++ (c ∷ [])) ≡ take n (line ++ (c ∷ []))
take_more n c line = go (leb n (length line)) refl
  where
    go : (t : Bool) → leb n (length line) ≡ t → take n (take n line ++ (c ∷ [])) ≡ take n (line ++ (c ∷ []))
    go true e =
        let low = leb-true n (length line) e in
        take-append-le n (take n line) (c ∷ []) (omega (arith, length-take-le n line low)) ∙ take-take n n line (omega arith) ∙ sym (take-append-le n line (c ∷ []) low)
    go false e = ap (λ (l : List ℕ). take n (l ++ (c ∷ []))) (take_all n line (omega (arith, leb-false n (length line) e)))

module _ (first c : ℕ) (line : List ℕ) (low : first ≤ 8) where
  phase-behind : phase_after (length (take 1025 line)) first (after Open (drop first line)) c ≡ after Open (drop first (line ++ (c ∷ [])))
  unfolding phase_after after
  phase-behind = go (ltb (length line) first) refl
    where
      go : (t : Bool) → ltb (length line) first ≡ t
          → cond (ltb (length (take 1025 line)) first) (after Open (drop first line)) (next (after Open (drop first line)) c) ≡ after Open (drop first (line ++ (c ∷ [])))
      go true e =
          let few = ltb-true (length line) first e in
          let all : take 1025 line ≡ line = take_all 1025 line (omega (arith, few, low)) in
          let none : drop first line ≡ [] = drop_of_length-le line {i = first} (omega (arith, few)) in
          let still : drop first (line ++ (c ∷ [])) ≡ [] = drop_of_length-le (line ++ (c ∷ [])) {i = first} (omega (arith, few, length-append line (c ∷ []))) in
          rw (all, e, none, still) refl
      go false e =
          let many = ltb-false (length line) first e in
          let size : ltb (length (take 1025 line)) first ≡ false = le-ltb (length (take 1025 line)) first (omega (arith, length-take 1025 line, many, low)) in
          rw (size, drop-append-le first line (c ∷ []) many) (sym (in_parts Open (drop first line) (c ∷ [])))

-- where the pairs begin is settled before they do
module _ (c : ℕ) (line : List ℕ) where
  behind-kept : pairs_behind (take 1025 line) ≡ pairs_behind line
  unfolding pairs_behind
  behind-kept = rw (begins-take raw_word line 1025 (omega arith), begins-take why_word line 1025 (omega arith)) refl

  behind_more : drop (pairs_behind line) (line ++ (c ∷ [])) ≡ drop (pairs_behind (line ++ (c ∷ []))) (line ++ (c ∷ []))
  unfolding pairs_behind
  behind_more = go (leb 4 (length line)) refl
    where
      none : (n : ℕ) → 4 ≤ n → length line < 4 → drop n (line ++ (c ∷ [])) ≡ []
      none n h few = drop_of_length-le (line ++ (c ∷ [])) {i = n} (omega (arith, few, h, length-append line (c ∷ [])))

      either : (t : Bool) → length line < 4 → [] ≡ drop (cond t 4 8) (line ++ (c ∷ []))
      either true few = sym (none 4 (omega arith) few)
      either false few = sym (none 8 (omega arith) few)

      go : (t : Bool) → leb 4 (length line) ≡ t
          → drop (cond (begins raw_word line || begins why_word line) 4 8) (line ++ (c ∷ []))
          ≡ drop (cond (begins raw_word (line ++ (c ∷ [])) || begins why_word (line ++ (c ∷ []))) 4 8) (line ++ (c ∷ []))
      go true e = rw (begins-more raw_word line (c ∷ []) (leb-true 4 (length line) e), begins-more why_word line (c ∷ []) (leb-true 4 (length line) e)) refl
      go false e =
          let few = leb-false 4 (length line) e in
          rw (sym (begins-short raw_word line few), sym (begins-short why_word line few))
          (none 8 (omega arith) few ∙ either (begins raw_word (line ++ (c ∷ [])) || begins why_word (line ++ (c ∷ []))) few)

  pairs-kept : (l : Language) → pairs_from l (take 1025 line) ≡ pairs_from l line
  unfolding pairs_from
  pairs-kept Bench = refl
  pairs-kept Recording = behind-kept
  pairs-kept TextDoor = behind-kept

  pairs-more : (l : Language) → drop (pairs_from l line) (line ++ (c ∷ [])) ≡ drop (pairs_from l (line ++ (c ∷ []))) (line ++ (c ∷ []))
  unfolding pairs_from
  pairs-more Bench = refl
  pairs-more Recording = behind_more
  pairs-more TextDoor = behind_more

  phase-more : (l : Language) → phase_after (length (take 1025 line)) (pairs_from l (take 1025 line)) (after Open (drop (pairs_from l line) line)) c
      ≡ after Open (drop (pairs_from l (line ++ (c ∷ []))) (line ++ (c ∷ [])))
  phase-more l =
      ap (λ (n : ℕ). phase_after (length (take 1025 line)) n (after Open (drop (pairs_from l line) line)) c) (pairs-kept l)
      ∙ phase-behind (pairs_from l line) c line (pairs-within l line)
      ∙ ap (after Open) (pairs-more l)

  size-more : capped (capped (length line) + 1) ≡ capped (length (line ++ (c ∷ [])))
  size-more = omega (arith, length-append line (c ∷ []))

-- ---- a session that keeps a transcript keeps it after one character more

module _ (l : Language) (c : ℕ) (t : Transcript) where
  abbrev Stays : Bool → Type 0
  Stays b = ((cond b (line_ended (line_effect l (keeps l t).reading.phase (keeps l t).reading.size (keeps l t).reading.line (keeps l t).state (keeps l t).memory)) (record { session = session (typed (pairs_from l (keeps l t).reading.line) 1025 c (keeps l t).reading) (keeps l t).state (keeps l t).memory; text = [] })).session ≡ keeps l (cond b (answered (whole_effect l t.line t.state t.memory) t) (record { line = t.line ++ (c ∷ []); state = t.state; memory = t.memory; text = t.text })))
      × (t.text ++ (cond b (line_ended (line_effect l (keeps l t).reading.phase (keeps l t).reading.size (keeps l t).reading.line (keeps l t).state (keeps l t).memory)) (record { session = session (typed (pairs_from l (keeps l t).reading.line) 1025 c (keeps l t).reading) (keeps l t).state (keeps l t).memory; text = [] })).text ≡ (cond b (answered (whole_effect l t.line t.state t.memory) t) (record { line = t.line ++ (c ∷ []); state = t.state; memory = t.memory; text = t.text })).text)

  stays : (b : Bool) → Stays b
  unfolding keeps line_ended answered typed after
  stays true = rw (kept-effect l t.line t.state t.memory, take-nil {A = ℕ} 1025, drop-nil {A = ℕ} (pairs_from l [])) (refl, refl)
  stays false = rw (take_more 1025 c t.line, phase-more c t.line l, size-more c t.line) (refl, append-nil t.text)

  kept_step : ((stepped l c (keeps l t)).session ≡ keeps l (character l c t)) × (t.text ++ (stepped l c (keeps l t)).text ≡ (character l c t).text)
  unfolding stepped character
  kept_step = stays (is_newline c)

-- ---- a block

follows : (l : Language) (size : ℕ) (t : Transcript) (block : List ℕ) → Follows l size t block (fed l size (keeps l t) t.text block)
unfolding fed transcribed waits
follows l size t [] = record { used = []; whole = refl; session = refl; text = refl; stops = inl refl }
follows l size t (c ∷ cs) = go (waits c (size - length t.text)) refl (follows l size (character l c t) cs)
  where
    go : (b : Bool) → waits c (size - length t.text) ≡ b → Follows l size (character l c t) cs (fed l size (keeps l (character l c t)) (character l c t).text cs)
        → Follows l size t (c ∷ cs) (cond b (fed_to (keeps l t) t.text (c ∷ cs)) (fed l size (stepped l c (keeps l t)).session (t.text ++ (stepped l c (keeps l t)).text) cs))
    go true e rest = record { used = []; whole = refl; session = refl; text = refl; stops = inr (&&-right (is_newline c) (ltb (size - length t.text) 16384) e) }
    go false e rest =
        let k = kept_step l c t in
        rw (k.0, k.1) (record { used = c ∷ rest.used; whole = ap (λ (l : List ℕ). c ∷ l) rest.whole; session = rest.session; text = rest.text; stops = rest.stops })

pub follows-lines : FollowsLines
unfolding FollowsLines
follows-lines l size t block = follows l size t block
