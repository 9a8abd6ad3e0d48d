-- Laws of a block of text: one character more of a line, a line that ends, and a turn of the loop over a block. Assumes nothing.
use mathlib.Core.Path.{◌≡◌, refl, sym, ap, ◌∙◌}
use mathlib.Core.Bool.{Bool, true, false, cond, ◌&&◌, ◌||◌, true≢false}
use mathlib.Core.List.{List, [], ◌∷◌, ◌++◌}
use Prim.Native.Nat.{ℕ, suc, ◌+◌, ◌-◌, ◌≤◌, ◌<◌}
use native.Mathlib.Numerals.{add-one}
use native.Mathlib.Omega.{arith}
use borrow.Author.Tests.{ltb-false, le-ltb, eq-eqb}
use lib.ListN.{length, take, drop, get_or, set, length-append, length-drop, take-append-drop, drop_of_length-le}
use lib.Seq.{take_all, take-append_seam, take-suc-set, length-take-le, drop-append_seam, drop-cons, drop-drop}
use lib.Dec.{eqb}
use Rattle.lists.specs.Buffer.{overlay}
use Rattle.lists.proofs.Buffer.{take-overlay, drop-overlay, length-overlay, laid-part}
use Rattle.lines.specs.declared.scan.Phase.{Phase}
use Rattle.calls.specs.Effect.{Effect, Prints, Does}
use Rattle.recording.specs.declared.language.Language.{Language}
use Rattle.recording.specs.declared.language.Language.TheVariants.{Bench, Recording, TextDoor}
use Rattle.recording.specs.declared.partial.Partial.{Partial}
use Rattle.recording.specs.declared.feeding.Step as code_step
use Rattle.recording.specs.Command.{begins, raw_word, why_word}
use Rattle.recording.specs.Line.{pairs_behind, pairs_from, capped}
use Rattle.recording.specs.Session.{Reading, reading, nothing_read, phase_after, typed, Session, session, line_ended, stepped, waits, Fed, fed_to, fed, through, Steps, Feeds}

-- a recording's pairs begin within the first bytes
behind-within : (line : List ℕ) → pairs_behind line ≤ 8
unfolding pairs_behind
behind-within line = go (begins raw_word line || begins why_word line)
  where
    go : (t : Bool) → cond t 4 8 ≤ 8
    go true = omega arith
    go false = omega arith

pub pairs-within : (l : Language) (line : List ℕ) → pairs_from l line ≤ 8
unfolding pairs_from
pairs-within Bench line = omega arith
pairs-within Recording line = behind-within line
pairs-within TextDoor line = behind-within line

-- ---- one character more

reading-as : (xs ys : List ℕ) (m n : ℕ) (p q : Phase) → xs ≡ ys → m ≡ n → p ≡ q
    → ◌≡◌ {A = Reading} (record { line = xs; size = m; phase = p }) (record { line = ys; size = n; phase = q })
reading-as xs ys m n p q X S P = rw (X, S, P)

-- where the pairs of a line begin makes no difference once they have begun, as in each language they have after eight bytes
pub typed-begun : (l : Language) (first room c : ℕ) (r : Reading) → first ≤ length r.line → 8 ≤ length r.line → typed first room c r ≡ typed (pairs_from l r.line) room c r
unfolding typed phase_after
typed-begun l first room c r f h =
    reading-as _ _ _ _ _ _ refl refl
    (rw (le-ltb (length r.line) first f, le-ltb (length r.line) (pairs_from l r.line) (omega (arith, h, pairs-within l r.line))) refl)

module _ (first c len size more : ℕ) (phase next : Phase) (line : List ℕ) (room : first ≤ length line) (M : more ≡ capped (size + 1))
    (N : next ≡ phase_after len first phase c) where
  -- there is no room for it
  pub typed-full : length line ≤ len
      → ◌≡◌ {A = Reading} (record { line = take len line; size = more; phase = next }) (typed first (length line) c (record { line = take len line; size = size; phase = phase }))
  unfolding typed phase_after
  typed-full h =
      let all : take len line ≡ line = take_all len line h in
      reading-as _ _ _ _ _ _
      (rw all (sym (take-append_seam line (c ∷ []))))
      M
      (N ∙ rw (le-ltb len first (omega (arith, h, room)), all, le-ltb (length line) first room) refl)

  -- it is kept
  pub typed-kept : len < length line
      → ◌≡◌ {A = Reading} (record { line = take (len + 1) (set line len c); size = more; phase = next }) (typed first (length line) c (record { line = take len line; size = size; phase = phase }))
  unfolding typed phase_after
  typed-kept h =
      let front : length (take len line) ≡ len = length-take-le len line (omega (arith, h)) in
      let whole : length (take len line ++ (c ∷ [])) ≡ len + 1 = omega (arith, front, length-append (take len line) (c ∷ [])) in
      reading-as _ _ _ _ _ _
      (ap (λ (n : ℕ). take n (set line len c)) (add-one len) ∙ take-suc-set line len c h ∙ sym (take_all (length line) (take len line ++ (c ∷ [])) (omega (arith, whole, h))))
      M
      (N ∙ rw front refl)

-- ---- a line that ends

pub waits-room : (c n : ℕ) → waits c n ≡ false → c ≡ 10 → 16384 ≤ n
unfolding waits
waits-room c n w e = ltb-false n 16384 (rw (eq-eqb c 10 e) at w)

pub steps-ended : (e : Effect) (r : code_step.Step) (line s m before after : List ℕ) → reading r.partial line ≡ nothing_read
    → Does e r.len s m before after → Steps (line_ended e) r line s m before after
unfolding line_ended
steps-ended e r line s m before after N d = record { session = rw (N, d.state, d.memory) refl; text = d.text }

-- ---- a turn of the loop over a block

-- text after what a buffer holds already
module _ (len n : ℕ) (text out last : List ℕ) (h : len ≤ length out) (L : n ≡ length text) (T : last ≡ overlay text (take (length out - len) (drop len out))) where
  whole : take len out ++ (last ++ drop (length out - len) (drop len out)) ≡ overlay (take len out ++ text) out
  unfolding overlay
  whole =
      let front : length (take len out) ≡ len = length-take-le len out h in
      let same : out ≡ take len out ++ drop (length (take len out)) out = sym (ap (λ (k : ℕ). take len out ++ drop k out) front ∙ take-append-drop len out) in
      laid-part (take len out) text out out last len (sym front) same T

  both-size : len + n ≡ length (take len out ++ text)
  both-size = omega (arith, length-take-le len out h, L, length-append (take len out) text)

  text-after : take (len + n) (take len out ++ (last ++ drop (length out - len) (drop len out))) ≡ take len out ++ text
  text-after = ap (take (len + n)) whole ∙ ap (λ (k : ℕ). take k (overlay (take len out ++ text) out)) both-size ∙ take-overlay (take len out ++ text) out

  rest-after : drop (len + n) (take len out ++ (last ++ drop (length out - len) (drop len out))) ≡ drop (len + n) out
  rest-after =
      ap (drop (len + n)) whole
      ∙ ap (λ (k : ℕ). drop k (overlay (take len out ++ text) out)) both-size
      ∙ drop-overlay (take len out ++ text) out
      ∙ ap (λ (k : ℕ). drop k out) (sym both-size)

  length-after : len + n ≤ length out → length (take len out ++ (last ++ drop (length out - len) (drop len out))) ≡ length out
  length-after fits = ap (λ (l : List ℕ). length l) whole ∙ length-overlay (take len out ++ text) out (omega (arith, both-size, fits))

-- a buffer that begins with a text and goes on as before has that text laid over it
pub laid-so-far : (len : ℕ) (out out₀ : List ℕ) → len ≤ length out → length out ≡ length out₀ → drop len out ≡ drop len out₀ → Prints (take len out) len out₀ out
unfolding overlay
laid-so-far len out out₀ h S D =
    let front : length (take len out) ≡ len = length-take-le len out h in
    record {
      size = sym front;
      fits = omega (arith, h, S);
      laid = sym (ap (λ (k : ℕ). take len out ++ drop k out₀) front ∙ ap (λ (l : List ℕ). take len out ++ l) (sym D) ∙ take-append-drop len out);
    }

module _ (l : Language) (block : List ℕ) (at len : ℕ) (x : Session) (out out₀ : List ℕ) (h : len ≤ length out) (S : length out ≡ length out₀) (D : drop len out ≡ drop len out₀) where
  -- the room that is left
  left : length out₀ - length (take len out) ≡ length out - len
  left = omega (arith, length-take-le len out h, S)

  -- one character was read
  pub turn : (r : code_step.Step) (line s m last : List ℕ) → at < length block → waits (get_or block at 0) (length out - len) ≡ false
      → Steps (stepped l (get_or block at 0) x) r line s m (take (length out - len) (drop len out)) last
      → (goal : Fed) → fed l (length out₀) x (take len out) (drop at block) ≡ goal
      → (len + r.len ≤ length (take len out ++ (last ++ drop (length out - len) (drop len out))))
      × (length (take len out ++ (last ++ drop (length out - len) (drop len out))) ≡ length out₀)
      × (drop (len + r.len) (take len out ++ (last ++ drop (length out - len) (drop len out))) ≡ drop (len + r.len) out₀)
      × (fed l (length out₀) (session (reading r.partial line) s m) (take (len + r.len) (take len out ++ (last ++ drop (length out - len) (drop len out)))) (drop (at + 1) block) ≡ goal)
  unfolding fed
  turn r line s m last b w e goal G =
      let text = (stepped l (get_or block at 0) x).text in
      let n = r.len in
      let N = e.text.size in
      let T = e.text.laid in
      let part : length (take (length out - len) (drop len out)) ≡ length out - len = length-take-le (length out - len) (drop len out) (omega (arith, length-drop len out)) in
      let fits : len + n ≤ length out = omega (arith, e.text.fits, part, h) in
      let same = length-after len n text out last h N T fits in
      let cons : drop at block ≡ get_or block at 0 ∷ drop (at + 1) block = drop-cons block at 0 b ∙ ap (λ (k : ℕ). get_or block at 0 ∷ drop k block) (sym (add-one at)) in
      let next : fed l (length out₀) (stepped l (get_or block at 0) x).session (take len out ++ text) (drop (at + 1) block) ≡ goal = rw (cons, left, w) at G in (
        omega (arith, same, fits),
        same ∙ S,
        rest-after len n text out last h N T ∙ sym (drop-drop n len out) ∙ ap (drop n) D ∙ drop-drop n len out₀,
        rw (e.session, text-after len n text out last h N T) next,
      )

  -- the next line might not fit
  pub feeds-wait : (partial : Partial) (line s m : List ℕ) (start : Fed) → x ≡ session (reading partial line) s m → at < length block → waits (get_or block at 0) (length out - len) ≡ true
      → fed l (length out₀) x (take len out) (drop at block) ≡ start → Feeds start (record { partial = partial; used = at; len = len }) block line s m out₀ out
  unfolding fed
  feeds-wait partial line s m start X b w G =
      let cons : drop at block ≡ get_or block at 0 ∷ drop (at + 1) block = drop-cons block at 0 b ∙ ap (λ (k : ℕ). get_or block at 0 ∷ drop k block) (sym (add-one at)) in
      let stop : fed_to x (take len out) (get_or block at 0 ∷ drop (at + 1) block) ≡ start = rw (cons, left, w) at G in
      rw (← stop) (record { session = sym X; used = omega (arith, length-drop (at + 1) block, b); text = laid-so-far len out out₀ h S D })

  -- the block is at its end
  pub feeds-all : (partial : Partial) (line s m : List ℕ) (start : Fed) → x ≡ session (reading partial line) s m → at ≡ length block
      → fed l (length out₀) x (take len out) (drop at block) ≡ start → Feeds start (record { partial = partial; used = length block; len = len }) block line s m out₀ out
  unfolding fed
  feeds-all partial line s m start X b G =
      let none : drop at block ≡ [] = drop_of_length-le block {i = at} (omega (arith, b)) in
      let stop : fed_to x (take len out) [] ≡ start = rw none at G in
      rw (← stop) (record { session = sym X; used = omega (arith, b); text = laid-so-far len out out₀ h S D })

-- ---- blocks one after another

-- what was fed and what is left lead where the block leads
fed-through : (l : Language) (size : ℕ) (x : Session) (text block : List ℕ) → through l (fed l size x text block).session (fed l size x text block).rest ≡ through l x block
unfolding fed through
fed-through l size x text [] = refl
fed-through l size x text (c ∷ cs) = go (waits c (size - length text)) (fed-through l size (stepped l c x).session (text ++ (stepped l c x).text) cs)
  where
    go : (t : Bool) → through l (fed l size (stepped l c x).session (text ++ (stepped l c x).text) cs).session (fed l size (stepped l c x).session (text ++ (stepped l c x).text) cs).rest ≡ through l (stepped l c x).session cs
        → through l (cond t (fed_to x text (c ∷ cs)) (fed l size (stepped l c x).session (text ++ (stepped l c x).text) cs)).session (cond t (fed_to x text (c ∷ cs)) (fed l size (stepped l c x).session (text ++ (stepped l c x).text) cs)).rest ≡ through l (stepped l c x).session cs
    go true e = refl
    go false e = e

-- some first bytes were used, and the rest is left
record Ends (block rest : List ℕ) : Type 0 where
  used : List ℕ
  whole : used ++ rest ≡ block

ends : (l : Language) (size : ℕ) (x : Session) (text block : List ℕ) → Ends block (fed l size x text block).rest
unfolding fed
ends l size x text [] = record { used = []; whole = refl }
ends l size x text (c ∷ cs) = go (waits c (size - length text)) (ends l size (stepped l c x).session (text ++ (stepped l c x).text) cs)
  where
    go : (t : Bool) → Ends cs (fed l size (stepped l c x).session (text ++ (stepped l c x).text) cs).rest
        → Ends (c ∷ cs) (cond t (fed_to x text (c ∷ cs)) (fed l size (stepped l c x).session (text ++ (stepped l c x).text) cs)).rest
    go true e = record { used = []; whole = refl }
    go false e = record { used = c ∷ e.used; whole = ap (λ (l : List ℕ). c ∷ l) e.whole }

-- what is left is an end of the block
fed-end : (l : Language) (size : ℕ) (x : Session) (text block : List ℕ) → drop (length block - length (fed l size x text block).rest) block ≡ (fed l size x text block).rest
fed-end l size x text block =
    let e = ends l size x text block in
    let rest : List ℕ = (fed l size x text block).rest in
    let same : length block - length rest ≡ length e.used = omega (arith, ap (λ (l : List ℕ). length l) e.whole, length-append e.used rest) in
    ap (λ (k : ℕ). drop k block) same ∙ ap (drop (length e.used)) (sym e.whole) ∙ drop-append_seam e.used rest

&&-false : (t : Bool) → t && false ≡ false
&&-false true = refl
&&-false false = refl

no-wait : (c n : ℕ) → 16384 ≤ n → waits c n ≡ false
unfolding waits
no-wait c n h = rw (le-ltb n 16384 h) (&&-false (eqb c 10))

-- with room for a line, something is used of every block
pub fed-moves : (l : Language) (size : ℕ) (x : Session) (block : List ℕ) → 16384 ≤ size → 0 < length block → length (fed l size x [] block).rest < length block
unfolding fed
fed-moves l size x [] room some = absurd (omega (arith, some))
fed-moves l size x (c ∷ cs) room some = go (waits c (size - length {A = ℕ} [])) (no-wait c (size - length {A = ℕ} []) (omega (arith, room))) (ends l size (stepped l c x).session (stepped l c x).text cs)
  where
    go : (t : Bool) → t ≡ false → Ends cs (fed l size (stepped l c x).session (stepped l c x).text cs).rest
        → length (cond t (fed_to x [] (c ∷ cs)) (fed l size (stepped l c x).session (stepped l c x).text cs)).rest < suc (length cs)
    go true e n = absurd (true≢false e)
    go false e n = omega (arith, ap (λ (l : List ℕ). length l) n.whole, length-append n.used (fed l size (stepped l c x).session (stepped l c x).text cs).rest)

-- a turn of a loop that feeds a block until it is used up
pub through-turn : (l : Language) (size : ℕ) (x y : Session) (at used : ℕ) (block : List ℕ) (goal : Session) → at ≤ length block
    → y ≡ (fed l size x [] (take (length block - at) (drop at block))).session
    → used + length (fed l size x [] (take (length block - at) (drop at block))).rest ≡ length (take (length block - at) (drop at block))
    → through l x (drop at block) ≡ goal → through l y (drop (at + used) block) ≡ goal
through-turn l size x y at used block goal h Y U G =
    let rest : List ℕ = drop at block in
    let same : take (length block - at) rest ≡ rest = take_all (length block - at) rest (simp length-drop (omega arith)) in
    let Z : y ≡ (fed l size x [] rest).session = rw same at Y in
    let K : used + length (fed l size x [] rest).rest ≡ length rest = rw same at U in
    let many : used ≡ length rest - length (fed l size x [] rest).rest = omega (arith, K) in
    let left : drop (at + used) block ≡ (fed l size x [] rest).rest = sym (drop-drop used at block) ∙ ap (λ (k : ℕ). drop k rest) many ∙ fed-end l size x [] rest in
    rw (Z, left) (fed-through l size x [] rest ∙ G)
