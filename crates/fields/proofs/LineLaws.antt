-- Laws of reading a line, field by field. Assumes nothing.
use Rattle.std.proofs.Common.{Option, Some, None}
use mathlib.Core.Path.{◌≡◌, refl, sym, ap, ◌∙◌, subst}
use mathlib.Core.Bool.{Bool, true, false, cond, ◌&&◌, true≢false}
use mathlib.Core.List.{List, [], ◌∷◌, ◌++◌}
use Prim.Native.Nat.{ℕ, ◌+◌, ◌-◌, ◌≤◌, ◌<◌}
use native.Mathlib.Omega.{arith}
use borrow.Author.Tests.{eqb-true, eqb-false, eq-eqb}
use lib.ListN.{length, drop, get_or, length-drop, drop_of_length-le}
use lib.Seq.{drop-append_seam}
use lib.Dec.{eqb}
use Rattle.lists.proofs.Bool.{&&-left, &&-right}
use Rattle.fields.specs.declared.write.Fields.{Fields}
use Rattle.fields.specs.declared.number.Number.{Number}
use Rattle.fields.specs.declared.read.Head.{Head}
use Rattle.fields.specs.declared.read.Line.{Line}
use Rattle.fields.specs.Letters.{known}
use Rattle.fields.specs.Hex.{hex_numeral, hex_value, digits_of, number_at, number_after, right}
use Rattle.fields.specs.Written.{blank_numeral, written, Sayable}
use Rattle.fields.specs.Read.{separates, head_after, head_from, head_of, whole_line, ends_at, fields_with, fields_from, fields_after, line_after, line_from, line_of, fields_of}
use Rattle.fields.specs.Theorems.{ReadsLines, ReadsHeads}
use Rattle.fields.proofs.ReadLaws.{some_only, here, stands-first, stands-rest, stands_after, stands-within, numeral-is-read, blank-is-read, numeral-stands, blank_stands}

-- ---- where a field, and a line, may end

module _ (text : List ℕ) (at : ℕ) where
  -- a newline and no more stands there
  newline-ends : drop at text ≡ 10 ∷ [] → ends_at text at ≡ true
  unfolding ends_at
  newline-ends e =
      let size : length text - at ≡ 1 = sym (length-drop at text) ∙ ap (λ (l : List ℕ). length l) e in
      rw (eq-eqb (get_or text at 0) 10 (stands-first text at 10 [] e), eq-eqb (length text) (at + 1) (omega (arith, size)))

  ends-newline : ends_at text at ≡ true → drop at text ≡ 10 ∷ []
  unfolding ends_at
  ends-newline e =
      let last : get_or text at 0 ≡ 10 = eqb-true _ _ (&&-left (eqb (get_or text at 0) 10) (eqb (length text) (at + 1)) e) in
      let size : length text ≡ at + 1 = eqb-true _ _ (&&-right (eqb (get_or text at 0) 10) (eqb (length text) (at + 1)) e) in
      let past : length text ≤ at + 1 = omega (arith, size) in
      here text at (stands-within text at (omega (arith, last)))
      ∙ ap (λ (k : ℕ). k ∷ drop (at + 1) text) last
      ∙ ap (λ (l : List ℕ). 10 ∷ l) (drop_of_length-le text past)

-- ---- the process and the request: what the code finds

module _ (text : List ℕ) (n : Number) where
  pub head-found : get_or text n.next 0 ≡ 32 → known (get_or text (n.next + 1) 0) ≡ true → separates (drop (n.next + 2) text) ≡ true
      → head_after text n ≡ Some (record { pid = n.value; letter = get_or text (n.next + 1) 0; next = n.next + 2 })
  unfolding head_after
  head-found b k s = rw (eq-eqb (get_or text n.next 0) 32 b, k, s)

-- ---- the process and the request: what stands there

blank-no-digit : (cs : List ℕ) → digits_of (32 ∷ cs) ≡ []
unfolding digits_of hex_value
blank-no-digit cs = refl

newline-no-digit : (cs : List ℕ) → digits_of (10 ∷ cs) ≡ []
unfolding digits_of hex_value
newline-no-digit cs = refl

module _ (text : List ℕ) (pid letter : ℕ) (rest : List ℕ) (is : text ≡ hex_numeral pid ++ (32 ∷ letter ∷ rest)) where
  blank-here : drop (length (hex_numeral pid)) text ≡ 32 ∷ letter ∷ rest
  blank-here = ap (λ (l : List ℕ). drop (length (hex_numeral pid)) l) is ∙ drop-append_seam (hex_numeral pid) (32 ∷ letter ∷ rest)

  letter-here : drop (length (hex_numeral pid) + 1) text ≡ letter ∷ rest
  letter-here = stands-rest text (length (hex_numeral pid)) 32 (letter ∷ rest) blank-here

  rest-here : drop (length (hex_numeral pid) + 2) text ≡ rest
  rest-here =
      let two : length (hex_numeral pid) + 1 + 1 ≡ length (hex_numeral pid) + 2 = omega arith in
      ap (λ (k : ℕ). drop k text) (sym two) ∙ stands-rest text (length (hex_numeral pid) + 1) letter rest letter-here

  head-is : pid < 4294967296 → known letter ≡ true → separates rest ≡ true
      → head_of text ≡ Some (record { pid = pid; letter = letter; next = length (hex_numeral pid) + 2 })
  unfolding head_of
  head-is h k s =
      let zero : 0 + length (hex_numeral pid) ≡ length (hex_numeral pid) = omega arith in
      let number = numeral-is-read text 0 pid (32 ∷ letter ∷ rest) is h (blank-no-digit (letter ∷ rest)) ∙ ap (right pid) zero in
      let blank = stands-first text (length (hex_numeral pid)) 32 (letter ∷ rest) blank-here in
      let one = stands-first text (length (hex_numeral pid) + 1) letter rest letter-here in
      ap (head_from text) number
      ∙ head-found text (record { value = pid; next = length (hex_numeral pid) }) blank (ap known one ∙ k) (ap separates rest-here ∙ s)
      ∙ ap (λ (c : ℕ). Some (record { pid = pid; letter = c; next = length (hex_numeral pid) + 2 })) one

-- what was read stands at the start
record HeadStands (text : List ℕ) (h : Head) : Type 0 where
  text-is : text ≡ hex_numeral h.pid ++ (32 ∷ h.letter ∷ drop h.next text)
  pid-fits : h.pid < 4294967296
  letter-known : known h.letter ≡ true
  ends : separates (drop h.next text) ≡ true
  next-is : h.next ≡ length (hex_numeral h.pid) + 2

known_some : (c : ℕ) → known c ≡ true → 1 ≤ c
unfolding known
known_some c k = go (eqb c 0) refl
  where
    go : (t : Bool) → eqb c 0 ≡ t → 1 ≤ c
    go true e = absurd (true≢false (sym k ∙ ap known (eqb-true c 0 e)))
    go false e = omega (arith, eqb-false c 0 e)

head-stands : (text : List ℕ) (h : Head) → head_of text ≡ Some h → HeadStands text h
unfolding head_of head_after
head-stands text h e = go (number_at text 0) refl e
  where
    go : (o : Option Number) → number_at text 0 ≡ o → head_from text o ≡ Some h → HeadStands text h
    go None q f = cc
    go (Some n) q f =
        let b = eqb (get_or text n.next 0) 32 in
        let k = known (get_or text (n.next + 1) 0) in
        let s = separates (drop (n.next + 2) text) in
        let it : Head = record { pid = n.value; letter = get_or text (n.next + 1) 0; next = n.next + 2 } in
        let found = some_only (b && (k && s)) it h f in
        let stands = numeral-stands text 0 n q in
        let blank : get_or text n.next 0 ≡ 32 = eqb-true _ _ (&&-left b (k && s) found.0) in
        let last = &&-right b (k && s) found.0 in
        let letter = &&-left k s last in
        let two : n.next + 1 + 1 ≡ n.next + 2 = omega arith in
        let there : HeadStands text it = record {
          text-is =
              stands.text-here
              ∙ ap (λ (l : List ℕ). hex_numeral n.value ++ l)
              (here text n.next (stands-within text n.next (omega (arith, blank)))
              ∙ ap (λ (c : ℕ). c ∷ drop (n.next + 1) text) blank
              ∙ ap (λ (l : List ℕ). 32 ∷ l) (here text (n.next + 1) (stands-within text (n.next + 1) (known_some (get_or text (n.next + 1) 0) letter)))
              ∙ ap (λ (j : ℕ). 32 ∷ get_or text (n.next + 1) 0 ∷ drop j text) two);
          pid-fits = stands.fits;
          letter-known = letter;
          ends = &&-right k s last;
          next-is = omega (arith, stands.next-is);
        } in
        subst (λ (x : Head). HeadStands text x) found.1 there

-- ---- the line: what stands there

-- the last two fields as they are written
tail_of : Fields → List ℕ
tail_of f = blank_numeral f.third ++ (blank_numeral f.fourth ++ (10 ∷ []))

tail-separates : (f : Fields) → separates (tail_of f) ≡ true
unfolding tail_of blank_numeral separates
tail-separates f = refl

blank-goes-on : (n : ℕ) (cs : List ℕ) → digits_of (blank_numeral n ++ cs) ≡ []
unfolding blank_numeral
blank-goes-on n cs = blank-no-digit (hex_numeral n ++ cs)

pub written-is-read : (f : Fields) → Sayable f → line_of (written f) ≡ whole_line f
unfolding written tail_of line_of line_from line_after
written-is-read f s = go (written f) refl
  where
    go : (text : List ℕ) → text ≡ hex_numeral f.pid ++ (32 ∷ f.letter ∷ tail_of f) → line_of text ≡ whole_line f
    go text is =
        let head = head-is text f.pid f.letter (tail_of f) is s.pid-fits s.letter-known (tail-separates f) in
        let at = length (hex_numeral f.pid) + 2 in
        let next = at + length (blank_numeral f.third) in
        let rest : drop at text ≡ blank_numeral f.third ++ (blank_numeral f.fourth ++ (10 ∷ [])) = rest-here text f.pid f.letter (tail_of f) is in
        let third = blank-is-read text at f.third (blank_numeral f.fourth ++ (10 ∷ [])) rest s.third-fits (blank-goes-on f.fourth (10 ∷ [])) in
        let last : drop next text ≡ blank_numeral f.fourth ++ (10 ∷ []) = stands_after text at (blank_numeral f.third) _ rest in
        let fourth = blank-is-read text next f.fourth (10 ∷ []) last s.fourth-fits (newline-no-digit []) in
        let end = newline-ends text (next + length (blank_numeral f.fourth)) (stands_after text next (blank_numeral f.fourth) (10 ∷ []) last) in
        rw (head, third, fourth, end)

-- all the parts of a whole line
record Parts (text : List ℕ) : Type 0 where
  head : Head
  third : Number
  fourth : Number
  head-is : head_of text ≡ Some head
  third-is : number_after text head.next ≡ Some third
  fourth-is : number_after text third.next ≡ Some fourth
  ends : ends_at text fourth.next ≡ true

parts : (text : List ℕ) → (line_of text).whole ≡ true → Parts text
unfolding line_of line_from line_after
parts text w = headed (head_of text) refl w
  where
    ended : (h : Head) (n m : Number) → head_of text ≡ Some h → number_after text h.next ≡ Some n → number_after text n.next ≡ Some m
        → (t : Bool) → ends_at text m.next ≡ t
        → (line_after h (cond t (Some (record { pid = h.pid; letter = h.letter; third = n.value; fourth = m.value })) None)).whole ≡ true → Parts text
    ended h n m e f g true i w = record { head = h; third = n; fourth = m; head-is = e; third-is = f; fourth-is = g; ends = i }
    ended h n m e f g false i w = absurd (true≢false (sym w))

    fourth : (h : Head) (n : Number) → head_of text ≡ Some h → number_after text h.next ≡ Some n
        → (o : Option Number) → number_after text n.next ≡ o → (line_after h (fields_with text h n o)).whole ≡ true → Parts text
    fourth h n e f None g w = absurd (true≢false (sym w))
    fourth h n e f (Some m) g w = ended h n m e f g (ends_at text m.next) refl w

    third : (h : Head) → head_of text ≡ Some h → (o : Option Number) → number_after text h.next ≡ o
        → (line_after h (fields_from text h o)).whole ≡ true → Parts text
    third h e None f w = absurd (true≢false (sym w))
    third h e (Some n) f w = fourth h n e f (number_after text n.next) refl w

    headed : (o : Option Head) → head_of text ≡ o → (line_from text o).whole ≡ true → Parts text
    headed None e w = absurd (true≢false (sym w))
    headed (Some h) e w = third h e (number_after text h.next) refl w

pub read-is-written : (text : List ℕ) → (line_of text).whole ≡ true → (text ≡ written (fields_of (line_of text))) × Sayable (fields_of (line_of text))
unfolding written line_of line_from line_after
read-is-written text w =
    let p = parts text w in
    let h = p.head in
    let n = p.third in
    let m = p.fourth in
    let f : Fields = record { pid = h.pid; letter = h.letter; third = n.value; fourth = m.value } in
    let line : line_of text ≡ whole_line f = rw (p.head-is, p.third-is, p.fourth-is, p.ends) in
    let head = head-stands text h p.head-is in
    let third = blank_stands text h.next n p.third-is in
    let fourth = blank_stands text n.next m p.fourth-is in
    let is : text ≡ hex_numeral h.pid ++ (32 ∷ h.letter ∷ (blank_numeral n.value ++ (blank_numeral m.value ++ (10 ∷ [])))) =
    head.text-is
    ∙ ap (λ (l : List ℕ). hex_numeral h.pid ++ (32 ∷ h.letter ∷ l)) third.text-here
    ∙ ap (λ (l : List ℕ). hex_numeral h.pid ++ (32 ∷ h.letter ∷ (blank_numeral n.value ++ l))) fourth.text-here
    ∙ ap (λ (l : List ℕ). hex_numeral h.pid ++ (32 ∷ h.letter ∷ (blank_numeral n.value ++ (blank_numeral m.value ++ l)))) (ends-newline text m.next p.ends) in
    let say : Sayable f = record { letter-known = head.letter-known; pid-fits = head.pid-fits; third-fits = third.fits; fourth-fits = fourth.fits } in
    subst (λ (l : Line). (text ≡ written (fields_of l)) × Sayable (fields_of l)) (sym line) (is, say)

one_line : (text other : List ℕ) → (line_of text).whole ≡ true → line_of other ≡ line_of text → other ≡ text
one_line text other w e =
    (read-is-written other (ap (λ (l : Line). l.whole) e ∙ w)).0
    ∙ ap (λ (l : Line). written (fields_of l)) e
    ∙ sym (read-is-written text w).0

one-meaning : (f g : Fields) → Sayable f → Sayable g → written f ≡ written g → f ≡ g
one-meaning f g s t e = ap fields_of (sym (written-is-read f s) ∙ ap line_of e ∙ written-is-read g t)

pub reads_lines : ReadsLines
reads_lines = record { written-is-read = written-is-read; read-is-written = read-is-written; one_line = one_line; one-meaning = one-meaning }

-- ---- lines that are not whole

-- what the line says of process and request is what its head says
Heads : Line → Head → Type 0
Heads l h = (l.headed ≡ true) × (l.pid ≡ h.pid) × (l.letter ≡ h.letter)

line-head : (text : List ℕ) (h : Head) → Heads (line_from text (Some h)) h
unfolding Heads line_from line_after
line-head text h = third (number_after text h.next)
  where
    fourth : (n : Number) (o : Option Number) → Heads (line_after h (fields_with text h n o)) h
    fourth n None = (refl, refl, refl)
    fourth n (Some m) = ended (ends_at text m.next)
      where
        ended : (t : Bool) → Heads (line_after h (cond t (Some (record { pid = h.pid; letter = h.letter; third = n.value; fourth = m.value })) None)) h
        ended true = (refl, refl, refl)
        ended false = (refl, refl, refl)

    third : (o : Option Number) → Heads (line_after h (fields_from text h o)) h
    third None = (refl, refl, refl)
    third (Some n) = fourth n (number_after text n.next)

head-is-read : (pid letter : ℕ) (rest : List ℕ) → pid < 4294967296 → known letter ≡ true → separates rest ≡ true
    → ((line_of (hex_numeral pid ++ (32 ∷ letter ∷ rest))).headed ≡ true)
    × ((line_of (hex_numeral pid ++ (32 ∷ letter ∷ rest))).pid ≡ pid)
    × ((line_of (hex_numeral pid ++ (32 ∷ letter ∷ rest))).letter ≡ letter)
unfolding Heads line_of
head-is-read pid letter rest h k s = go (hex_numeral pid ++ (32 ∷ letter ∷ rest)) refl
  where
    go : (text : List ℕ) → text ≡ hex_numeral pid ++ (32 ∷ letter ∷ rest) → ((line_of text).headed ≡ true) × ((line_of text).pid ≡ pid) × ((line_of text).letter ≡ letter)
    go text is =
        rw (head-is text pid letter rest is h k s) (line-head text (record { pid = pid; letter = letter; next = length (hex_numeral pid) + 2 }))

-- a line that is headed has a head
headed-some : (text : List ℕ) → (line_of text).headed ≡ true → (h : Head) × (head_of text ≡ Some h)
unfolding line_of line_from
headed-some text e = go (head_of text) refl e
  where
    go : (o : Option Head) → head_of text ≡ o → (line_from text o).headed ≡ true → (h : Head) × (head_of text ≡ Some h)
    go None q f = absurd (true≢false (sym f))
    go (Some h) q f = (h, q)

-- what the head of a text says of it
HeadIs : List ℕ → ℕ → ℕ → Type 0
HeadIs text pid letter = (text ≡ hex_numeral pid ++ (32 ∷ letter ∷ drop (length (hex_numeral pid) + 2) text))
    × (pid < 4294967296) × (known letter ≡ true) × (separates (drop (length (hex_numeral pid) + 2) text) ≡ true)

read-is-head : (text : List ℕ) → (line_of text).headed ≡ true
    → (text ≡ hex_numeral (line_of text).pid ++ (32 ∷ (line_of text).letter ∷ drop (length (hex_numeral (line_of text).pid) + 2) text))
    × ((line_of text).pid < 4294967296)
    × (known (line_of text).letter ≡ true)
    × (separates (drop (length (hex_numeral (line_of text).pid) + 2) text) ≡ true)
unfolding line_of HeadIs Heads
read-is-head text e =
    let some = headed-some text e in
    let h = some.0 in
    let s = head-stands text h some.1 in
    let line : Heads (line_of text) h = rw some.1 (line-head text h) in
    let it : HeadIs text h.pid h.letter = (
      s.text-is ∙ ap (λ (k : ℕ). hex_numeral h.pid ++ (32 ∷ h.letter ∷ drop k text)) s.next-is,
      s.pid-fits,
      s.letter-known,
      ap (λ (k : ℕ). separates (drop k text)) (sym s.next-is) ∙ s.ends,
    ) in
    subst (λ (c : ℕ). HeadIs text (line_of text).pid c) (sym line.2) (subst (λ (p : ℕ). HeadIs text p h.letter) (sym line.1) it)

whole-is-headed : (text : List ℕ) → (line_of text).whole ≡ true → (line_of text).headed ≡ true
unfolding line_of Heads
whole-is-headed text w = let p = parts text w in rw p.head-is (line-head text p.head).0

unread-is-nought : (text : List ℕ) → (line_of text).headed ≡ false → ((line_of text).pid ≡ 0) × ((line_of text).letter ≡ 0)
unfolding line_of line_from Heads
unread-is-nought text e = go (head_of text) e
  where
    go : (o : Option Head) → (line_from text o).headed ≡ false → ((line_from text o).pid ≡ 0) × ((line_from text o).letter ≡ 0)
    go None f = (refl, refl)
    go (Some h) f = absurd (true≢false (sym (line-head text h).0 ∙ f))

-- nothing is said of the last two fields of a line that is not whole
Rest : Line → Type 0
Rest l = l.whole ≡ false → (l.third ≡ 0) × (l.fourth ≡ 0)

rest-nought : (h : Head) (o : Option Fields) → Rest (line_after h o)
unfolding Rest line_after
rest-nought h None e = (refl, refl)
rest-nought h (Some f) e = absurd (true≢false e)

rest-is-nought : (text : List ℕ) → (line_of text).whole ≡ false → ((line_of text).third ≡ 0) × ((line_of text).fourth ≡ 0)
unfolding Rest line_of line_from
rest-is-nought text = go (head_of text)
  where
    go : (o : Option Head) → (line_from text o).whole ≡ false → ((line_from text o).third ≡ 0) × ((line_from text o).fourth ≡ 0)
    go None e = (refl, refl)
    go (Some h) e = rest-nought h (fields_after text h) e

pub reads-heads : ReadsHeads
reads-heads = record {
  head-is-read = head-is-read;
  read-is-head = read-is-head;
  whole-is-headed = whole-is-headed;
  unread-is-nought = unread-is-nought;
  rest-is-nought = rest-is-nought;
}
