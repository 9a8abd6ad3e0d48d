-- The law of a call at one process, and what follows from it whatever the call is: a host that may not see the inside is answered by the
-- public part alone, and the public part after the call goes by the one before it. Assumes nothing.
use mathlib.Core.Path.{◌≡◌, refl, sym, ap, ◌∙◌}
use mathlib.Core.Bool.{Bool, true, false, cond, true≢false, and-false}
use mathlib.Core.List.{List, []}
use mathlib.Core.Logic.{◌⊎◌, inl, inr}
use Prim.Native.Nat.{ℕ}
use borrow.Author.Tests.{eqb-true}
use lib.ListN.{length}
use lib.Dec.{eqb, ltb}
use Rattle.lists.specs.Buffer.{overlay}
use Rattle.format.specs.declared.header.Header.{Header}
use Rattle.format.specs.Outcome.{outcome, length_of, first_failing}
use Rattle.format.specs.Layout.{written}
use Rattle.format.proofs.OutcomeLaws.{length_of-none}
use Rattle.session.specs.Session.{text_host}
use Rattle.process.specs.Local.{Local, Proper}
use Rattle.rules.specs.Rule.{Public, public}
use Rattle.rules.specs.Window.{Buffers, Answer}
use Rattle.rules.specs.Access.{Asker, nobody, by, insider, Output, Access, number_at, grants, refuses}
use Rattle.rules.specs.Isolation.{Hosts, noticed, line_sent, sent_to}

-- what is answered
unfoldable pub said_at : Access → Buffers → Local → Answer
said_at a b l =
    cond (eqb (number_at a l) 0) (grants (a.reply l) b) (refuses (number_at a l) (a.refusal l (number_at a l)) b)

-- what is left of the process
unfoldable pub left_at : Access → Local → Local
left_at a l = cond (eqb (number_at a l) 0) (a.effect l) l

-- a call that asks no more than the public part, answers the same whatever the inside, and lets the asker in or leaves the process as it is
pub record Taking (host : ℕ) (a : Access) (then : Public → Public) : Type 0 where
  pub none : (l : Local) → first_failing (a.inner l) ≡ 0
  pub blind : (l k : Local) → a.reply l ≡ a.reply k
  pub takes : ((u : Public) → insider (then u) host ≡ true) ⊎ ((l : Local) → a.effect l ≡ l)

-- who asks sees the inside, or will; where nobody asks, nobody needs to
unfoldable pub May : Asker → Public → Access → (Public → Public) → Type 0
May nobody u a then = Unit {0}
May (by host) u a then = (insider u host ≡ true) ⊎ Taking host a then

-- bytes that go to a host that may see the inside
pub record Sends (u : Public) (bytes : List ℕ) : Type 0 where
  pub header : Header
  pub string : List ℕ
  pub is : bytes ≡ written header string
  pub sees : insider u header.host ≡ true

-- what nobody asked is nothing, or is sent to a host that may see the inside; and so is a line, which goes to host 253
pub record ToInsiders (u : Public) (w : Output) : Type 0 where
  pub notice : (w.own ≡ []) ⊎ Sends u w.own
  pub line : (w.line ≡ []) ⊎ (insider u text_host ≡ true)

-- so where nobody asks
unfoldable pub Discreet : Asker → Public → Output → Type 0
Discreet nobody u w = ToInsiders u w
Discreet (by host) u w = Unit {0}

-- the number of the first test by the public part that fails, or 0
abbrev pub outer_number : Access → Local → ℕ
outer_number a l = first_failing (a.outer (public l.process))

-- the law of a call at one process: who asks it, and the public part after it
pub record Fair (w : Asker) (a : Access) (then : Public → Public) : Type 0 where
  pub publicly : (l : Local) → number_at a l ≡ 0 → public (a.effect l).process ≡ then (public l.process)
  -- a sound process stays sound
  pub keeps : (l : Local) → Proper l → number_at a l ≡ 0 → Proper (a.effect l)
  -- who passes the tests by the public part may
  pub guarded : (u : Public) → first_failing (a.outer u) ≡ 0 → May w u a then
  -- the public part stays, or the inside is not asked
  pub hides : ((u : Public) → then u ≡ u) ⊎ ((l : Local) → first_failing (a.inner l) ≡ 0)
  -- a refusal by the public part tells no more than it
  pub plain : (l k : Local) → public l.process ≡ public k.process → a.refusal l (outer_number a l) ≡ a.refusal k (outer_number a l)
  pub discreet : (l : Local) → Proper l → Discreet w (public l.process) (a.reply l)

-- where all tests pass, those by the public part do
pub outer-zero : (a : Access) (l : Local) → number_at a l ≡ 0 → outer_number a l ≡ 0
unfolding number_at
outer-zero a l e = go (eqb (outer_number a l) 0) refl
  where
    go : (t : Bool) → eqb (outer_number a l) 0 ≡ t → outer_number a l ≡ 0
    go true i = eqb-true (outer_number a l) 0 i
    go false i = rw i at e

-- ---- a host that may not see the inside

module _ (host : ℕ) (a : Access) (then : Public → Public) (f : Fair (by host) a then) where
  pub said-stranger : (b : Buffers) (l k : Local) → public l.process ≡ public k.process → insider (public l.process) host ≡ false
      → said_at a b l ≡ said_at a b k
  unfolding said_at number_at first_failing May
  said-stranger b l k e out = go (eqb (outer_number a l) 0) refl
    where
      same : outer_number a l ≡ outer_number a k
      same = ap (λ (u : Public). first_failing (a.outer u)) e

      takes : (insider (public l.process) host ≡ true) ⊎ Taking host a then → eqb (outer_number a l) 0 ≡ true → said_at a b l ≡ said_at a b k
      takes (inl i) z = absurd (true≢false (sym i ∙ out))
      takes (inr t) z = rw (← same, z, t.none l, t.none k) (ap (λ (w : Output). grants w b) (t.blind l k))

      go : (t : Bool) → eqb (outer_number a l) 0 ≡ t → said_at a b l ≡ said_at a b k
      go true z = takes (f.guarded (public l.process) (eqb-true _ 0 z)) z
      go false z = rw (← same, z, z) (ap (λ (bytes : List ℕ). refuses (outer_number a l) bytes b) (f.plain l k e))

-- ---- the public part after it

module _ (w : Asker) (a : Access) (then : Public → Public) (f : Fair w a then) where
  number-alike : (l k : Local) → public l.process ≡ public k.process → ((x : Local) → first_failing (a.inner x) ≡ 0) → number_at a k ≡ number_at a l
  unfolding number_at
  number-alike l k e none = rw (none l, none k, e)

  pub left-alike : (l k : Local) → public l.process ≡ public k.process → public (left_at a l).process ≡ public (left_at a k).process
  unfolding left_at
  left-alike l k e = from f.hides
    where
      kept : ((u : Public) → then u ≡ u) → (x : Local) (t : Bool) → eqb (number_at a x) 0 ≡ t → public (cond t (a.effect x) x).process ≡ public x.process
      kept q x true z = f.publicly x (eqb-true _ 0 z) ∙ q (public x.process)
      kept q x false z = refl

      both : (t : Bool) → eqb (number_at a l) 0 ≡ t → eqb (number_at a k) 0 ≡ t → public (cond t (a.effect l) l).process ≡ public (cond t (a.effect k) k).process
      both true i j = f.publicly l (eqb-true _ 0 i) ∙ ap then e ∙ sym (f.publicly k (eqb-true _ 0 j))
      both false i j = e

      from : ((u : Public) → then u ≡ u) ⊎ ((x : Local) → first_failing (a.inner x) ≡ 0) → public (left_at a l).process ≡ public (left_at a k).process
      from (inl q) = kept q l (eqb (number_at a l) 0) refl ∙ e ∙ sym (kept q k (eqb (number_at a k) 0) refl)
      from (inr none) = let same = number-alike l k e none in rw same (both (eqb (number_at a l) 0) refl (rw same))

-- ---- what nobody asked

-- none of these hosts may see the inside
abbrev Outside : Hosts → Public → Type 0
Outside H u = (host : ℕ) → H host ≡ true → insider u host ≡ false

-- they do not hear it
notice-quiet : (H : Hosts) (u : Public) → Outside H u → (bytes buffer : List ℕ) → (bytes ≡ []) ⊎ Sends u bytes
    → noticed H (outcome 0 (length bytes)) (overlay bytes buffer) ≡ false
unfolding noticed length_of overlay written
notice-quiet H u out bytes buffer (inl e) = rw e
notice-quiet H u out bytes buffer (inr d) = go (H d.header.host) refl
  where
    go : (t : Bool) → H d.header.host ≡ t → noticed H (outcome 0 (length bytes)) (overlay bytes buffer) ≡ false
    go true e = absurd (true≢false (sym d.sees ∙ out d.header.host e))
    go false e = rw (d.is, e) (and-false (ltb 0 (length (written d.header d.string))))

line_quiet : (H : Hosts) (u : Public) → Outside H u → (w : Output) (b : Buffers) → (w.line ≡ []) ⊎ (insider u text_host ≡ true) → line_sent H (grants w b) ≡ false
unfolding line_sent
line_quiet H u out w b (inl e) = rw e
line_quiet H u out w b (inr sees) = go (H text_host) refl
  where
    go : (t : Bool) → H text_host ≡ t → line_sent H (grants w b) ≡ false
    go true e = absurd (true≢false (sym sees ∙ out text_host e))
    go false e = rw e (and-false (ltb 0 (length w.line)))

pub quiet : (H : Hosts) (u : Public) → ((host : ℕ) → H host ≡ true → insider u host ≡ false) → (w : Output) (b : Buffers) → Discreet nobody u w
    → sent_to H nobody (grants w b) ≡ false
unfolding sent_to Discreet
quiet H u out w b d = rw (notice-quiet H u out w.own b.own d.notice, line_quiet H u out w b d.line)

-- nothing of a refusal is sent where nobody asks
pub refusal-quiet : (H : Hosts) (number : ℕ) (bytes : List ℕ) (b : Buffers) → sent_to H nobody (refuses number bytes b) ≡ false
unfolding sent_to noticed line_sent
refusal-quiet H number bytes b = rw (length_of-none number)
