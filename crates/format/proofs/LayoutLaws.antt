-- Laws of a message's bytes: its fields and string can be read off its written form, and its written form is made of them.
-- Assumes nothing.
use mathlib.Core.Path.{◌≡◌, refl, ap, ◌∙◌}
use mathlib.Core.Bool.{true, ◌&&◌}
use mathlib.Core.List.{List, ◌++◌}
use Prim.Native.Nat.{ℕ, ◌+◌, ◌≤◌}
use native.Mathlib.Omega.{arith}
use borrow.Author.Tests.{eqb-true}
use lib.ListN.{length, take, drop, get_or, length-drop, take-append-drop}
use lib.Dec.{eqb}
use Rattle.lists.specs.Buffer.{Bytes}
use Rattle.lists.proofs.Bool.{&&-left, &&-right}
use Rattle.lists.proofs.Word.{word-high-low, high_word, low_word}
use Rattle.lists.proofs.Elements.{take-elements}
use Rattle.format.specs.declared.header.Header.{Header}
use Rattle.format.specs.Layout.{header, written, header_of, string_of, fixed_right}

pub header_of-written : (h : Header) (string : List ℕ) → header_of (written h string) ≡ h
unfolding header_of written
header_of-written h string = rw (word-high-low h.arg1, word-high-low h.arg2)

pub string_of-written : (h : Header) (string : List ℕ) → string_of (written h string) ≡ string
unfolding string_of written
string_of-written h string = refl

pub fixed_right-written : (h : Header) (string : List ℕ) → fixed_right (written h string) ≡ true
unfolding fixed_right written
fixed_right-written h string = refl

pub length-written : (h : Header) (string : List ℕ) → length (written h string) ≡ 10 + length string
unfolding written
length-written h string = omega arith

-- TYPE, LINK and STYPE
pub record Fixed (m : List ℕ) : Type 0 where
  pub type : get_or m 0 0 ≡ 0
  pub link : get_or m 2 0 ≡ 255
  pub stype : get_or m 3 0 ≡ 0

pub fixed_right-fixed : (m : List ℕ) → fixed_right m ≡ true → Fixed m
unfolding fixed_right
fixed_right-fixed m e =
    let t = eqb (get_or m 0 0) 0 in
    let l = eqb (get_or m 2 0) 255 in
    let s = eqb (get_or m 3 0) 0 in
    let both = &&-left (t && l) s e in
    record {
      type = eqb-true _ _ (&&-left t l both);
      link = eqb-true _ _ (&&-right t l both);
      stype = eqb-true _ _ (&&-right (t && l) s e);
    }

-- ten bytes with the right TYPE, LINK and STYPE are the header of their fields
header-header_of : (m : List ℕ) → Bytes m → 10 ≤ length m → Fixed m → header (header_of m) ≡ take 10 m
unfolding header_of
header-header_of m bytes long f =
    let arg1 = get_or m 6 0 in
    let arg2 = get_or m 8 0 in
    rw (
      take-elements 10 m long,
      f.type,
      f.link,
      f.stype,
      high_word arg1 (get_or m 7 0) (bytes 7),
      low_word arg1 (get_or m 7 0) (bytes 7),
      high_word arg2 (get_or m 9 0) (bytes 9),
      low_word arg2 (get_or m 9 0) (bytes 9),
    )

-- and such a message is the written form of its fields and its string
pub written-header_of : (m : List ℕ) → Bytes m → 10 ≤ length m → fixed_right m ≡ true → written (header_of m) (string_of m) ≡ m
unfolding string_of written
written-header_of m bytes long e =
    ap (λ (front : List ℕ). front ++ drop 10 m) (header-header_of m bytes long (fixed_right-fixed m e)) ∙ take-append-drop 10 m

pub length-string_of : (m : List ℕ) → 10 ≤ length m → 10 + length (string_of m) ≡ length m
unfolding string_of
length-string_of m long = simp length-drop (omega arith)

made : ℕ → ℕ → ℕ → ℕ → ℕ → Header
made host cmd pid arg1 arg2 = record { host = host; cmd = cmd; pid = pid; arg1 = arg1; arg2 = arg2 }

-- headers with the same fields are the same
pub same-fields : {h g : Header} → h.host ≡ g.host → h.cmd ≡ g.cmd → h.pid ≡ g.pid → h.arg1 ≡ g.arg1 → h.arg2 ≡ g.arg2 → h ≡ g
unfolding made
same-fields {h} {g} host cmd pid arg1 arg2 =
    let same : made h.host h.cmd h.pid h.arg1 h.arg2 ≡ made g.host g.cmd g.pid g.arg1 g.arg2 = cc in
    same
