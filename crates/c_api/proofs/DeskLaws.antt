-- The desk's end: fields that have room for their numbers, and what is read. Assumes nothing.
use Rattle.std.proofs.Common.{None, Ok, Err}
use mathlib.Core.Path.{◌≡◌, refl}
use mathlib.Core.Bool.{Bool, true, false, not, cond, ◌&&◌, ◌||◌, true≢false}
use mathlib.Core.List.{List, [], ◌∷◌}
use Prim.Native.Nat.{ℕ, zero, suc, ◌+◌, ◌≤◌}
use native.Mathlib.Omega.{arith}
use borrow.Author.Tests.{ltb-true, ltb-false, lt-ltb, le-ltb, ne_eqb}
use lib.ListN.{length, set}
use lib.Dec.{eqb, ltb}
use Rattle.lists.proofs.Bool.{&&-left, &&-right}
use Rattle.ops.specs.Table.{ops, row_of, request_form, answer_form}
use Rattle.format.specs.declared.header.Header.{Header}
use Rattle.format.specs.Outcome.{refusal_by, outcome, length_of, first_failing}
use Rattle.format.specs.Layout.{header_of, fixed_right}
use Rattle.format.specs.Refusal.{wrong_header, wrong_length, unknown}
use Rattle.format.proofs.OutcomeLaws.{outcome-other, message-zero}
use Rattle.format.proofs.TestLaws.{zero-passed, sized-between}
use Rattle.message.specs.Exchange.{wrote, answered, writes, reads, read_number}
use Rattle.message.specs.Exchange.{write_number as message_number}
use Rattle.message.proofs.ExchangeLaws.{write_number-room}
use Rattle.c_api.specs.Called.{byte_of, Short}
use Rattle.c_api.specs.InRange.{Fits}
use Rattle.c_api.proofs.NarrowLaws.{same_byte, over-byte}
use Rattle.c_api.specs.Desk.{arguments_fit, fields_fit, write_number, misfit_number, write_on}

-- a CMD over 255 is unknown, and so is 255
over-form : (cmd : ℕ) → 255 ≤ cmd → request_form cmd ≡ None
unfolding request_form row_of
over-form cmd h = let over : length ops ≤ cmd = omega arith in rw (le-ltb cmd (length ops) over)

pub form-byte : (cmd : ℕ) → request_form (byte_of cmd) ≡ request_form cmd
form-byte cmd = go (ltb cmd 256) refl
  where
    go : (t : Bool) → ltb cmd 256 ≡ t → request_form (byte_of cmd) ≡ request_form cmd
    go true e = rw (same_byte cmd (ltb-true cmd 256 e))
    go false e = rw (over-byte cmd (ltb-false cmd 256 e), over-form cmd (omega (arith, ltb-false cmd 256 e)), over-form 255 (omega arith))

or-false : (b : Bool) → b || false ≡ b
or-false true = refl
or-false false = refl

pub or-true : (b : Bool) → b || true ≡ true
or-true true = refl
or-true false = refl

module _ (h : Header) where
  arguments-fit : fields_fit h ≡ true → arguments_fit h ≡ true
  unfolding fields_fit
  arguments-fit e = &&-right (ltb h.host 256 && ltb h.cmd 256) (arguments_fit h) e

  pub fits : fields_fit h ≡ true → Fits h
  unfolding fields_fit arguments_fit
  fits e =
      let host = ltb h.host 256 in
      let cmd = ltb h.cmd 256 in
      let pid = ltb h.pid 256 in
      let arg1 = ltb h.arg1 65536 in
      let arg2 = ltb h.arg2 65536 in
      let l = &&-left (host && cmd) (pid && arg1 && arg2) e in
      let r = &&-right (host && cmd) (pid && arg1 && arg2) e in
      let b = &&-left (pid && arg1) arg2 r in
      record {
        host = ltb-true h.host 256 (&&-left host cmd l);
        cmd = ltb-true h.cmd 256 (&&-right host cmd l);
        pid = ltb-true h.pid 256 (&&-left pid arg1 b);
        arg1 = ltb-true h.arg1 65536 (&&-right pid arg1 b);
        arg2 = ltb-true h.arg2 65536 (&&-right (pid && arg1) arg2 r);
      }

  pub all_fit : Fits h → fields_fit h ≡ true
  unfolding fields_fit arguments_fit
  all_fit f = rw (lt-ltb _ 256 f.host, lt-ltb _ 256 f.cmd, lt-ltb _ 256 f.pid, lt-ltb _ 65536 f.arg1, lt-ltb _ 65536 f.arg2)

  module _ (carried : ℕ) (buffer : List ℕ) where
    fit-number : fields_fit h ≡ true → write_number h carried buffer ≡ message_number (request_form h.cmd) h carried buffer
    unfolding write_number message_number first_failing wrong_header
    fit-number e = rw (arguments-fit e, lt-ltb _ 256 (fits e).host, or-false (eqb h.host 0))

    -- where a field has no room, and HOST and CMD have and pass their tests, it is one of the others
    pub misfit-number : fields_fit h ≡ false → write_number h carried buffer ≡ misfit_number h.host h.cmd carried buffer
    unfolding fields_fit write_number misfit_number first_failing
    misfit-number e = go (ltb h.host 256) (ltb h.cmd 256) (arguments_fit h) refl refl refl e
      where
        go : (a b c : Bool) → ltb h.host 256 ≡ a → ltb h.cmd 256 ≡ b → arguments_fit h ≡ c → a && b && c ≡ false
            → write_number h carried buffer ≡ misfit_number h.host h.cmd carried buffer
        go false b c p q r f = rw (p, or-true (eqb h.host 0))
        go true false c p q r f = let u = over-form h.cmd (omega (arith, ltb-false h.cmd 256 q)) in rw u
        go true true false p q r f = rw r
        go true true true p q r f = absurd (true≢false f)

    misfit-other : (host cmd : ℕ) → misfit_number host cmd carried buffer ≡ 0 → ⊥
    unfolding misfit_number first_failing
    misfit-other host cmd = go (ltb (length buffer) 266) (wrong_length (10 + carried)) (eqb host 0 || not (ltb host 256)) (unknown (request_form cmd))
      where
        go : (a b c d : Bool) → ◌≡◌ {A = ℕ} (cond a 1 (cond b 3 (cond c 4 (cond d 5 6)))) 0 → ⊥
        go true b c d e = omega arith
        go false true c d e = omega arith
        go false false true d e = omega arith
        go false false false true e = omega arith
        go false false false false e = omega arith

  module _ (string buffer : List ℕ) where
    -- fields that have room are written as the desk's writer writes them
    pub fit-writes : fields_fit h ≡ true → write_on h string buffer ≡ writes request_form h string buffer
    unfolding write_on writes
    fit-writes e = rw (fit-number (length string) buffer e)

    -- and others are refused
    pub misfit-writes : fields_fit h ≡ false → write_on h string buffer ≡ wrote (Err (refusal_by (misfit_number h.host h.cmd (length string) buffer))) buffer
    unfolding write_on answered
    misfit-writes e =
        let other = misfit-other (length string) buffer h.host h.cmd in
        rw (misfit-number (length string) buffer e, ne_eqb _ 0 other, ← outcome-other _ (10 + length string) other)

    -- a written length is short
    pub writes_short : Short (writes request_form h string buffer).outcome
    unfolding writes answered length_of
    writes_short = go (message_number (request_form h.cmd) h (length string) buffer) refl
      where
        go : (n : ℕ) → message_number (request_form h.cmd) h (length string) buffer ≡ n → Short (outcome n (10 + length string))
        go zero e = omega (arith, (write_number-room (request_form h.cmd) h (length string) buffer e).string-short)
        go (suc n) e = omega arith

-- an answer that is read has between 10 and 266 bytes
pub read_length : (m : List ℕ) (h : Header) → reads answer_form m ≡ Ok h → (10 ≤ length m) × (length m ≤ 266)
unfolding reads read_number
read_length m h e = sized-between (length m) (zero-passed (fixed_right m) (answer_form (header_of m).cmd) (header_of m) (length m) (message-zero _ (header_of m) h e)).sized

-- five words, each put in its place
pub five-put : (l : List ℕ) (a b c d e : ℕ) → length l ≡ 5 → set (set (set (set (set l 0 a) 1 b) 2 c) 3 d) 4 e ≡ a ∷ b ∷ c ∷ d ∷ e ∷ []
five-put (v ∷ w ∷ x ∷ y ∷ z ∷ []) a b c d e n = refl
five-put [] a b c d e n = absurd (omega arith)
five-put (v ∷ []) a b c d e n = absurd (omega arith)
five-put (v ∷ w ∷ []) a b c d e n = absurd (omega arith)
five-put (v ∷ w ∷ x ∷ []) a b c d e n = absurd (omega arith)
five-put (v ∷ w ∷ x ∷ y ∷ []) a b c d e n = absurd (omega arith)
five-put (v ∷ w ∷ x ∷ y ∷ z ∷ u ∷ l) a b c d e n = absurd (omega arith)
