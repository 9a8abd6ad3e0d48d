-- A request that the gateway reads, with the form of its op code. Assumes nothing.
use mathlib.Core.Path.{◌≡◌, refl, ap}
use mathlib.Core.Bool.{Bool, true, false, cond, true≢false}
use mathlib.Core.List.{List}
use Prim.Native.Nat.{ℕ, zero, suc, ◌<◌}
use native.Mathlib.Omega.{arith}
use borrow.Author.Tests.{lt-ltb, ne_eqb}
use lib.ListN.{length}
use lib.Dec.{ltb, eqb}
use Rattle.format.specs.declared.header.Header.{Header}
use Rattle.format.specs.Layout.{header_of, fixed_right}
use Rattle.format.specs.Outcome.{refusal_by, no_fields, first_failing}
use Rattle.format.proofs.OutcomeLaws.{unless-number}
use Rattle.format.specs.Refusal.{wrong_length}
use Rattle.format.proofs.TestLaws.{zero-passed}
use Rattle.ops.specs.declared.table.Form.{Form}
use Rattle.std.proofs.Common.{Option, Some, None, Ok, Err}
use Rattle.ops.specs.Table.{op, ops, asks, bare, row_of, form_of, request_form}
use Rattle.message.specs.Exchange.{read_number}
use Rattle.message.specs.Incoming.{Incoming, incoming, incoming_number, incoming_fields, incoming_form, IncomingFits, received}

-- the form in a row that is known
known : Option Form → Form → Form
known (Some f) g = f
known None g = g

form-asked : (cmd : ℕ) (f : Form) → Some f ≡ request_form cmd → f ≡ asks (op cmd)
unfolding request_form row_of known
form-asked cmd f e = go (ltb cmd (length ops)) e
  where
    go : (t : Bool) → Some f ≡ form_of asks (cond t (Some (op cmd)) None) → f ≡ asks (op cmd)
    go true i = ap (λ (x : Option Form). known x f) i
    go false i = absurd (true≢false (ap is_known i))
      where
        is_known : Option Form → Bool
        is_known (Some g) = true
        is_known None = false

-- ---- the cases

incoming-number : (n : ℕ) (h : Header) (f : Form) → incoming_number (incoming n h f) ≡ n
unfolding incoming_number
incoming-number zero h f = refl
incoming-number (suc n) h f = refl

incoming-fields : (n : ℕ) (h : Header) (f : Form) → incoming_fields (incoming n h f) ≡ cond (eqb n 0) h no_fields
unfolding incoming_fields
incoming-fields zero h f = refl
incoming-fields (suc n) h f = rw (ne_eqb (suc n) 0 (λ e. omega arith))

incoming-form : (n : ℕ) (h : Header) (f : Form) → incoming_form (incoming n h f) ≡ cond (eqb n 0) f bare
unfolding incoming_form
incoming-form zero h f = refl
incoming-form (suc n) h f = rw (ne_eqb (suc n) 0 (λ e. omega arith))

incoming-again : (i : Incoming) → (i ≡ Err (refusal_by 0) → ⊥) → incoming (incoming_number i) (incoming_fields i) (incoming_form i) ≡ i
unfolding incoming_number incoming_fields incoming_form
incoming-again (Ok request) other = refl
incoming-again (Err refusal) other = unless-number refusal other _

pub incoming-fits : IncomingFits
incoming-fits = record { number = incoming-number; fields = incoming-fields; form = incoming-form; again = incoming-again }

-- any number but 0 is the refusal with it
incoming-other : (n : ℕ) (h : Header) (f : Form) → (n ≡ 0 → ⊥) → Err (refusal_by n) ≡ incoming n h f
incoming-other zero h f z = absurd (z refl)
incoming-other (suc n) h f z = refl

-- ---- what is received

module _ (m : List ℕ) where
  pub incoming-short : length m < 10 → Err (refusal_by 3) ≡ received m
  unfolding received read_number first_failing wrong_length
  incoming-short h = rw (lt-ltb (length m) 10 h)

  pub incoming-refused : (n : ℕ) → n ≡ read_number (request_form (header_of m).cmd) m → (n ≡ 0 → ⊥) → Err (refusal_by n) ≡ received m
  unfolding received
  incoming-refused n e z = rw (← e) (incoming-other n (header_of m) (asks (op (header_of m).cmd)) z)

  module _ (e : read_number (request_form (header_of m).cmd) m ≡ 0) where
    pub incoming-read : (f : Form) → Some f ≡ request_form (header_of m).cmd → Ok (header_of m, f) ≡ received m
    unfolding received
    incoming-read f k = rw (form-asked (header_of m).cmd f k, e)

    pub incoming-known : None ≡ request_form (header_of m).cmd → ⊥
    unfolding read_number
    incoming-known k =
        true≢false (rw (← k) at (zero-passed (fixed_right m) (request_form (header_of m).cmd) (header_of m) (length m) e).known)
