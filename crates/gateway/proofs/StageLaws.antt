-- A request stage by stage: refused by what is lent, by its layout, or asked of the state. Assumes nothing.
use Rattle.std.proofs.Common.{Ok, Err}
use mathlib.Core.Path.{◌≡◌, refl, sym, ◌∙◌, subst}
use mathlib.Core.Bool.{Bool, true, false, cond}
use mathlib.Core.List.{List}
use Prim.Native.Nat.{ℕ, zero, suc}
use native.Mathlib.Omega.{arith}
use borrow.Author.Tests.{ne_eqb}
use lib.ListN.{length}
use lib.Dec.{ltb}
use Rattle.format.specs.declared.header.Header.{Header}
use Rattle.format.specs.Outcome.{Reading, refusal_by, first_failing, reading}
use Rattle.ops.specs.Table.{request_form}
use Rattle.format.specs.Layout.{header_of, string_of, fixed_right}
use Rattle.format.specs.Refusal.{wrong_length, wrong_header, unknown, malformed}
use Rattle.message.specs.Exchange.{read_number, reads}
use Rattle.format.proofs.OutcomeLaws.{outcome-other, message-header}
use Rattle.rules.specs.Tests.{State, no_room, unsound, asked_tests, request_number}
use Rattle.rules.specs.Window.{Buffers}
use Rattle.rules.specs.Step.{StepResult, refused, request_step}
use Rattle.rules.specs.Turn.{single}
use Rattle.rules.proofs.NumberLaws.{or_else}
use Rattle.gateway.specs.Stage.{lent_number, asked}

-- refused with this number, and nothing is written
abbrev pub silent : ℕ → Buffers → State → StepResult
silent n b s = record { answer = record { outcome = Err (refusal_by n); buffer = b.own; line_length = 0; line = b.line }; after = s }

-- ---- the number

pub staged : (a b c d e f : Bool) (n : ℕ)
    → cond a 1 (cond b 2 (cond c 3 (cond d 4 (cond e 5 (cond f 6 n)))))
    ≡ or_else (cond a 1 (cond b 2 0)) (or_else (cond c 3 (cond d 4 (cond e 5 (cond f 6 0)))) n)
staged true b c d e f n = refl
staged false true c d e f n = refl
staged false false true d e f n = refl
staged false false false true e f n = refl
staged false false false false true f n = refl
staged false false false false false true n = refl
staged false false false false false false n = refl

module _ (s : State) (m buffer : List ℕ) where
  unfoldable pub layout : ℕ
  layout = read_number (request_form (header_of m).cmd) m

  number-stages : request_number s m buffer ≡ or_else (lent_number s (no_room s.memory buffer)) (or_else layout (first_failing (asked_tests (header_of m) s)))
  unfolding request_number lent_number layout read_number first_failing
  number-stages =
      staged (no_room s.memory buffer) (unsound s) (wrong_length (length m)) (wrong_header (fixed_right m) (header_of m).host)
      (unknown (request_form (header_of m).cmd)) (malformed (request_form (header_of m).cmd) (header_of m) (length m)) (first_failing (asked_tests (header_of m) s))

  -- ---- a request that is refused with nothing written

  low-lent : (a b : Bool) → ltb (cond a 1 (cond b 2 0)) 7 ≡ true
  low-lent true b = refl
  low-lent false true = refl
  low-lent false false = refl

  low-layout : (c d e f : Bool) → ltb (cond c 3 (cond d 4 (cond e 5 (cond f 6 0)))) 7 ≡ true
  low-layout true d e f = refl
  low-layout false true e f = refl
  low-layout false false true f = refl
  low-layout false false false true = refl
  low-layout false false false false = refl

  refused-by : (n : ℕ) → request_number s m buffer ≡ n → (n ≡ 0 → ⊥) → ltb n 7 ≡ true → request_step m buffer s ≡ silent n (single buffer) s
  unfolding request_step refused
  refused-by n e z low = rw (e, ne_eqb n 0 z, low, outcome-other n 0 z)

  pub request-lent : (n : ℕ) → n ≡ lent_number s (no_room s.memory buffer) → (n ≡ 0 → ⊥) → request_step m buffer s ≡ silent n (single buffer) s
  unfolding lent_number first_failing
  request-lent n e z =
      refused-by n (number-stages ∙ rw (← e, ne_eqb n 0 z)) z (rw e (low-lent (no_room s.memory buffer) (unsound s)))

  -- what a reading says of its number
  unfoldable pub Read : Reading → Type 0
  Read (Ok h) = layout ≡ 0
  Read (Err r) = (r.0 ≡ layout) × (r.0 ≡ 0 → ⊥)

  reading-says : (k : ℕ) → k ≡ layout → Read (reading k (header_of m))
  unfolding Read
  reading-says zero e = sym e
  reading-says (suc k) e = (e, λ z. omega (arith, z))

  pub read-says : (r : Reading) → r ≡ reads request_form m → Read r
  unfolding reads layout
  read-says r e = subst Read (sym e) (reading-says (read_number (request_form (header_of m).cmd) m) refl)

  pub request-read : (n : ℕ) → lent_number s (no_room s.memory buffer) ≡ 0 → Err (refusal_by n) ≡ reads request_form m → request_step m buffer s ≡ silent n (single buffer) s
  unfolding Read layout read_number first_failing
  request-read n z e =
      let r = read-says (Err (refusal_by n)) e in
      refused-by n (number-stages ∙ rw (z, ← r.0, ne_eqb n 0 r.1)) r.1
      (rw r.0 (low-layout (wrong_length (length m)) (wrong_header (fixed_right m) (header_of m).host)
      (unknown (request_form (header_of m).cmd)) (malformed (request_form (header_of m).cmd) (header_of m) (length m))))

  -- ---- a request that was read

  pub request-asked : (h : Header) → lent_number s (no_room s.memory buffer) ≡ 0 → Ok h ≡ reads request_form m → request_step m buffer s ≡ asked h (string_of m) buffer s
  unfolding request_step asked Read layout reads
  request-asked h z e =
      let r = read-says (Ok h) e in
      let number : request_number s m buffer ≡ first_failing (asked_tests (header_of m) s) = number-stages ∙ rw (z, r) in
      rw (number, message-header (read_number (request_form (header_of m).cmd) m) (header_of m) h (sym e))
