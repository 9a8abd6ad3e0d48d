-- The gateway's answers are granted: one law on a form that is known, and one test over the table of op codes, which says that a
-- reply allows in every field what its request allows there. Assumes nothing.
use mathlib.Core.Path.{◌≡◌, refl, sym, ap, ◌∙◌}
use mathlib.Core.Bool.{Bool, true, false, not, cond, ◌&&◌, ◌||◌, false≢true}
use mathlib.Core.List.{List, []}
use Prim.Native.Nat.{ℕ, zero, suc, ◌+◌, ◌-◌, ◌*◌, ◌<◌, ◌≤◌}
use native.Mathlib.Omega.{arith}
use borrow.Author.Tests.{ltb-true, lt-ltb, le-ltb, eq-eqb, ne_eqb, eqb-true, eqb-false, not-false}
use lib.ListN.{length}
use lib.Dec.{ltb, eqb}
use Rattle.lists.specs.Every.{every}
use Rattle.lists.specs.Word.{low_first}
use Rattle.lists.proofs.Bool.{&&-left, &&-right, &&-both, ||-left, ||-right}
use Rattle.lists.proofs.Every.{every-getD}
use Rattle.lists.proofs.Word.{length-low_first}
use Rattle.format.specs.declared.header.Header.{Header}
use Rattle.ops.specs.declared.table.ArgUse.{ArgUse}
use Rattle.ops.specs.declared.table.ArgUse.TheVariants.{Unused, Any, Size}
use Rattle.ops.specs.declared.table.Carried.TheVariants.{Nothing, Counted, Vector}
use Rattle.ops.specs.declared.table.Form.{Form}
use Rattle.std.proofs.Common.{Some, None, Ok}
use Rattle.ops.specs.declared.table.Op.{Op}
use Rattle.format.specs.Outcome.{first_failing}
use Rattle.ops.specs.Table.{bare, stopped, reason as reasoned, row, ops, op, asks, replies, row_of, form_of, without_string, request_form, reply_form, cant_form, notice_form, answer_form}
use Rattle.format.specs.Layout.{header_of, fixed_right}
use Rattle.format.specs.Refusal.{used_or_zero, arg_fits, fields_right, carried_length, wrong_length, wrong_header, unknown, misfits}
use Rattle.message.specs.Exchange.{write_number, answered, read_number, writes, sends, reads}
use Rattle.format.specs.Answer.{cmd_over, cant_of, created_of, notice_of}
use Rattle.message.specs.Granted.{Answers, AnswersGranted}
use Rattle.format.proofs.OutcomeLaws.{message-zero, message-header}
use Rattle.format.proofs.TestLaws.{Passed, zero-passed}

-- what test 6 asks of a message of a known form
pub record Fits (f : Form) (h : Header) (carried : ℕ) : Type 0 where
  pub hosted : h.host ≡ 0 → ⊥
  pub fields : fields_right f h ≡ true
  pub size : carried ≡ carried_length f.carried h.arg2
  pub short : carried ≤ 256

-- a message that fits a known form passes every test of its writer
pub fits-number : (f : Form) (h : Header) (carried : ℕ) (buffer : List ℕ) → 266 ≤ length buffer → Fits f h carried → write_number (Some f) h carried buffer ≡ 0
unfolding write_number first_failing wrong_length wrong_header misfits
fits-number f h carried buffer room p =
    let enough : 10 ≤ 10 + carried = omega arith in
    let most : 10 + carried ≤ 266 = omega (arith, p.short) in
    rw (le-ltb (length buffer) 266 room, le-ltb _ _ enough, le-ltb _ _ most, ne_eqb h.host 0 p.hosted, p.fields, ← p.size, eq-eqb (10 + carried) (10 + carried) refl)

-- a writer whose tests all pass sends its message
pub writes-sends : (h : Header) (string buffer : List ℕ) → write_number (answer_form h.cmd) h (length string) buffer ≡ 0 → writes answer_form h string buffer ≡ sends h string buffer
unfolding writes answered sends
writes-sends h string buffer e = rw e

-- what a reader of requests found: a host, a CMD of the table, and fields that are right for its form
pub record Asked (h : Header) : Type 0 where
  pub hosted : h.host ≡ 0 → ⊥
  pub known : h.cmd < length ops
  pub fields : fields_right (asks (op h.cmd)) h ≡ true

known-form : (cmd : ℕ) → unknown (request_form cmd) ≡ false → cmd < length ops
unfolding request_form row_of
known-form cmd e = go (ltb cmd (length ops)) refl e
  where
    go : (t : Bool) → ltb cmd (length ops) ≡ t → unknown (form_of asks (cond t (Some (op cmd)) None)) ≡ false → cmd < length ops
    go true p q = ltb-true cmd (length ops) p
    go false p q = absurd (false≢true (sym q))

pub request_form-known : (cmd : ℕ) → cmd < length ops → request_form cmd ≡ Some (asks (op cmd))
unfolding request_form row_of
request_form-known cmd h = rw (lt-ltb cmd (length ops) h)

pub asked-passed : (fixed : Bool) (h : Header) (n : ℕ) → Passed fixed (request_form h.cmd) h n → Asked h
unfolding wrong_header misfits
asked-passed fixed h n p =
    let known = known-form h.cmd p.known in
    let formed = rw (request_form-known h.cmd known) at p.formed in
    record {
      hosted = eqb-false h.host 0 (||-right (not fixed) (eqb h.host 0) p.headed);
      known = known;
      fields = not-false (fields_right (asks (op h.cmd)) h) (||-left _ _ formed);
    }

pub asked-read : (m : List ℕ) (h : Header) → reads request_form m ≡ Ok h → Asked h
unfolding reads read_number
asked-read m h e =
    let number = read_number (request_form (header_of m).cmd) m in
    rw (message-header number (header_of m) h e) at
    (asked-passed (fixed_right m) (header_of m) (length m) (zero-passed _ _ _ _ (message-zero number (header_of m) h e)))

-- a field that f uses, g uses
implied : Bool → Bool → Bool
implied a b = not a || b

-- what one use of ARG1 allows, the other allows
allowed : ArgUse → ArgUse → Bool
allowed Unused b = true
allowed Any Unused = false
allowed Any Any = true
allowed Any Size = false
allowed Size Unused = false
allowed Size Any = true
allowed Size Size = true

-- what f allows in a field, g allows there
covers : Form → Form → Bool
covers f g = implied f.pid g.pid && allowed f.arg1 g.arg1 && implied f.arg2 g.arg2

-- every reply allows what its request allows: one test, computed over the table
replies-cover : every (λ (o : Op). covers (asks o) (replies o)) ops ≡ true
unfolding covers implied allowed
replies-cover = refl

implied-zero : (a b : Bool) (value : ℕ) → implied a b ≡ true → used_or_zero a value ≡ true → used_or_zero b value ≡ true
unfolding implied
implied-zero true true value e z = refl
implied-zero true false value e z = absurd (false≢true e)
implied-zero false true value e z = refl
implied-zero false false value e z = z

allowed-fits : (a b : ArgUse) (value : ℕ) → allowed a b ≡ true → arg_fits a value ≡ true → arg_fits b value ≡ true
unfolding allowed
allowed-fits Unused Unused value e z = z
allowed-fits Unused Any value e z = refl
allowed-fits Unused Size value e z = rw (eqb-true value 0 z)
allowed-fits Any Unused value e z = absurd (false≢true e)
allowed-fits Any Any value e z = refl
allowed-fits Any Size value e z = absurd (false≢true e)
allowed-fits Size Unused value e z = absurd (false≢true e)
allowed-fits Size Any value e z = refl
allowed-fits Size Size value e z = z

covers-fields : (f g : Form) (h : Header) → covers f g ≡ true → fields_right f h ≡ true → fields_right g h ≡ true
unfolding covers fields_right
covers-fields f g h c z =
    let p = used_or_zero f.pid h.pid in
    let a = arg_fits f.arg1 h.arg1 in
    let b = used_or_zero f.arg2 h.arg2 in
    let cp = implied f.pid g.pid in
    let ca = allowed f.arg1 g.arg1 in
    let cb = implied f.arg2 g.arg2 in
    let z2 = &&-left (p && a) b z in
    let c2 = &&-left (cp && ca) cb c in
    &&-both (used_or_zero g.pid h.pid && arg_fits g.arg1 h.arg1) (used_or_zero g.arg2 h.arg2)
    (&&-both (used_or_zero g.pid h.pid) (arg_fits g.arg1 h.arg1)
    (implied-zero f.pid g.pid h.pid (&&-left cp ca c2) (&&-left p a z2))
    (allowed-fits f.arg1 g.arg1 h.arg1 (&&-right cp ca c2) (&&-right p a z2)))
    (implied-zero f.arg2 g.arg2 h.arg2 (&&-right (cp && ca) cb c) (&&-right (p && a) b z))

-- the form of the reply to a known request
answer_form-reply : (cmd : ℕ) → cmd < length ops → answer_form cmd ≡ Some (replies (op cmd))
unfolding answer_form reply_form row_of
answer_form-reply cmd h =
    let low : cmd < 64 = omega arith in
    rw (lt-ltb cmd 64 low, lt-ltb cmd (length ops) h)

-- and of its CAN'T, unless it is NOP
answer_form-cant : (cmd : ℕ) → (cmd ≡ 0 → ⊥) → cmd < length ops → answer_form (cmd + 128) ≡ Some (without_string (asks (op cmd)))
unfolding answer_form cant_form
answer_form-cant cmd other h =
    let no-reply : 64 ≤ cmd + 128 = omega arith in
    let no-notice : 128 ≤ cmd + 128 = omega arith in
    let same : cmd + 128 - 128 ≡ cmd = omega arith in
    rw (le-ltb _ _ no-reply, le-ltb _ _ no-notice, same, ne_eqb cmd 0 other, request_form-known cmd h)

-- a header whose form uses PID may have any
named-fields : (f : Form) (h : Header) (pid : ℕ) → f.pid ≡ true → fields_right f h ≡ true → fields_right f (created_of h pid) ≡ true
unfolding fields_right created_of
named-fields f h pid named z =
    let p = used_or_zero f.pid h.pid in
    let a = arg_fits f.arg1 h.arg1 in
    let b = used_or_zero f.arg2 h.arg2 in
    rw named (&&-both a b (&&-right p a (&&-left (p && a) b z)) (&&-right (p && a) b z))

module _ (h : Header) (buffer : List ℕ) (a : Asked h) (room : 266 ≤ length buffer) where
  reply-fields : fields_right (replies (op h.cmd)) h ≡ true
  reply-fields =
      covers-fields (asks (op h.cmd)) (replies (op h.cmd)) h
      (every-getD (λ (o : Op). covers (asks o) (replies o)) ops (row bare bare) h.cmd replies-cover a.known) a.fields

  -- a reply whose string has the right length
  replied : (carried : ℕ) → carried ≡ carried_length (replies (op h.cmd)).carried h.arg2 → carried ≤ 256
      → write_number (answer_form h.cmd) h carried buffer ≡ 0
  replied carried size short =
      rw (answer_form-reply h.cmd a.known)
      (fits-number (replies (op h.cmd)) h carried buffer room
      (record { hosted = a.hosted; fields = reply-fields; size = size; short = short }))

  reply : (replies (op h.cmd)).carried ≡ Nothing → writes answer_form h [] buffer ≡ sends h [] buffer
  unfolding carried_length
  reply e = writes-sends h [] buffer (replied 0 (rw e) (omega arith))

  contents : (string : List ℕ) → (replies (op h.cmd)).carried ≡ Counted → length string ≡ h.arg2 → h.arg2 ≤ 256 → writes answer_form h string buffer ≡ sends h string buffer
  unfolding carried_length
  contents string e size short = writes-sends h string buffer (rw size (replied h.arg2 (rw e) short))

  created : (pid : ℕ) → (replies (op h.cmd)).pid ≡ true → (replies (op h.cmd)).carried ≡ Nothing
      → writes answer_form (created_of h pid) [] buffer ≡ sends (created_of h pid) [] buffer
  unfolding carried_length created_of
  created pid named e =
      let r = replies (op h.cmd) in
      let p : Fits r (created_of h pid) 0 =
      record { hosted = a.hosted; fields = named-fields r h pid named reply-fields; size = rw e; short = omega arith } in
      writes-sends (created_of h pid) [] buffer (rw (answer_form-reply h.cmd a.known) (fits-number r (created_of h pid) 0 buffer room p))

  cant : (h.cmd ≡ 0 → ⊥) → writes answer_form (cant_of h) [] buffer ≡ sends (cant_of h) [] buffer
  unfolding carried_length cant_of fields_right
  cant other =
      let f = without_string (asks (op h.cmd)) in
      let low : h.cmd < 128 = omega (arith, a.known) in
      let p : Fits f (cant_of h) 0 =
      record { hosted = a.hosted; fields = a.fields; size = refl; short = omega arith } in
      let known : answer_form (cant_of h).cmd ≡ Some f = rw (lt-ltb h.cmd 128 low) (answer_form-cant h.cmd other a.known) in
      writes-sends (cant_of h) [] buffer (rw known (fits-number f (cant_of h) 0 buffer room p))

  answers : Answers h buffer
  answers = record { reply = reply; created = created; contents = contents; cant = cant }

module _ (host pid reason : ℕ) (buffer : List ℕ) (hosted : host ≡ 0 → ⊥) (room : 266 ≤ length buffer) where
  -- a notice whose form is that of its kind
  noticed : (kind : ℕ) (f : Form) → answer_form (cmd_over 64 4 kind) ≡ Some f → fields_right f (notice_of host kind pid reason) ≡ true → f.carried ≡ Vector
      → write_number (answer_form (cmd_over 64 4 kind)) (notice_of host kind pid reason) 18 buffer ≡ 0
  unfolding notice_of carried_length
  noticed kind f known fields carried =
      let p : Fits f (notice_of host kind pid reason) 18 =
      record { hosted = hosted; fields = fields; size = rw carried; short = omega arith } in
      rw known (fits-number f (notice_of host kind pid reason) 18 buffer room p)

  -- TRAP may carry a reason, the other kinds none
  by_kind : (kind : ℕ) → kind < 4 → ((kind ≡ 0 → ⊥) → reason ≡ 0)
      → write_number (answer_form (cmd_over 64 4 kind)) (notice_of host kind pid reason) 18 buffer ≡ 0
  unfolding answer_form notice_form fields_right notice_of
  by_kind zero l silent = noticed 0 reasoned refl refl refl
  by_kind (suc zero) l silent = noticed 1 stopped refl (rw (silent (omega arith))) refl
  by_kind (suc (suc zero)) l silent = noticed 2 stopped refl (rw (silent (omega arith))) refl
  by_kind (suc (suc (suc zero))) l silent = noticed 3 stopped refl (rw (silent (omega arith))) refl
  by_kind (suc (suc (suc (suc k)))) l silent = absurd (omega arith)

notice : (host kind pid reason : ℕ) (vector buffer : List ℕ) → (host ≡ 0 → ⊥) → kind < 4 → ((kind ≡ 0 → ⊥) → reason ≡ 0)
    → length vector ≡ 9 → 266 ≤ length buffer → writes answer_form (notice_of host kind pid reason) (low_first vector) buffer ≡ sends (notice_of host kind pid reason) (low_first vector) buffer
unfolding notice_of
notice host kind pid reason vector buffer hosted low silent nine room =
    let size : length (low_first vector) ≡ 18 = length-low_first vector ∙ ap (λ (n : ℕ). 2 * n) nine in
    writes-sends (notice_of host kind pid reason) (low_first vector) buffer (rw size (by_kind host pid reason buffer hosted room kind low silent))

pub answers-granted : AnswersGranted
answers-granted =
    record {
      answers = λ m h buffer e room. answers h buffer (asked-read m h e) room;
      notice = notice;
    }
