-- What the gateway finds in any bytes.
use Rattle.std.specs.Prelude.{Result, Ok, Err, ◌≡◌, cond, List, ℕ, eqb}
use Rattle.format.specs.declared.header.Header.{Header}
use Rattle.format.specs.Layout.{header_of}
use Rattle.format.specs.declared.outcome.Refusal.{Refusal}
use Rattle.format.specs.Outcome.{no_fields, refusal_by, unless}
use Rattle.ops.specs.declared.table.Form.{Form}
use Rattle.ops.specs.Table.{op, asks, bare, request_form}
use Rattle.message.specs.Exchange.{read_number}

-- what the gateway finds in any bytes: the fields of a request and the form of its op code, or a refusal
abbrev pub Incoming : Type 0
Incoming = Result (Header × Form) Refusal

-- the case that a number, a request's fields and a form stand for: fields and form where no test fails, else the number
abbrev pub incoming : ℕ → Header → Form → Incoming
incoming n header form = unless n (header, form)

-- the number of each case; 0 is a request
unfoldable pub incoming_number : Incoming → ℕ
incoming_number (Ok request) = 0
incoming_number (Err refusal) = refusal.0

-- the fields of each case; what is refused has none
unfoldable pub incoming_fields : Incoming → Header
incoming_fields (Ok request) = request.0
incoming_fields (Err refusal) = no_fields

-- the form of each case; what is refused has none
unfoldable pub incoming_form : Incoming → Form
incoming_form (Ok request) = request.1
incoming_form (Err refusal) = bare

-- number, fields and form are those that a case was made of, and make it again; no request is refused with 0
pub record IncomingFits : Type 0 where
  pub number : (n : ℕ) (h : Header) (f : Form) → incoming_number (incoming n h f) ≡ n
  pub fields : (n : ℕ) (h : Header) (f : Form) → incoming_fields (incoming n h f) ≡ cond (eqb n 0) h no_fields
  pub form : (n : ℕ) (h : Header) (f : Form) → incoming_form (incoming n h f) ≡ cond (eqb n 0) f bare
  pub again : (i : Incoming) → (i ≡ Err (refusal_by 0) → ⊥) → incoming (incoming_number i) (incoming_fields i) (incoming_form i) ≡ i

-- any bytes: by the tests 3 to 6, a request with the form of its op code
unfoldable pub received : List ℕ → Incoming
received m = incoming (read_number (request_form (header_of m).cmd) m) (header_of m) (asks (op (header_of m).cmd))
