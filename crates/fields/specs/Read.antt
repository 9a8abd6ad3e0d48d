-- Reading a line of four fields.
use Rattle.std.specs.Prelude.{Option, Some, None, Bool, true, false, cond, ◌&&◌, ◌||◌, List, [], ◌∷◌, ℕ, ◌+◌, length, drop, get_or, eqb}
use Rattle.fields.specs.declared.write.Fields.{Fields}
use Rattle.fields.specs.declared.number.Number.{Number}
use Rattle.fields.specs.declared.read.Head.{Head}
use Rattle.fields.specs.declared.read.Line.{Line}
use Rattle.fields.specs.Letters.{known}
use Rattle.fields.specs.Hex.{number_at, number_after}

-- ---- the process and the request

-- a field may end here: nothing follows, or a blank, or a newline
unfoldable pub separates : List ℕ → Bool
separates [] = true
separates (c ∷ cs) = eqb c 32 || eqb c 10

-- a number was read: a blank, one of the eight letters and the end of the field follow it
unfoldable pub head_after : List ℕ → Number → Option Head
head_after text n =
    cond (eqb (get_or text n.next 0) 32 && (known (get_or text (n.next + 1) 0) && separates (drop (n.next + 2) text)))
    (Some (record { pid = n.value; letter = get_or text (n.next + 1) 0; next = n.next + 2 })) None

-- perhaps a number was read
abbrev pub head_from : List ℕ → Option Number → Option Head
head_from text None = None
head_from text (Some n) = head_after text n

-- they stand at the start
unfoldable pub head_of : List ℕ → Option Head
head_of text = head_from text (number_at text 0)

-- ---- the line

-- nothing can be read
abbrev pub unread : Line
unread = record { headed = false; whole = false; pid = 0; letter = 0; third = 0; fourth = 0 }

-- the process and the request, and not the rest
abbrev pub head_only : ℕ → ℕ → Line
head_only pid letter = record { headed = true; whole = false; pid = pid; letter = letter; third = 0; fourth = 0 }

-- the line of four fields
abbrev pub whole_line : Fields → Line
whole_line f = record { headed = true; whole = true; pid = f.pid; letter = f.letter; third = f.third; fourth = f.fourth }

-- 'a line ends with one newline': it stands at this index, and nothing after it
unfoldable pub ends_at : List ℕ → ℕ → Bool
ends_at text at = eqb (get_or text at 0) 10 && eqb (length text) (at + 1)

-- the first three fields were read, and perhaps the fourth: it has to be there, and the line has to end
abbrev pub fields_with : List ℕ → Head → Number → Option Number → Option Fields
fields_with text h n None = None
fields_with text h n (Some m) =
    cond (ends_at text m.next) (Some (record { pid = h.pid; letter = h.letter; third = n.value; fourth = m.value })) None

-- the process and the request were read, and perhaps a third field
abbrev pub fields_from : List ℕ → Head → Option Number → Option Fields
fields_from text h None = None
fields_from text h (Some n) = fields_with text h n (number_after text n.next)

-- all four fields, after the process and the request
abbrev pub fields_after : List ℕ → Head → Option Fields
fields_after text h = fields_from text h (number_after text h.next)

-- the process and the request were read, and perhaps all four fields
unfoldable pub line_after : Head → Option Fields → Line
line_after h None = head_only h.pid h.letter
line_after h (Some f) = whole_line f

-- perhaps the process and the request were read
unfoldable pub line_from : List ℕ → Option Head → Line
line_from text None = unread
line_from text (Some h) = line_after h (fields_after text h)

-- a text as a line
unfoldable pub line_of : List ℕ → Line
line_of text = line_from text (head_of text)

-- the four fields that were read
abbrev pub fields_of : Line → Fields
fields_of l = record { pid = l.pid; letter = l.letter; third = l.third; fourth = l.fourth }
