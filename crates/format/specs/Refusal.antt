-- The tests of a message's layout, 3 to 6, which every reader and writer uses.
use Rattle.std.specs.Prelude.{Option, Some, None, Bool, true, false, not, ◌&&◌, ◌||◌, List, [], ◌∷◌, ℕ, ◌+◌, ◌%◌, ltb, leb, eqb}
use Rattle.format.specs.declared.header.Header.{Header}
use Rattle.ops.specs.declared.table.ArgUse.{ArgUse}
use Rattle.ops.specs.declared.table.ArgUse.TheVariants.{Unused, Any, Size}
use Rattle.ops.specs.declared.table.Carried.{Carried}
use Rattle.ops.specs.declared.table.Carried.TheVariants.{Nothing, Counted, Vector}
use Rattle.ops.specs.declared.table.Form.{Form}
use Rattle.format.specs.Outcome.{Test, test}
use Rattle.format.specs.Sizes.{header_bytes, message_bytes, largest_size}

-- 'Unused fields are zero.': this field is used, or it is zero
abbrev pub used_or_zero : Bool → ℕ → Bool
used_or_zero used value = used || eqb value 0

-- 'an even size .., up to 4,096, 0 meaning 4,096'
abbrev pub size_fits : ℕ → Bool
size_fits n = eqb (n % 2) 0 && leb n largest_size

-- ARG1 holds what its use allows
abbrev pub arg_fits : ArgUse → ℕ → Bool
arg_fits Unused value = eqb value 0
arg_fits Any value = true
arg_fits Size value = size_fits value

-- every unused field of a header is zero, and a size fits
unfoldable pub fields_right : Form → Header → Bool
fields_right f h = used_or_zero f.pid h.pid && arg_fits f.arg1 h.arg1 && used_or_zero f.arg2 h.arg2

-- how many bytes a message with this ARG2 carries: none, 'exactly ARG2', 'the 18 bytes'
unfoldable pub carried_length : Carried → ℕ → ℕ
carried_length Nothing arg2 = 0
carried_length Counted arg2 = arg2
carried_length Vector arg2 = 18

-- test 3: 'message under 10 or over 266 bytes'
unfoldable pub wrong_length : ℕ → Bool
wrong_length length = ltb length header_bytes || ltb message_bytes length

-- test 4: 'TYPE, LINK or STYPE wrong, or HOST 0'
unfoldable pub wrong_header : Bool → ℕ → Bool
wrong_header fixed host = not fixed || eqb host 0

-- test 5: 'CMD not a known op code'
abbrev pub unknown : Option Form → Bool
unknown (Some f) = false
unknown None = true

-- a message with these fields and this length does not have the form
unfoldable pub misfits : Form → Header → ℕ → Bool
misfits f h length = not (fields_right f h) || not (eqb length (header_bytes + carried_length f.carried h.arg2))

-- test 6: 'unused field not zero, or string of wrong length', 'an odd or greater size'
abbrev pub malformed : Option Form → Header → ℕ → Bool
malformed (Some f) h length = misfits f h length
malformed None h length = false

-- tests 3 to 6 of a message with these fields and this length; fixed says that TYPE, LINK and STYPE are right
abbrev pub layout_tests : Bool → Option Form → Header → ℕ → List Test
layout_tests fixed found h length =
    test 3 (wrong_length length)
    ∷ test 4 (wrong_header fixed h.host)
    ∷ test 5 (unknown found)
    ∷ test 6 (malformed found h length)
    ∷ []
