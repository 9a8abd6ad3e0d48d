-- The bytes of a message.
use Rattle.std.specs.Prelude.{Bool, ◌&&◌, List, [], ◌∷◌, ◌++◌, ℕ, drop, get_or, eqb}
use Rattle.lists.specs.Word.{high, low, word}
use Rattle.format.specs.declared.header.Header.{Header}
use Rattle.format.specs.Sizes.{header_bytes}

-- 'One byte each: TYPE 0, HOST, LINK 255, STYPE 0, CMD, PID; then ARG1 and ARG2, two bytes each, high byte first'
abbrev pub header : Header → List ℕ
header h =
    0
    ∷ h.host
    ∷ 255
    ∷ 0
    ∷ h.cmd
    ∷ h.pid
    ∷ high h.arg1
    ∷ low h.arg1
    ∷ high h.arg2
    ∷ low h.arg2
    ∷ []

-- 'then a string of 0 to 256 bytes': the written form of a message
unfoldable pub written : Header → List ℕ → List ℕ
written h string = header h ++ string

-- the fields in a message's first ten bytes
unfoldable pub header_of : List ℕ → Header
header_of m =
    record {
      host = get_or m 1 0;
      cmd = get_or m 4 0;
      pid = get_or m 5 0;
      arg1 = word (get_or m 6 0) (get_or m 7 0);
      arg2 = word (get_or m 8 0) (get_or m 9 0);
    }

-- the string of a message
unfoldable pub string_of : List ℕ → List ℕ
string_of m = drop header_bytes m

-- TYPE, LINK and STYPE are right
unfoldable pub fixed_right : List ℕ → Bool
fixed_right m = eqb (get_or m 0 0) 0 && eqb (get_or m 2 0) 255 && eqb (get_or m 3 0) 0
