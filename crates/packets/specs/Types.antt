-- The types of packets. 'A packet is a type (octal 200 to 203), a 32-bit ID and data words'.
use Rattle.std.specs.Prelude.{Bool, cond, ◌||◌, List, ℕ, length, eqb, ltb}

-- octal 200
abbrev pub STORE : ℕ
STORE = 128

-- octal 201
abbrev pub FETCH : ℕ
FETCH = 129

-- octal 202
abbrev pub GO : ℕ
GO = 130

-- octal 203
abbrev pub GO-REPLY : ℕ
GO-REPLY = 131

-- octal 204: 'Acknowledgement (server to user)'
abbrev pub ACK : ℕ
ACK = 132

-- 'Store, Fetch, Go and GoReply': the four that are sent to the door
unfoldable pub known_type : ℕ → Bool
known_type t = eqb t STORE || (eqb t FETCH || (eqb t GO || eqb t GO-REPLY))

-- 'the length of the data portion of a Fetch or Store packet can be as little as 2 (fetch) or 4 (store) bytes'; of the other types, none is needed
unfoldable pub fewest_words : ℕ → ℕ
fewest_words t = cond (eqb t STORE) 2 (cond (eqb t FETCH) 1 0)

-- 'too few data words'
unfoldable pub too_few : ℕ → List ℕ → Bool
too_few t words = ltb (length words) (fewest_words t)
