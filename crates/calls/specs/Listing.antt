-- Reading the processes that a start lists, the size of each, and the process of the Pup door, character by character.
use Rattle.std.specs.Prelude.{Bool, true, false, cond, ◌&&◌, List, [], ◌∷◌, ℕ, ◌+◌, ◌-◌, ◌*◌, get_or, set, replicate, eqb, leb, ltb}
use Rattle.process.specs.Sizes.{memory_bytes}
use Rattle.calls.specs.declared.listing.Place.{Place}
use Rattle.calls.specs.declared.listing.Place.TheVariants.{Behind, Before, Named, Colon, Sized, P, Pu, Pup, AtDoor, Door, Wrong}
use Rattle.calls.specs.declared.listing.Listing.{Listing}

-- a digit as a character, from `0` to this last one
unfoldable pub is_digit : ℕ → ℕ → Bool
is_digit last c = leb 48 c && leb c last

-- a number goes on with this digit: it does not begin with a zero and is at most so much
unfoldable pub goes_on : ℕ → ℕ → ℕ → Bool
goes_on most n c = ltb 0 n && (is_digit 57 c && leb (10 * n + (c - 48)) most)

-- no size is greater, whether a process may have it or not
abbrev pub most_size : ℕ
most_size = 65535

-- no process of the Pup door is greater, and this one is none
abbrev pub no_door : ℕ
no_door = 255

-- where the reading stands, the process that was named last, those that were listed, their sizes, and the process of the Pup door
abbrev pub listing_of : Place → ℕ → List Bool → List ℕ → ℕ → Listing
listing_of place process there sizes door = record { place = place; process = process; there = there; sizes = sizes; door = door }

-- nothing is listed yet
abbrev pub empty : Listing
empty = listing_of Behind 0 (replicate 8 false) (replicate 8 memory_bytes) no_door

-- the same listing, the reading at another place
abbrev pub at : Place → Listing → Listing
at place r = listing_of place r.process r.there r.sizes r.door

-- a process is named: it is listed, with 4,096 bytes where no size follows
abbrev pub named : ℕ → Listing → Listing
named p r = listing_of Named p (set r.there p true) (set r.sizes p memory_bytes) r.door

-- the size of the process that was named last, as far as it was read
abbrev pub size_of : Listing → ℕ
size_of r = get_or r.sizes r.process 0

-- this is its size so far
abbrev pub sized : ℕ → Listing → Listing
sized size r = listing_of Sized r.process r.there (set r.sizes r.process size) r.door

-- this is the process of the Pup door so far
abbrev pub doored : ℕ → Listing → Listing
doored door r = listing_of Door r.process r.there r.sizes door

-- this one character may follow, and nothing else
unfoldable pub only : ℕ → Place → ℕ → Listing → Listing
only mark place c r = cond (eqb c mark) (at place r) (at Wrong r)

-- after the word, or after a process with or without a size, that is a blank
abbrev pub ends_item : ℕ → Listing → Listing
ends_item = only 32 Before

-- where a character leads: a blank, a process's number, 0 to 7, then a colon and the digits of its size, or none; and after the last of them, a
-- blank, `pup`, a blank and the digits of a number up to 255, after which nothing follows
unfoldable pub next_in : Place → ℕ → Listing → Listing
next_in Behind c r = ends_item c r
next_in Before c r = cond (is_digit 55 c) (named (c - 48) r) (only 112 P c r)
next_in Named c r = cond (eqb c 58) (at Colon r) (ends_item c r)
next_in Colon c r = cond (is_digit 57 c) (sized (c - 48) r) (at Wrong r)
next_in Sized c r = cond (goes_on most_size (size_of r) c) (sized (10 * size_of r + (c - 48)) r) (ends_item c r)
next_in P c r = only 117 Pu c r
next_in Pu c r = only 112 Pup c r
next_in Pup c r = only 32 AtDoor c r
next_in AtDoor c r = cond (is_digit 57 c) (doored (c - 48) r) (at Wrong r)
next_in Door c r = cond (goes_on no_door r.door c) (doored (10 * r.door + (c - 48)) r) (at Wrong r)
next_in Wrong c r = r

-- the same, by where the reading stands
abbrev pub next_listing : Listing → ℕ → Listing
next_listing r c = next_in r.place c r

-- the same over characters one after another
unfoldable pub listed : Listing → List ℕ → Listing
listed r [] = r
listed r (c ∷ cs) = listed (next_listing r c) cs

-- the line may end here
unfoldable pub complete : Place → Bool
complete Behind = true
complete Before = false
complete Named = true
complete Colon = false
complete Sized = true
complete P = false
complete Pu = false
complete Pup = false
complete AtDoor = false
complete Door = true
complete Wrong = false
