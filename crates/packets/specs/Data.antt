-- The data words of a packet. 'the data words and bytes in a Pup are numbered from one': the first is that of index 0.
use Rattle.std.specs.Prelude.{List, ℕ, get_or}
use Rattle.packets.specs.declared.units.WordAddress.{WordAddress}
use Rattle.packets.specs.declared.units.WordCount.{WordCount}
use Rattle.packets.specs.Units.{word_address, word_count}

-- 'the first data word of the packet contains the address of the word to be stored into'; 'the first data word is the address to fetch'
abbrev pub address_of : List ℕ → WordAddress
address_of words = word_address (get_or words 0 0)

-- 'The second data word is the value to store'
abbrev pub value_of : List ℕ → ℕ
value_of words = get_or words 1 0

-- 'If the third data word is non-zero, then the user is requesting the server to send a block of that many words': 0 where there is no third word
abbrev pub asked : List ℕ → WordCount
asked words = word_count (get_or words 2 0)
