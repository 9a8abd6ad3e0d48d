-- The words of an acknowledgement.
use Rattle.std.specs.Prelude.{Some, None, cond, List, [], ◌∷◌, ◌++◌, ℕ, ◌+◌, eqb}
use Rattle.packets.specs.declared.units.WordAddress.{WordAddress}
use Rattle.packets.specs.Types.{FETCH}
use Rattle.packets.specs.Block.{Block}

-- '35 output words': no acknowledgement has more
abbrev pub ack_words : ℕ
ack_words = 35

-- 'The second data word is the contents of that address' (Fetch); 'A Store ack's second word is 0'
abbrev pub second_word : ℕ → ℕ → ℕ
second_word t contents = cond (eqb t FETCH) contents 0

-- how many words a block has
unfoldable pub block_words : Block → ℕ
block_words None = 0
block_words (Some block) = block.1.0

-- 'The first data word is the requested address', then the second and, with a block, how many words it has
unfoldable pub ack_start : WordAddress → ℕ → Block → List ℕ
ack_start at second None = at.0 ∷ second ∷ []
ack_start at second (Some block) = at.0 ∷ second ∷ block.1.0 ∷ []

-- 'a block of that many words of the debugee begins in the fourth data word'
unfoldable pub ack_of : WordAddress → ℕ → Block → List ℕ → List ℕ
ack_of at second block contents = ack_start at second block ++ contents

-- how many words an acknowledgement has: 'otherwise the ack has two words'
unfoldable pub ack_length : Block → ℕ
ack_length None = 2
ack_length (Some block) = 3 + block.1.0
