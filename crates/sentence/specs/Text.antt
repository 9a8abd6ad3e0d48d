-- Text as the codes of its characters.
use Rattle.std.specs.Prelude.{List, [], ◌∷◌, ℕ}
use Prim.Native.Char.{code}
use Prim.Native.String.{String, [] as none, ◌∷◌ as ◌then◌}

-- the codes of a text's characters
abbrev pub text : String → List ℕ
text none = []
text (c then cs) = code c ∷ text cs
