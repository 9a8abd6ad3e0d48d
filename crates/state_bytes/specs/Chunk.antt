-- Lists that are read in pieces of one width.
use Rattle.std.specs.Prelude.{Bool, true, ◌&&◌, List, [], ◌∷◌, ℕ, zero, suc, take, drop}

-- so many pieces from the start of the bytes, each read
unfoldable pub chunks : {A : Type 0} → ℕ → (List ℕ → A) → ℕ → List ℕ → List A
chunks w f zero m = []
chunks w f (suc n) m = f (take w m) ∷ chunks w f n (drop w m)

-- each piece passes
unfoldable pub every_chunk : ℕ → (List ℕ → Bool) → ℕ → List ℕ → Bool
every_chunk w t zero m = true
every_chunk w t (suc n) m = t (take w m) && every_chunk w t n (drop w m)
