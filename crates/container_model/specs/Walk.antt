-- What is met when chunks are read, depth first.
use Rattle.std.specs.Prelude.{ℕ, zero, suc, ◌+◌, List, [], ◌∷◌, ◌++◌, length, take, Option, Some, None}
use Rattle.std.specs.List.{flat_map}
use Rattle.container_model.specs.Chunk.{header_bytes, Chunk, spell, spell_all, Stop}
use Rattle.container_model.specs.Deep.{Format, kids, Leaf, stands}

-- A chunk is met: what it stands in, and its place in the file. Or the chunks of an opened one end: what these stand in, where they end, and what ends them.
pub data Step (P : Type 0) : Type 0 where
  chunk_at : P → ℕ → Chunk → Step P
  end_at : P → ℕ → Stop → Step P

-- where a chunk's body begins
abbrev pub body_at : ℕ → Chunk → ℕ
body_at at c = at + length (header_bytes c.form c.id (length c.body))

-- of each chunk of a list that begins at a place
abbrev pub along : {A : Type 0} → (ℕ → Chunk → List A) → ℕ → List Chunk → List A
along g at [] = []
along g at (c ∷ cs) = g at c ++ along g (at + length (spell c)) cs

-- a chunk, then the chunks in it, so many levels deep
abbrev pub walk_at : {P S : Type 0} → Format P S → (P → ℕ → Chunk → List (Step P)) → ℕ → Chunk → Option P → List (Step P)
walk_at f deeper at c None = []
walk_at f deeper at c (Some q) =
    along (deeper q) (body_at at c + f.prefix q) (kids f q c).chunks ++ end_at q (body_at at c + (f.prefix q + length (spell_all (kids f q c).chunks))) (kids f q c).stop ∷ []

-- what is met in a chunk that stands at a place, so many levels deep
unfoldable pub walk : {P S : Type 0} → Format P S → ℕ → P → ℕ → Chunk → List (Step P)
walk f zero p at c = chunk_at p at c ∷ []
walk f (suc d) p at c = chunk_at p at c ∷ walk_at f (walk f d) at c (f.opens p c.id (take 4 c.body))

-- the same chunks, each with what it stands in
abbrev pub nested_at : {P S : Type 0} → Format P S → (P → Chunk → List (Leaf P)) → Chunk → Option P → List (Leaf P)
nested_at f deeper c None = []
nested_at f deeper c (Some q) = flat_map (deeper q) (kids f q c).chunks

-- a chunk and the chunks in it, so many levels deep
unfoldable pub nested : {P S : Type 0} → Format P S → ℕ → P → Chunk → List (Leaf P)
nested f zero p c = stands p c ∷ []
nested f (suc d) p c = stands p c ∷ nested_at f (nested f d) c (f.opens p c.id (take 4 c.body))

-- a chunk that is met, without its place
abbrev pub chunk_met : {P : Type 0} → Step P → List (Leaf P)
chunk_met (chunk_at p at c) = stands p c ∷ []
chunk_met (end_at p at stop) = []
