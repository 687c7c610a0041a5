-- Where chunks stand.
use Rattle.std.specs.Prelude.{ℕ, ◌+◌, List, [], ◌∷◌, length, Bool, if◌then◌else◌}
use Rattle.container_model.specs.Chunk.{Chunk, spell}

-- a chunk, without its pad, and where its header stands
pub record Stood : Type 0 where
  pub at : ℕ
  pub chunk : Chunk

-- a chunk without its pad
abbrev pub bare : Chunk → Chunk
bare c = record c { pad = [] }

-- chunks that follow each other from a place on
abbrev pub stood : ℕ → List Chunk → List Stood
stood at [] = []
stood at (c ∷ cs) = record { at = at; chunk = bare c } ∷ stood (at + length (spell c)) cs

-- those that meet a test
abbrev pub only : (Chunk → Bool) → List Stood → List Stood
only p [] = []
only p (x ∷ xs) = if p x.chunk then x ∷ only p xs else only p xs

-- the first one, if there is one
abbrev pub first_of : List Stood → List Stood
first_of [] = []
first_of (x ∷ xs) = x ∷ []
