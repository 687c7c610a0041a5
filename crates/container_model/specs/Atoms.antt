-- Atoms by their types: a test, a list of types, a new atom, and the atoms in one (QuickTime File Format, atoms).
use Rattle.std.specs.Prelude.{Bool, List, [], false, ℕ, ◌||◌, ◌∷◌}
use Rattle.std.specs.Str.{bytes_eq}
use Rattle.container_model.specs.Chunk.{Chunk, Run, chunks, short}
use Rattle.container_model.specs.Sizes.{atom_front, inside}

-- whether an atom has this type
abbrev pub is : Chunk → List ℕ → Bool
is c id = bytes_eq c.id id

-- whether a type is in a list of types
abbrev pub is_listed : List ℕ → List (List ℕ) → Bool
is_listed x [] = false
is_listed x (y ∷ ys) = bytes_eq y x || is_listed x ys

-- a new atom has the short form
abbrev pub atom : List ℕ → List ℕ → Chunk
atom id body = record { form = short; id = id; body = body; pad = [] }

-- the atoms in an atom
abbrev pub atoms_in : Chunk → Run
atoms_in c = chunks atom_front inside c.body
