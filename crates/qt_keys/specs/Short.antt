-- Atoms in the short form that fill some bytes (QuickTime File Format, atoms).
use Rattle.std.specs.Prelude.{Bool, List, None, Option, Some, [], drop, false, length, nat_le, suc, take, true, zero, ℕ, ◌&&◌, ◌-◌, ◌∷◌}
use Rattle.std.specs.Int.{from_be_bytes, w32}
use Rattle.container_model.specs.Atoms.{atom}
use Rattle.container_model.specs.Chunk.{Chunk}

-- the size in the header at the front, which counts the header
abbrev pub size_at : List ℕ → ℕ
size_at b = from_be_bytes w32 (take 4 b)

-- it is that of a short header, and passes no end
abbrev pub stands_at : List ℕ → Bool
stands_at b = nat_le 8 (size_at b) && nat_le (size_at b) (length b)

-- the atom at the front
abbrev pub atom_at : List ℕ → Chunk
atom_at b = atom (take 4 (drop 4 b)) (take (size_at b - 8) (drop 8 b))

-- what is read of one atom, before what is read of the others
abbrev pub and_others : {A : Type 0} → Option A → Option (List A) → Option (List A)
and_others None others = None
and_others (Some a) None = None
and_others (Some a) (Some others) = Some (a ∷ others)

-- the atom at the front, then the others; none where its header isn't short or passes the end
abbrev pub atom_then : {A : Type 0} → (Chunk → Option A) → (List ℕ → Option (List A)) → List ℕ → Bool → Option (List A)
atom_then g again b true = and_others (g (atom_at b)) (again (drop (size_at b) b))
atom_then g again b false = None

-- what is read of each of the atoms that fill the bytes, at most so many
abbrev pub each_in : {A : Type 0} → (Chunk → Option A) → ℕ → List ℕ → Option (List A)
each_in g k [] = Some []
each_in g zero (x ∷ b) = None
each_in g (suc k) (x ∷ b) = atom_then g (each_in g k) (x ∷ b) (stands_at (x ∷ b))

-- What is read of each of the short atoms that fill the bytes; none where they don't fill them, or one isn't read.
unfoldable pub each : {A : Type 0} → (Chunk → Option A) → List ℕ → Option (List A)
each g b = each_in g (length b) b
