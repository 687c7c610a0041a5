-- Tables in chunks of RIFF: numbers in their rows, and where their bodies stand.
use Rattle.std.specs.Prelude.{ℕ, ◌+◌, nat_lt, List, [], ◌∷◌, length, filter, Bool, if◌then◌else◌}
use Rattle.std.specs.Int.{w32, w64, to_le_bytes, from_le_bytes}
use Rattle.container_model.specs.Written.{slice, written}
use Rattle.container_model.specs.Stood.{Stood}

-- the number of 32 bits at a place of some bytes
abbrev pub le32_at : ℕ → List ℕ → ℕ
le32_at k b = from_le_bytes w32 (slice b k 4)

-- the number of 64 bits
abbrev pub le64_at : ℕ → List ℕ → ℕ
le64_at k b = from_le_bytes w64 (slice b k 8)

-- the bytes with another number of 32 bits at a place
abbrev pub put32 : ℕ → ℕ → List ℕ → List ℕ
put32 k v b = written (record { at = k; bytes = to_le_bytes w32 v } ∷ []) 0 b

-- the same with 64 bits
abbrev pub put64 : ℕ → ℕ → List ℕ → List ℕ
put64 k v b = written (record { at = k; bytes = to_le_bytes w64 v } ∷ []) 0 b

-- a table, and where its body stands
pub record Table : Type 0 where
  pub at : ℕ
  pub body : List ℕ

-- the table in a chunk
abbrev pub table_of : Stood → Table
table_of x = record { at = x.at + 8; body = x.chunk.body }

-- the size field of the chunk at a place
abbrev pub size_at : List ℕ → ℕ → ℕ
size_at b p = from_le_bytes w32 (slice b (p + 4) 4)

-- the chunk whose header stands at a place of the file
abbrev pub named : List ℕ → ℕ → Table
named b p = record { at = p + 8; body = slice b (p + 8) (size_at b p) }

-- how many index chunks stand before a place
abbrev pub ordinal : List Table → ℕ → ℕ
ordinal [] p = 0
ordinal (t ∷ ts) p = (if nat_lt t.at p then 1 else 0) + ordinal ts p

-- how many rows meet a test
abbrev pub count_rows : (List ℕ → Bool) → List (List ℕ) → ℕ
count_rows test rs = length (filter test rs)
