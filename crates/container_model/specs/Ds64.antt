-- The numbers of the chunk ds64, which holds sizes of 64 bits, and its table of rows. (EBU Tech 3306.)
use Rattle.std.specs.Prelude.{ℕ, zero, suc, List, [], ◌∷◌, take, drop}
use Rattle.std.specs.Int.{w32, w64, from_le_bytes}
use Rattle.container_model.specs.Sizes.{Row, Sizes, table}

-- the number that the first four bytes spell, the low byte first
abbrev pub le32 : List ℕ → ℕ
le32 b = from_le_bytes w32 (take 4 b)

-- the number that the first eight bytes spell
abbrev pub le64 : List ℕ → ℕ
le64 b = from_le_bytes w64 (take 8 b)

-- the rows of its table: an identifier and a size of 64 bits each, as many as there are
abbrev pub rows : ℕ → List ℕ → List Row
rows zero b = []
rows (suc n) [] = []
rows (suc n) (x ∷ b) = record { id = take 4 (x ∷ b); size = le64 (drop 4 (x ∷ b)) } ∷ rows n (drop 12 (x ∷ b))

-- riffSize, dataSize, the count of samples, the number of rows, and the rows
abbrev pub table_of : List ℕ → Sizes
table_of body = table (le64 (drop 8 body)) (rows (le32 (drop 24 body)) (drop 28 body))
