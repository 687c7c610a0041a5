-- The rows of a file that is made.
use Rattle.std.specs.Prelude.{ℕ, zero, suc, ◌+◌, ◌*◌, ◌<◌, ◌^◌, List, [], ◌++◌, codes, ⊤}
use Rattle.me_bytes.specs.Bytes.{be_bytes, le_bytes}
use Rattle.me_generate.specs.Bytes.{chunk, zeros}
use Rattle.me_generate.specs.declared.rows.Row.{Row}
use Rattle.me_generate.specs.declared.rows.Row.TheVariants.{Second, Picture, Entry, Place, Sample}

-- a second of two channels of 24 bits at 48 kHz: its number in the first two bytes, and zeros
abbrev pub second : ℕ → List ℕ
second k = le_bytes 2 k ++ zeros 287998

-- a chunk of a picture: its number
abbrev pub picture : ℕ → List ℕ
picture k = chunk (codes "00db") 8 ++ le_bytes 8 k

-- an entry of `idx1`: a key frame, at its place from the word `movi`, of eight bytes
abbrev pub entry : ℕ → List ℕ
entry k = codes "00db" ++ le_bytes 4 16 ++ le_bytes 4 (4 + 16 * k) ++ le_bytes 4 8

-- the row of a number
abbrev pub row_bytes : Row → ℕ → List ℕ
row_bytes Second k = second k
row_bytes Picture k = picture k
row_bytes Entry k = entry k
row_bytes (Place first) k = be_bytes 4 (first + 8 * k)
row_bytes Sample k = be_bytes 8 k

-- the rows of the first n numbers
abbrev pub rows : Row → ℕ → List ℕ
rows r zero = []
rows r (suc n) = rows r n ++ row_bytes r n

-- the numbers in the row of k fit their widths
abbrev pub HasRow : Row → ℕ → Type 0
HasRow Second k = k < 2 ^ 16
HasRow Entry k = 4 + 16 * k < 2 ^ 32
HasRow (Place first) k = first + 8 * k < 2 ^ 32
HasRow _ k = ⊤

abbrev pub HasRows : Row → ℕ → Type 0
HasRows r n = (k : ℕ) → k < n → HasRow r k
