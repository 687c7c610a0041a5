-- The body of `ds64`: its numbers and its table (EBU Tech 3306, "ds64"), and the size that it gives a chunk.
use Rattle.std.specs.Prelude.{◌≡◌, ◌<◌, ℕ, ◌+◌, ◌-◌, ◌*◌, ◌^◌, ◌==◌, ◌||◌, nat_lt, List, [], ◌∷◌, ◌++◌, length, map, drop, Bool, true, false, codes, Option, Some, None, Result, if◌then◌else◌}
use Rattle.std.specs.Str.{bytes_eq}
use Rattle.std.specs.Int.{w32, w64, to_le_bytes}
use Rattle.std.specs.List.{AllByRecursion}
use Rattle.std.specs.declared.result.Result.TheVariants.{Ok, Err}
use Rattle.container_model.specs.Sizes.{Row}
use Rattle.part_tree.specs.declared.names.FourCc.{FourCc}
use Rattle.container_model.specs.Ds64.{le32, le64, rows}
use Rattle.rf64_ds64.specs.declared.Ds64.{Ds64}
use Rattle.rf64_ds64.specs.declared.Ds64Row.{Ds64Row}
use Rattle.rf64_ds64.specs.declared.Ds64Fault.{Ds64Fault}
use Rattle.rf64_ds64.specs.declared.Ds64Fault.TheVariants.{Short, Memory}
use Rattle.rf64_ds64.specs.declared.RowMissing.{RowMissing}

-- a row of the model's table
abbrev pub row_of : Ds64Row → Row
row_of r = record { id = r.id.0; size = r.size }

-- ---- reading

-- how many bytes the numbers and the table have
abbrev pub needed : List ℕ → ℕ
needed body = 28 + 12 * le32 (drop 24 body)

abbrev pub is_short : List ℕ → Bool
is_short body = nat_lt (length body) 28 || nat_lt (length body) (needed body)

-- The size of the form, that of `data`, the count of samples, the rows, and the bytes behind them.
pub record IsDs64 (body : List ℕ) (ds : Ds64) : Type 0 where
  pub riff : ds.riff ≡ le64 body
  pub data_size : ds.data_size ≡ le64 (drop 8 body)
  pub samples : ds.samples ≡ le64 (drop 16 body)
  pub rows : map row_of ds.rows ≡ Rattle.container_model.specs.Ds64.rows (le32 (drop 24 body)) (drop 28 body)
  pub extra : ds.extra ≡ drop (needed body) body

abbrev pub ReadsDs64 : List ℕ → Result Ds64 Ds64Fault → Type 0
ReadsDs64 body (Ok ds) = (is_short body ≡ false) × IsDs64 body ds
ReadsDs64 body (Err (Short len)) = (is_short body ≡ true) × (len ≡ length body)
ReadsDs64 body (Err Memory) = Unit {0}

-- ---- the spelling

abbrev pub row_bytes : List Ds64Row → List ℕ
row_bytes [] = []
row_bytes (r ∷ rs) = (r.id.0 ++ to_le_bytes w64 r.size) ++ row_bytes rs

abbrev pub body_of : Ds64 → List ℕ
body_of ds =
    to_le_bytes w64 ds.riff
    ++ (to_le_bytes w64 ds.data_size
    ++ (to_le_bytes w64 ds.samples
    ++ (to_le_bytes w32 (length ds.rows) ++ (row_bytes ds.rows ++ ds.extra))))

-- numbers of 64 bits, a count of 32, and identifiers of four bytes
pub record IsSpellable (ds : Ds64) : Type 0 where
  pub riff : ds.riff < 2 ^ 64
  pub data_size : ds.data_size < 2 ^ 64
  pub samples : ds.samples < 2 ^ 64
  pub count : length ds.rows < 2 ^ 32
  pub rows : AllByRecursion (λ r. (length r.id.0 ≡ 4) × (r.size < 2 ^ 64)) ds.rows

-- ---- the size of a chunk

-- the size in the nth row of an identifier, from 0
abbrev pub nth_size : List ℕ → ℕ → List Row → Option ℕ
nth_size id n [] = None
nth_size id n (r ∷ rs) = if bytes_eq id r.id then (if n == 0 then Some r.size else nth_size id (n - 1) rs) else nth_size id n rs

-- FFFFFFFF stands for the size of `data`, or for the row of the chunk's number among those of its identifier
abbrev pub true_size : Ds64 → FourCc → ℕ → ℕ → Option ℕ
true_size ds id field nth =
    if field == 4294967295 then (if bytes_eq id.0 (codes "data") then Some ds.data_size else nth_size id.0 nth (map row_of ds.rows)) else Some field

abbrev pub GivesSize : Ds64 → FourCc → ℕ → ℕ → Result ℕ RowMissing → Type 0
GivesSize ds id field nth (Ok size) = true_size ds id field nth ≡ Some size
GivesSize ds id field nth (Err fault) = (true_size ds id field nth ≡ None) × (fault.id ≡ id)
