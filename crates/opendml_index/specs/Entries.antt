-- The entries of index chunks (OpenDML 1.02).
use Rattle.std.specs.Prelude.{◌≡◌, ◌<◌, ◌≤◌, ℕ, ◌+◌, ◌*◌, ◌^◌, nat_lt, List, length, Bool, true, false, Option, Some, None}
use Rattle.std.specs.Int.{w32, from_le_bytes}
use Rattle.container_model.specs.Written.{slice}
use Rattle.container_model.specs.Tables.{le32_at}
use Rattle.opendml_index.specs.Index.{used, super_place, entry_offset, entry_length, entry_second}
use Rattle.part_tree.specs.declared.table.IndexHead.{IndexHead}
use Rattle.opendml_index.specs.declared.entry.SuperEntry.{SuperEntry}
use Rattle.opendml_index.specs.declared.entry.StdEntry.{StdEntry}

-- how many bytes an entry of a standard index has
abbrev pub width_by : Bool → ℕ
width_by true = 12
width_by false = 8

-- the row of a number behind the head
abbrev pub row_at : ℕ → List ℕ → ℕ → List ℕ
row_at w body k = slice body (24 + w * k) w

-- ---- super entries

-- the numbers of a super entry
pub record IsSuper (r : List ℕ) (e : SuperEntry) : Type 0 where
  pub place : e.place ≡ super_place r
  pub size : e.size ≡ le32_at 8 r
  pub duration : e.duration ≡ le32_at 12 r

-- the entry of a number, where it is in use and doesn't pass the end
abbrev pub ReadsSuper : List ℕ → ℕ → Option SuperEntry → Type 0
ReadsSuper body k None = 24 + 16 * (k + 1) ≤ length body → used body ≤ k
ReadsSuper body k (Some e) = (24 + 16 * (k + 1) ≤ length body) × (k < used body) × IsSuper (row_at 16 body k) e

-- ---- standard entries

-- the second field of a row of one or of two fields
abbrev pub SecondIs : List ℕ → Option ℕ → Type 0
SecondIs r None = length r ≡ 8
SecondIs r (Some n) = (length r ≡ 12) × (n ≡ entry_second r)

-- an entry of a standard index; bit 31 of its size says that it is no key frame
pub record IsStandard (r : List ℕ) (e : StdEntry) : Type 0 where
  pub offset : e.offset ≡ entry_offset r
  pub size : e.size ≡ entry_length r
  pub key : e.key ≡ nat_lt (le32_at 4 r) (2 ^ 31)
  pub second : SecondIs r e.second

-- the same by the first eight bytes of a row, and a second field
pub record IsFields (row : List ℕ) (second : Option ℕ) (e : StdEntry) : Type 0 where
  pub offset : e.offset ≡ entry_offset row
  pub size : e.size ≡ entry_length row
  pub key : e.key ≡ nat_lt (le32_at 4 row) (2 ^ 31)
  pub has_second : e.second ≡ second

-- the second field of a row at a place of some bytes
abbrev pub SecondAt : List ℕ → ℕ → Bool → Option ℕ → Type 0
SecondAt b at two None = two ≡ false
SecondAt b at two (Some n) = (two ≡ true) × (n ≡ from_le_bytes w32 (slice b (at + 8) 4))

-- the entry of a number, where it is in use and doesn't pass the end
abbrev pub ReadsStandard : List ℕ → IndexHead → ℕ → Option StdEntry → Type 0
ReadsStandard body h k None = 24 + width_by h.two_fields * (k + 1) ≤ length body → h.used ≤ k
ReadsStandard body h k (Some e) = (24 + width_by h.two_fields * (k + 1) ≤ length body) × (k < h.used) × IsStandard (row_at (width_by h.two_fields) body k) e
