-- The index idx1 of an AVI file: its entries, what their offsets count from, and the same with other places (AVIOLDINDEX of the
-- AVI RIFF File Reference; that places move with the essence is this project's own).
use Rattle.std.specs.Prelude.{ℕ, ◌+◌, ◌%◌, ◌/◌, ◌==◌, nat_lt, List, [], ◌∷◌, length, Bool, true, false, ◌&&◌, not, if◌then◌else◌}
use Rattle.container_model.specs.Written.{slice, rows, map_rows}
use Rattle.container_model.specs.Tables.{le32_at, put32}

-- the identifier of an entry of idx1
abbrev pub row_id : List ℕ → List ℕ
row_id r = slice r 0 4

-- its flags: 1 marks a list, 16 a key frame
abbrev pub row_flags : List ℕ → ℕ
row_flags r = le32_at 4 r

-- its offset
abbrev pub row_offset : List ℕ → ℕ
row_offset r = le32_at 8 r

-- its length
abbrev pub row_length : List ℕ → ℕ
row_length r = le32_at 12 r

-- how many whole entries there are
abbrev pub count16 : List ℕ → ℕ
count16 body = length body / 16

-- the entries of idx1 (AVIOLDINDEX)
abbrev pub old_rows : List ℕ → List (List ℕ)
old_rows body = rows 16 (count16 body) body

-- what the offsets of idx1 count from
pub data Base : Type 0 where
  from_start : Base
  from_movi : Base

-- an entry that has bytes and is no list
abbrev pub decides : List ℕ → Bool
decides r = not (row_length r == 0) && (row_flags r % 2 == 0)

-- an offset below the place of movi counts from there
abbrev pub base_at : Bool → Base
base_at true = from_movi
base_at false = from_start

-- The first entry that has bytes and is no list decides the base.
abbrev pub base_of : ℕ → List (List ℕ) → Base
base_of movi [] = from_movi
base_of movi (r ∷ rs) = if decides r then base_at (nat_lt (row_offset r) movi) else base_of movi rs

-- where an entry is
abbrev pub row_place : Base → ℕ → List ℕ → ℕ
row_place from_start movi r = row_offset r
row_place from_movi movi r = movi + row_offset r

-- an entry that counts from the start with its place changed, if it has bytes
abbrev pub old_by : (ℕ → ℕ) → List ℕ → Base → Bool → List ℕ
old_by f r from_start false = put32 8 (f (row_offset r)) r
old_by f r from_start true = r
old_by f r from_movi t = r

-- an entry of idx1 with its place changed
abbrev pub old_row : (ℕ → ℕ) → Base → List ℕ → List ℕ
old_row f base r = old_by f r base (row_length r == 0)

-- idx1 with its places changed
abbrev pub old_body : (ℕ → ℕ) → Base → List ℕ → List ℕ
old_body f base body = map_rows 16 (old_row f base) (count16 body) body
