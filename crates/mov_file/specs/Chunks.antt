-- The chunks of a track that stand in no range of the essence.
use Rattle.std.specs.Prelude.{ℕ, suc, ◌+◌, ◌*◌, ◌≤◌, List, [], ◌∷◌, length, take, drop, Bool, true, false, Option, Some, None, if◌then◌else◌}
use Rattle.std.specs.Int.{w32, from_be_bytes}
use Rattle.container_model.specs.Rows.{Width, be32, be64, numbers}
use Rattle.part_tree.specs.Ranges.{in_one}
use Rattle.part_tree.specs.declared.names.Span.{Span}

-- The number of the first of these places that lies in none of the ranges. The places are counted on from a number.
abbrev pub first_astray : List Span → ℕ → List ℕ → Option ℕ
first_astray mdats k [] = None
first_astray mdats k (p ∷ ps) = if in_one mdats p 1 then first_astray mdats (suc k) ps else Some k

-- a place has eight bytes in `co64`, and four in `stco`
abbrev pub width_of : Bool → Width
width_of true = be64
width_of false = be32

-- how many rows a table has by its body
abbrev pub row_count : List ℕ → ℕ
row_count body = from_be_bytes w32 (take 4 (drop 4 body))

-- the body of a table has all its rows
abbrev pub HasRows : Bool → List ℕ → Type 0
HasRows wide body = 8 + (width_of wide).bytes * row_count body ≤ length body

-- the places in the body of a table
abbrev pub places_of : Bool → List ℕ → List ℕ
places_of wide body = numbers (width_of wide) (row_count body) (drop 8 body)
