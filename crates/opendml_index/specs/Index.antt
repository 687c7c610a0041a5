-- The index chunks of OpenDML: what their entries name, and the same with other numbers (AVI File Format Extensions 1.02,
-- AVISUPERINDEX and AVISTDINDEX; that numbers move with the essence is this project's own).
use Rattle.std.specs.Prelude.{ℕ, ◌+◌, ◌-◌, ◌*◌, ◌%◌, ◌^◌, ◌==◌, nat_lt, List, [], ◌∷◌, ◌++◌, length, take, drop, Bool, true, false, ◌&&◌, not, Option, Some, None, if◌then◌else◌}
use Rattle.std.specs.Str.{bytes_eq}
use Rattle.std.specs.List.{flat_map}
use Rattle.std.specs.Int.{w16, from_le_bytes}
use Rattle.container_model.specs.Written.{slice, rows, map_rows}
use Rattle.container_model.specs.Tables.{le32_at, le64_at, put32, put64}

-- How a number is changed: a place; a base, whose first counted entry names a place; and an offset from the new base,
-- which names a place.
pub record How : Type 0 where
  pub place : ℕ → ℕ
  pub base : ℕ → ℕ → ℕ
  pub offset : ℕ → ℕ → ℕ

-- each place moves, and a base with its first counted entry, but not below 0
abbrev pub move : (ℕ → ℕ) → How
move f = record { place = f; base = λ b p. (b + f p) - p; offset = λ b p. f p - b }

-- zeros in the offset places
abbrev pub blank : How
blank = record { place = λ p. 0; base = λ b p. 0; offset = λ b p. 0 }

-- ---- the body of an index chunk

-- a super index, by its type
abbrev pub is_super : List ℕ → Bool
is_super body = bytes_eq (slice body 3 1) (0 ∷ [])

-- how many bytes an entry has
abbrev pub width : List ℕ → ℕ
width body = 4 * from_le_bytes w16 (slice body 0 2)

-- how many entries are in use
abbrev pub used : List ℕ → ℕ
used body = le32_at 4 body

-- the entries in use
abbrev pub entries : List ℕ → List (List ℕ)
entries body = rows (width body) (used body) (drop 24 body)

-- the place of a super entry; one of 0 is unused
abbrev pub super_place : List ℕ → ℕ
super_place r = le64_at 0 r

-- the place of an entry, if it is used
abbrev pub place_by : ℕ → Bool → List ℕ
place_by p true = []
place_by p false = p ∷ []

-- the place of a super entry that is used
abbrev pub used_place : List ℕ → List ℕ
used_place r = place_by (super_place r) (super_place r == 0)

-- a super entry with its place changed, if it is used
abbrev pub super_by : How → List ℕ → Bool → List ℕ
super_by h r true = r
super_by h r false = put64 0 (h.place (super_place r)) r

-- a super entry with its place changed
abbrev pub super_row : How → List ℕ → List ℕ
super_row h r = super_by h r (super_place r == 0)

-- a super index with its places changed
abbrev pub super_body : How → List ℕ → List ℕ
super_body h body = take 24 body ++ map_rows (width body) (super_row h) (used body) (drop 24 body)

-- a standard entry; one of length 0 isn't counted
abbrev pub entry_offset : List ℕ → ℕ
entry_offset r = le32_at 0 r

-- how many bytes a standard entry names; bit 31 says that it is no key frame
abbrev pub entry_length : List ℕ → ℕ
entry_length r = le32_at 4 r % 2 ^ 31

-- the offset of the second field
abbrev pub entry_second : List ℕ → ℕ
entry_second r = le32_at 8 r

-- a second field that names a place
abbrev pub has_second : List ℕ → Bool
has_second r = nat_lt 8 (length r) && not (entry_second r == 0)

-- the base of a standard index
abbrev pub index_base : List ℕ → ℕ
index_base body = le64_at 12 body

-- a row with its second offset changed, if it has one
abbrev pub second_by : (ℕ → ℕ) → List ℕ → Bool → List ℕ
second_by v r true = put32 8 (v (entry_second r)) r
second_by v r false = r

-- a row with its offsets changed, if it is counted
abbrev pub entry_by : (ℕ → ℕ) → List ℕ → Bool → List ℕ
entry_by v r true = r
entry_by v r false = put32 0 (v (entry_offset r)) (second_by v r (has_second r))

-- a standard entry with its offsets changed
abbrev pub entry_row : (ℕ → ℕ) → List ℕ → List ℕ
entry_row v r = entry_by v r (entry_length r == 0)

-- the offset of the first counted entry
abbrev pub first_counted : List (List ℕ) → Option ℕ
first_counted [] = None
first_counted (r ∷ rs) = if entry_length r == 0 then first_counted rs else Some (entry_offset r)

-- a standard index with another base and other offsets
abbrev pub standard_with : ℕ → (ℕ → ℕ) → List ℕ → List ℕ
standard_with base v body = put64 12 base (take 24 body) ++ map_rows (width body) (entry_row v) (used body) (drop 24 body)

-- a standard index with its numbers changed, if an entry is counted
abbrev pub standard_by : How → List ℕ → Option ℕ → List ℕ
standard_by h body None = body
standard_by h body (Some x) =
    let old = index_base body in
    let new = h.base old (old + x) in
    standard_with new (λ y. h.offset new (old + y)) body

-- a standard index with its numbers changed
abbrev pub standard_body : How → List ℕ → List ℕ
standard_body h body = standard_by h body (first_counted (entries body))

-- a super or a standard index with its numbers changed
abbrev pub index_by : How → List ℕ → Bool → List ℕ
index_by h body true = super_body h body
index_by h body false = standard_body h body

-- an index chunk with its numbers changed
abbrev pub index_body : How → List ℕ → List ℕ
index_body h body = index_by h body (is_super body)

-- the places that a super index names
abbrev pub super_places : List ℕ → List ℕ
super_places body = flat_map used_place (entries body)
