-- The three ways in which sizes are found: in a chunk's field, in a table of an RF64 file, and in an atom's header.
use Rattle.std.specs.Prelude.{ℕ, ◌-◌, List, [], ◌∷◌, length, take, drop, Bool, true, false, nat_lt, ◌==◌, Option, Some, None}
use Rattle.std.specs.Int.{w32, w64, from_le_bytes, from_be_bytes}
use Rattle.std.specs.Str.{bytes_eq}
use Rattle.container_model.specs.Chunk.{riff, wide, short, long, to_end, Header, too_short, no_header, past_end, full_header}

-- the row of a table
pub record Row : Type 0 where
  pub id : List ℕ
  pub size : ℕ

-- where sizes are: in the fields, or those of FFFFFFFF in a table
pub data Sizes : Type 0 where
  plain : Sizes
  table : ℕ → List Row → Sizes

-- the first row of an identifier, and the rows without it
abbrev pub first_row : List ℕ → List Row → Option (ℕ × List Row)
first_row id [] = None
first_row id (r ∷ rows) =
    elim (bytes_eq id r.id) [
      | true ↦ Some (r.size, rows)
      | false ↦ elim (first_row id rows) [
        | None ↦ None
        | Some found ↦ Some (found.0, r ∷ found.1)
      ]
    ]

-- a chunk's size by its field, and by the table where the field is FFFFFFFF
abbrev pub sized : Sizes → List ℕ → ℕ → List ℕ → Header Sizes
sized plain id n after = full_header riff id n after plain
sized (table main rows) id n after =
    elim (n == 4294967295) [
      | false ↦ full_header riff id n after (table main rows)
      | true ↦ elim (bytes_eq id (100 ∷ 97 ∷ 116 ∷ 97 ∷ [])) [
        | true ↦ full_header wide id main after (table main rows)
        | false ↦ elim (first_row id rows) [
          | None ↦ no_header
          | Some found ↦ full_header wide id found.0 after (table main found.1)
        ]
      ]
    ]

-- the header at the front, in RIFF
abbrev pub riff_ahead : Sizes → List ℕ → Bool → Header Sizes
riff_ahead s b true = too_short
riff_ahead s b false = sized s (take 4 b) (from_le_bytes w32 (take 4 (drop 4 b))) (drop 8 b)

-- the header at the front of some bytes, in RIFF
abbrev pub riff_front : Sizes → List ℕ → Header Sizes
riff_front s b = riff_ahead s b (nat_lt (length b) 8)

-- where atoms stand: at top level, where one may go to the end of the file, inside another, or in user data, where a
-- size of 0 begins the rest
pub data Level : Type 0 where
  top : Level
  inside : Level
  user : Level

-- an atom's type, behind the size
abbrev pub kind_at : List ℕ → List ℕ
kind_at b = take 4 (drop 4 b)

-- an atom whose size is 0
abbrev pub atom_zero : Level → List ℕ → Header Level
atom_zero top b = full_header to_end (kind_at b) (length b - 8) (drop 8 b) top
atom_zero inside b = no_header
atom_zero user b = too_short

-- an atom whose size stands in 32 bits
abbrev pub atom_short : Level → List ℕ → ℕ → Bool → Header Level
atom_short s b n true = no_header
atom_short s b n false = full_header short (kind_at b) (n - 8) (drop 8 b) s

-- an atom whose size stands in 64 bits behind its type
abbrev pub atom_long : Level → List ℕ → ℕ → Bool → Header Level
atom_long s b n true = no_header
atom_long s b n false = full_header long (kind_at b) (n - 16) (drop 16 b) s

-- an atom whose size is 1, by whether its 16 bytes are there
abbrev pub atom_wide : Level → List ℕ → Bool → Header Level
atom_wide s b true = past_end
atom_wide s b false = atom_long s b (from_be_bytes w64 (take 8 (drop 8 b))) (nat_lt (from_be_bytes w64 (take 8 (drop 8 b))) 16)

-- an atom by the number in its size's place, and whether that is 1 or 0
abbrev pub atom_by : Level → List ℕ → ℕ → Bool → Bool → Header Level
atom_by s b n true zero_too = atom_wide s b (nat_lt (length b) 16)
atom_by s b n false true = atom_zero s b
atom_by s b n false false = atom_short s b n (nat_lt n 8)

-- an atom, by whether eight bytes are there
abbrev pub atom_ahead : Level → List ℕ → Bool → Header Level
atom_ahead s b true = too_short
atom_ahead s b false = atom_by s b (from_be_bytes w32 (take 4 b)) (from_be_bytes w32 (take 4 b) == 1) (from_be_bytes w32 (take 4 b) == 0)

-- the header at the front, of an atom
abbrev pub atom_front : Level → List ℕ → Header Level
atom_front s b = atom_ahead s b (nat_lt (length b) 8)
