-- The rows of tables that name places of their file, and what becomes of a row when these places move (AVIOLDINDEX of the AVI
-- RIFF File Reference; super and standard indexes of OpenDML 1.02; chunk offset atoms of the QuickTime File Format; how the
-- numbers move is this project's own).
use Rattle.std.specs.Prelude.{◌≡◌, ℕ, zero, suc, ◌+◌, ◌-◌, ◌%◌, ◌^◌, ◌==◌, nat_le, nat_lt, ◌&&◌, not, Bool, if◌then◌else◌, List, [], ◌∷◌, ◌++◌, take, drop, Option, Some, None, unwrap_or, ◌<◌, ⊤}
use Rattle.std.specs.List.{AllByRecursion, flat_map}
use Rattle.me_bytes.specs.Bytes.{le, be, le_bytes, be_bytes}
use Rattle.part_tree.specs.declared.table.Base.TheVariants.{Movi, FileStart}
use Rattle.part_tree.specs.declared.table.IndexHead.{IndexHead}
use Rattle.part_tree.specs.declared.table.TableForm.{TableForm}
use Rattle.part_tree.specs.declared.table.TableForm.TheVariants.{Idx1, Super, Standard, Chunks32, Chunks64, Widen}
use Rattle.part_tree.specs.Moves.{Move, place}

-- how many bytes a row has in the old file
abbrev pub width : TableForm → ℕ
width (Idx1 base) = 16
width Super = 16
width (Standard old base) = if old.two_fields then 12 else 8
width Chunks32 = 4
width Chunks64 = 8
width Widen = 4

-- how many bytes it has in the new file
abbrev pub new_width : TableForm → ℕ
new_width Widen = 8
new_width form = width form

-- ---- the numbers of a row

-- how a number is spelled: in how many bytes, and in which order these stand
pub record Spelling : Type 0 where
  pub bytes : ℕ
  pub get : List ℕ → ℕ
  pub put : ℕ → List ℕ

-- four bytes, the lowest first
abbrev pub le32 : Spelling
le32 = record { bytes = 4; get = le; put = le_bytes 4 }

-- eight bytes, the lowest first
abbrev pub le64 : Spelling
le64 = record { bytes = 8; get = le; put = le_bytes 8 }

-- four bytes, the highest first
abbrev pub be32 : Spelling
be32 = record { bytes = 4; get = be; put = be_bytes 4 }

-- eight bytes, the highest first
abbrev pub be64 : Spelling
be64 = record { bytes = 8; get = be; put = be_bytes 8 }

-- how the numbers are spelled that name places
abbrev pub spelling : TableForm → Spelling
spelling (Idx1 base) = le32
spelling Super = le64
spelling (Standard old base) = le32
spelling Chunks32 = be32
spelling Chunks64 = be64
spelling Widen = be32

-- the number at a place of a row
abbrev pub number : Spelling → ℕ → List ℕ → ℕ
number s at row = s.get (take s.bytes (drop at row))

-- the row with another number there
abbrev pub with_number : Spelling → ℕ → ℕ → List ℕ → List ℕ
with_number s at n row = take at row ++ (s.put n ++ drop s.bytes (drop at row))

-- A number of a row that names a place of the file: where in the row it stands, which places the old number and the new one
-- count from, and the least that the new one may be.
pub record Naming : Type 0 where
  pub at : ℕ
  pub old_base : ℕ
  pub new_base : ℕ
  pub least : ℕ

-- it counts from the start of the file
abbrev pub plainly : ℕ → Naming
plainly at = record { at = at; old_base = 0; new_base = 0; least = 0 }

-- the flags and the length of an entry of a standard index: bit 31 says that it is no key frame
abbrev pub length_of : List ℕ → ℕ
length_of row = number le32 4 row % 2 ^ 31

-- the second field, where it isn't 0, names a place too, and doesn't become 0
abbrev pub second_of : IndexHead → ℕ → List ℕ → List Naming
second_of old base row =
    if old.two_fields && not (number le32 8 row == 0) then record { at = 8; old_base = old.base; new_base = base; least = 1 } ∷ [] else []

-- The numbers that name places. An entry of length 0 names none, nor does a super entry of place 0. An `idx1` that counts from
-- `movi` has none to change.
abbrev pub namings : TableForm → List ℕ → List Naming
namings (Idx1 (Movi at)) row = []
namings (Idx1 FileStart) row = if number le32 12 row == 0 then [] else plainly 8 ∷ []
namings Super row = if number le64 0 row == 0 then [] else plainly 0 ∷ []
namings (Standard old base) row =
    if length_of row == 0 then [] else record { at = 0; old_base = old.base; new_base = base; least = 0 } ∷ second_of old base row
namings Chunks32 row = plainly 0 ∷ []
namings Chunks64 row = plainly 0 ∷ []
namings Widen row = []

-- ---- a row whose places move

-- where the moves put a place; where no range holds it, it stays
abbrev pub moved : List Move → ℕ → ℕ
moved moves at = unwrap_or (place moves at) at

-- the new place of what a number names
abbrev pub new_place : List Move → Spelling → List ℕ → Naming → ℕ
new_place moves s row n = moved moves (n.old_base + number s n.at row)

-- whether the new number may be this far from its base, and has room in its bytes
abbrev pub can_name : Spelling → Naming → ℕ → Bool
can_name s n at = nat_le (n.new_base + n.least) at && nat_lt at (n.new_base + 256 ^ s.bytes)

-- the first of the new places that can't be named
abbrev pub misfit_in : List Move → Spelling → List ℕ → List Naming → Option ℕ
misfit_in moves s row [] = None
misfit_in moves s row (n ∷ ns) = if can_name s n (new_place moves s row n) then misfit_in moves s row ns else Some (new_place moves s row n)

-- the row with its new numbers
abbrev pub renamed : List Move → Spelling → List ℕ → List Naming → List ℕ
renamed moves s row [] = row
renamed moves s row (n ∷ ns) = with_number s n.at (new_place moves s row n - n.new_base) (renamed moves s row ns)

-- The first new place of a row that its numbers can't name.
abbrev pub misfit : List Move → TableForm → List ℕ → Option ℕ
misfit moves form row = misfit_in moves (spelling form) row (namings form row)

-- a row that names a place it can't stays as it was
abbrev pub unless : Option ℕ → List ℕ → List ℕ → List ℕ
unless None row new = new
unless (Some at) row new = row

-- A row in the new file.
abbrev pub moved_row : List Move → TableForm → List ℕ → List ℕ
moved_row moves Widen row = be_bytes 8 (moved moves (be row))
moved_row moves form row = unless (misfit moves form row) row (renamed moves (spelling form) row (namings form row))

-- ---- a table

-- the first n rows of some bytes
abbrev pub rows : ℕ → ℕ → List ℕ → List (List ℕ)
rows w zero b = []
rows w (suc n) b = take w b ∷ rows w n (drop w b)

-- the first n rows of a table, as they are in the new file
abbrev pub relocated : List Move → TableForm → ℕ → List ℕ → List ℕ
relocated moves form n b = flat_map (moved_row moves form) (rows (width form) n b)

-- all new places of the first n rows can be named
abbrev pub RowsNamed : List Move → TableForm → ℕ → List ℕ → Type 0
RowsNamed moves form n b = AllByRecursion (λ row. misfit moves form row ≡ None) (rows (width form) n b)

-- the offsets of a standard index count from a place below 2^63
abbrev pub HasBase : TableForm → Type 0
HasBase (Standard old base) = old.base < 2 ^ 63
HasBase form = ⊤
