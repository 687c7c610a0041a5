-- What is answered of the entries of idx1: their base, how many are counted, or the first that is refused.
use Rattle.std.specs.Prelude.{◌≡◌, ℕ, suc, ◌+◌, ◌==◌, nat_lt, List, [], ◌∷◌, ◌++◌, Bool, true, false, ◌&&◌, ◌||◌, not, Some, None, Result}
use Rattle.std.specs.declared.result.Result.TheVariants.{Ok, Err}
use Rattle.part_tree.specs.declared.names.Span.{Span}
use Rattle.part_tree.specs.declared.index.IndexFault.{IndexFault}
use Rattle.part_tree.specs.declared.index.IndexFault.TheVariants.{NoBase, Astray, Overlap, Depot}
use Rattle.part_tree.specs.Ranges.{within, begins_one, clear_of}
use Rattle.container_model.specs.Tests.{first}
use Rattle.container_model.specs.Tables.{count_rows}
use Rattle.avi_index.specs.Rows.{Base as Model, from_start, from_movi, base_at, base_of, row_offset, row_length}
use Rattle.avi_index.specs.Found.{based_by, is_based, counted}
use Rattle.part_tree.specs.declared.table.Base.{Base}
use Rattle.part_tree.specs.declared.table.Base.TheVariants.{Movi, FileStart}

-- ---- the base

-- the base that is told
abbrev pub model_base : Base → Model
model_base (Movi p) = from_movi
model_base FileStart = from_start

-- how it is told, where movi stands at a place
abbrev pub told_base : ℕ → Model → Base
told_base p from_movi = Movi p
told_base p from_start = FileStart

-- The base by whether the rows have the one that they say, and which that is.
abbrev pub TellsBase : Bool → Base → Result Base IndexFault → Type 0
TellsBase based base (Ok found) = (based ≡ true) × (found ≡ base)
TellsBase based base (Err NoBase) = based ≡ false
TellsBase based base (Err (Astray k)) = ⊥
TellsBase based base (Err (Overlap k)) = ⊥
TellsBase based base (Err Depot) = Unit {0}

-- the base that a row settles
abbrev pub SettlesBase : List ℕ → List Span → Span → List ℕ → Result Base IndexFault → Type 0
SettlesBase b ss movi r result = TellsBase (based_by b ss movi r (nat_lt (row_offset r) movi.at)) (told_base movi.at (base_at (nat_lt (row_offset r) movi.at))) result

-- the base of the rows of a table
abbrev pub FindsBase : List ℕ → List Span → Span → List (List ℕ) → Result Base IndexFault → Type 0
FindsBase b ss movi rs result = TellsBase (is_based b ss movi rs) (told_base movi.at (base_of movi.at rs)) result

-- ---- the entries, from 0

-- the tests of an entry: it doesn't lie in movi, or it has bytes in an index chunk
abbrev pub row_tests : Span → List Span → ℕ → List ℕ → List (Bool × IndexFault)
row_tests movi ss k r =
    (not (row_length r == 0) && not (within movi (row_offset r) (8 + row_length r)), Astray k)
    ∷ ((not (row_length r == 0) && not (begins_one ss (row_offset r) || clear_of ss (row_offset r + 8) (row_length r)), Overlap k) ∷ [])

-- the tests of the entries from a number on
abbrev pub rows_tests : Span → List Span → ℕ → List (List ℕ) → List (Bool × IndexFault)
rows_tests movi ss k [] = []
rows_tests movi ss k (r ∷ rs) = row_tests movi ss k r ++ rows_tests movi ss (suc k) rs

-- only entries that count from the start of the file are tested
abbrev pub old_tests : Model → Span → List Span → ℕ → List (List ℕ) → List (Bool × IndexFault)
old_tests from_movi movi ss k rs = []
old_tests from_start movi ss k rs = rows_tests movi ss k rs

-- what is answered of one entry: whether it is counted
abbrev pub JudgesRow : Model → Span → List Span → ℕ → List ℕ → Result Bool IndexFault → Type 0
JudgesRow base movi ss k r (Ok counts) = (first (old_tests base movi ss k (r ∷ [])) ≡ None) × (counts ≡ counted base movi ss r)
JudgesRow base movi ss k r (Err fault) = first (old_tests base movi ss k (r ∷ [])) ≡ Some fault

-- what is answered of a table: how many entries are counted, or the first fault
abbrev pub JudgesRows : Model → Span → List Span → List (List ℕ) → Result ℕ IndexFault → Type 0
JudgesRows base movi ss rs (Ok n) = (first (old_tests base movi ss 0 rs) ≡ None) × (n ≡ count_rows (counted base movi ss) rs)
JudgesRows base movi ss rs (Err NoBase) = ⊥
JudgesRows base movi ss rs (Err (Astray k)) = first (old_tests base movi ss 0 rs) ≡ Some (Astray k)
JudgesRows base movi ss rs (Err (Overlap k)) = first (old_tests base movi ss 0 rs) ≡ Some (Overlap k)
JudgesRows base movi ss rs (Err Depot) = Unit {0}
