-- The tables of a file as they are read, once its forms are: the index chunks, their entries, and `idx1`.
use Rattle.std.specs.Prelude.{◌≡◌, ℕ, nat_lt, List, [], ◌∷◌, ◌++◌, length, map, Some, None, Option, Result, Vec}
use Rattle.std.specs.Global.{Global}
use Rattle.std.specs.declared.result.Result.TheVariants.{Ok, Err}
use Rattle.std.specs.List.{flat_map}
use Rattle.part_tree.specs.declared.part.Part.{Part}
use Rattle.part_tree.specs.declared.why.Why.TheVariants.{TooManyParts}
use Rattle.part_tree.specs.declared.why.ReadFault.{ReadFault}
use Rattle.part_tree.specs.declared.why.ReadFault.TheVariants.{Why, Depot, Memory}
use Rattle.container_model.specs.Tests.{first}
use Rattle.avi_model.specs.Avi.{avi_of, first_movi}
use Rattle.avi_model.specs.Index.{base, indexes, olds, spans, streams, table_span}
use Rattle.avi_model.specs.Map.{counted_entries, essence_spans, parts_of, standards, supers}
use Rattle.avi_model.specs.Support.{by_place, part_limit}
use Rattle.avi_model.specs.Why.{Test, base_tests, old_tests, overlap_tests, standard_tests, stream_tests}
use Rattle.part_tree.specs.declared.names.Span.{Span}
use Rattle.avi_file.specs.Forms.{front_tests}
use Rattle.avi_file.specs.Indexes.{kept_of}
use Rattle.avi_file.specs.Map.{TellsOld}
use Rattle.avi_file.specs.declared.index.IndexChunk.{IndexChunk}
use Rattle.avi_file.specs.declared.map.OldIndex.{OldIndex}
use Rattle.avi_file.specs.declared.tables.Placed.{Placed}
use Rattle.avi_file.specs.declared.tables.Counted.{Counted}
use Rattle.avi_file.specs.declared.tables.Tables.{Tables}

-- the forms were read, and these are the parts
pub record IsFront (b : List ℕ) (ps : List Part) : Type 0 where
  pub tests : first (front_tests b) ≡ None
  pub parts : ps ≡ parts_of b

-- the first of some ranges, if there is one
abbrev pub head_of : List Span → Option Span
head_of [] = None
head_of (s ∷ ss) = Some s

-- the first of some ranges, and no bytes at 0 where there is none
abbrev pub first_range : List Span → Span
first_range [] = record { at = 0; len = 0 }
first_range (s ∷ ss) = s

-- ---- the index chunks

-- the tests of all index chunks, and that of how many there are
abbrev pub index_tests : List ℕ → List Test
index_tests b = flat_map (stream_tests b) (streams b) ++ (nat_lt part_limit (length (indexes b)), TooManyParts) ∷ []

-- what is answered of them
abbrev pub FindsIndexes : List ℕ → Result (Vec IndexChunk Global) ReadFault → Type 0
FindsIndexes b (Ok chunks) = (first (index_tests b) ≡ None) × (chunks.items ≡ map kept_of (indexes b))
FindsIndexes b (Err (Why w)) = first (index_tests b) ≡ Some w
FindsIndexes b (Err Depot) = Unit {0}
FindsIndexes b (Err Memory) = Unit {0}

-- the same, and that none overlaps the one before it
abbrev pub place_tests : List ℕ → List Test
place_tests b = index_tests b ++ overlap_tests 0 (by_place (indexes b))

-- the index chunks in their order and by place, and the bodies of those
pub record ArePlacedIndexes (b : List ℕ) (p : Placed) : Type 0 where
  pub tests : first (place_tests b) ≡ None
  pub chunks : p.chunks.items ≡ map kept_of (indexes b)
  pub sorted_are : p.sorted.items ≡ map kept_of (by_place (indexes b))
  pub bodies : p.bodies.items ≡ spans (by_place (indexes b))

-- what is answered of them
abbrev pub PlacesIndexes : List ℕ → Result Placed ReadFault → Type 0
PlacesIndexes b (Ok p) = ArePlacedIndexes b p
PlacesIndexes b (Err (Why w)) = first (place_tests b) ≡ Some w
PlacesIndexes b (Err Depot) = Unit {0}
PlacesIndexes b (Err Memory) = Unit {0}

-- ---- `idx1`

-- its tests, if there is one
abbrev pub olds_tests : List ℕ → List Test
olds_tests b = flat_map (base_tests b) (olds b) ++ flat_map (old_tests (base b) (first_movi (avi_of b)) (indexes b)) (olds b)

-- what is answered of it
abbrev pub FindsOld : List ℕ → Result (Option OldIndex) ReadFault → Type 0
FindsOld b (Ok old) = (first (olds_tests b) ≡ None) × TellsOld b old
FindsOld b (Err (Why w)) = first (olds_tests b) ≡ Some w
FindsOld b (Err Depot) = Unit {0}
FindsOld b (Err Memory) = Unit {0}

-- ---- the entries of all

-- how many of its entries are counted, if there is one
abbrev pub counted_in : Option OldIndex → ℕ
counted_in None = 0
counted_in (Some old) = old.counted

-- the tests of the standard indexes by place, and of `idx1`
abbrev pub entry_tests : List ℕ → List Test
entry_tests b = flat_map (standard_tests b) (by_place (indexes b)) ++ olds_tests b

-- `idx1`, and how many entries are counted
pub record AreCounted (b : List ℕ) (c : Counted) : Type 0 where
  pub tests : first (entry_tests b) ≡ None
  pub idx1 : TellsOld b c.idx1
  pub entries : c.entries ≡ counted_entries b

-- what is answered of them
abbrev pub CountsEntries : List ℕ → Result Counted ReadFault → Type 0
CountsEntries b (Ok c) = AreCounted b c
CountsEntries b (Err (Why w)) = first (entry_tests b) ≡ Some w
CountsEntries b (Err Depot) = Unit {0}
CountsEntries b (Err Memory) = Unit {0}

-- ---- all tables

-- all tests but those of the forms, in the order of reading
abbrev pub table_tests : List ℕ → List Test
table_tests b =
    flat_map (stream_tests b) (streams b)
    ++ ((nat_lt part_limit (length (indexes b)), TooManyParts) ∷ (overlap_tests 0 (by_place (indexes b)) ++ entry_tests b))

-- all tables were read
pub record AreTables (b : List ℕ) (t : Tables) : Type 0 where
  pub tests : first (table_tests b) ≡ None
  pub movis : t.movis.items ≡ essence_spans b
  pub idx1 : TellsOld b t.idx1
  pub supers_are : t.supers.items ≡ map table_span (supers b)
  pub standards_are : t.standards.items ≡ map table_span (standards b)
  pub entries : t.entries ≡ counted_entries b

-- what is answered of them
abbrev pub ReadsTables : List ℕ → Result Tables ReadFault → Type 0
ReadsTables b (Ok t) = AreTables b t
ReadsTables b (Err (Why w)) = first (table_tests b) ≡ Some w
ReadsTables b (Err Depot) = Unit {0}
ReadsTables b (Err Memory) = Unit {0}
