-- What is answered of the entries of index chunks and of `idx1`.
use Rattle.std.specs.Prelude.{◌≡◌, ℕ, ◌-◌, List, [], ◌∷◌, true, not, Some, None, Result, if◌then◌else◌}
use Rattle.std.specs.declared.result.Result.TheVariants.{Ok, Err}
use Rattle.std.specs.List.{flat_map, AllByRecursion, sum_by}
use Rattle.part_tree.specs.declared.names.Span.{Span}
use Rattle.part_tree.specs.declared.index.IndexFault.{IndexFault}
use Rattle.part_tree.specs.declared.index.IndexFault.TheVariants as entry
use Rattle.part_tree.specs.declared.why.Why.TheVariants.{IndexBase}
use Rattle.part_tree.specs.declared.why.ReadFault.{ReadFault}
use Rattle.part_tree.specs.declared.why.ReadFault.TheVariants.{Why, Depot, Memory}
use Rattle.container_model.specs.Tables.{Table, named, count_rows}
use Rattle.container_model.specs.Tests.{first}
use Rattle.avi_index.specs.Rows.{base_of, old_rows}
use Rattle.avi_index.specs.Found.{counted, is_based}
use Rattle.avi_index.specs.Checks.{old_tests, told_base}
use Rattle.opendml_index.specs.Index.{entries, index_base}
use Rattle.opendml_index.specs.Checks.{IsChunk, counts, entries_tests}
use Rattle.avi_model.specs.Why.{Test, entry_why, refusals}
use Rattle.avi_file.specs.declared.index.IndexChunk.{IndexChunk}
use Rattle.avi_file.specs.declared.map.OldIndex.{OldIndex}

-- why the file isn't read, for a fault of an entry of the index at a place
abbrev pub fault_of : ℕ → IndexFault → ReadFault
fault_of at entry.NoBase = Why (entry_why at entry.NoBase)
fault_of at (entry.Astray k) = Why (entry_why at (entry.Astray k))
fault_of at (entry.Overlap k) = Why (entry_why at (entry.Overlap k))
fault_of at entry.Depot = Depot

-- what is answered of some tests: a count, or the first that holds. No memory is taken.
abbrev pub Counts : List Test → ℕ → Result ℕ ReadFault → Type 0
Counts tests n (Ok m) = (first tests ≡ None) × (m ≡ n)
Counts tests n (Err (Why w)) = first tests ≡ Some w
Counts tests n (Err Depot) = Unit {0}
Counts tests n (Err Memory) = ⊥

-- ---- standard indexes

-- the place of an index chunk's header
abbrev pub head_at : IndexChunk → ℕ
head_at x = x.body.at - 8

-- its body
abbrev pub body_in : List ℕ → IndexChunk → List ℕ
body_in b x = (named b (head_at x)).body

-- a standard index stands whole where it is told
abbrev pub IsWhole : List ℕ → IndexChunk → Type 0
IsWhole b x = x.standard ≡ true → IsChunk b (head_at x)

abbrev pub AreWhole : List ℕ → List IndexChunk → Type 0
AreWhole b xs = AllByRecursion (IsWhole b) xs

-- the tests of its entries, from 0
abbrev pub chunk_tests : List Span → List Span → List ℕ → IndexChunk → List Test
chunk_tests movis ss b x =
    if x.standard then refusals (head_at x) (entries_tests movis ss (index_base (body_in b x)) 0 (entries (body_in b x))) else []

-- how many of them are counted
abbrev pub chunk_count : List ℕ → IndexChunk → ℕ
chunk_count b x = if x.standard then count_rows counts (entries (body_in b x)) else 0

-- what is answered of index chunks
abbrev pub CountsChunks : List Span → List Span → List ℕ → List IndexChunk → Result ℕ ReadFault → Type 0
CountsChunks movis ss b xs result = Counts (flat_map (chunk_tests movis ss b) xs) (sum_by (chunk_count b) xs) result

-- ---- idx1

-- the tests of a table: its base, and its entries from 0
abbrev pub idx1_tests : List ℕ → List Span → Span → Table → List Test
idx1_tests b ss movi t =
    (not (is_based b ss movi (old_rows t.body)), IndexBase)
    ∷ refusals (t.at - 8) (old_tests (base_of movi.at (old_rows t.body)) movi ss 0 (old_rows t.body))

-- the base of its entries, and how many are counted
pub record AreEntries (ss : List Span) (movi : Span) (t : Table) (old : OldIndex) : Type 0 where
  pub base : old.base ≡ told_base movi.at (base_of movi.at (old_rows t.body))
  pub counted_are : old.counted ≡ count_rows (counted (base_of movi.at (old_rows t.body)) movi ss) (old_rows t.body)

-- what is answered of it
abbrev pub ReadsEntries : List ℕ → List Span → Span → Table → Result OldIndex ReadFault → Type 0
ReadsEntries b ss movi t (Ok old) = (first (idx1_tests b ss movi t) ≡ None) × AreEntries ss movi t old
ReadsEntries b ss movi t (Err (Why w)) = first (idx1_tests b ss movi t) ≡ Some w
ReadsEntries b ss movi t (Err Depot) = Unit {0}
ReadsEntries b ss movi t (Err Memory) = ⊥
