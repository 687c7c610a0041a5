-- What is answered of the entries of a standard index: how many are counted, or the first that is refused.
use Rattle.std.specs.Prelude.{◌≡◌, ◌≤◌, ◌<◌, ℕ, suc, ◌+◌, ◌*◌, ◌==◌, List, [], ◌∷◌, ◌++◌, length, drop, Bool, ◌&&◌, not, Option, Some, None, Result}
use Rattle.std.specs.declared.result.Result.TheVariants.{Ok, Err}
use Rattle.part_tree.specs.declared.names.Span.{Span}
use Rattle.part_tree.specs.declared.index.IndexFault.{IndexFault}
use Rattle.part_tree.specs.declared.index.IndexFault.TheVariants.{NoBase, Astray, Overlap, Depot}
use Rattle.part_tree.specs.Ranges.{in_one, clear_of}
use Rattle.container_model.specs.Written.{rows}
use Rattle.container_model.specs.Tests.{first}
use Rattle.container_model.specs.Tables.{named, size_at, count_rows}
use Rattle.opendml_index.specs.Index.{entries, index_base, entry_offset, entry_length}
use Rattle.opendml_index.specs.Kinds.{SoundIndex, is_standard_kind, second_lies}
use Rattle.part_tree.specs.declared.table.IndexHead.{IndexHead}
use Rattle.opendml_index.specs.declared.check.Entries.{Entries}
use Rattle.opendml_index.specs.Entries.{width_by}

-- a range ends at a place or before
abbrev pub EndInside : ℕ → Span → Type 0
EndInside end s = s.at + s.len ≤ end

-- a standard index stands whole at a place
pub record IsChunk (b : List ℕ) (at : ℕ) : Type 0 where
  pub whole : at + 8 + size_at b at ≤ length b
  pub sound : SoundIndex is_standard_kind (named b at).body

-- an entry that is counted
abbrev pub counts : List ℕ → Bool
counts r = not (entry_length r == 0)

-- an entry's bytes lie inside one movi, and its second place inside the entry
abbrev pub entry_lies : List Span → ℕ → List ℕ → Bool
entry_lies movis base r = in_one movis (base + entry_offset r) (entry_length r) && second_lies r

-- the tests of an entry, from 0: it doesn't lie there, or it has bytes in an index chunk
abbrev pub entry_tests : List Span → List Span → ℕ → ℕ → List ℕ → List (Bool × IndexFault)
entry_tests movis ss base k r =
    (not (entry_length r == 0) && not (entry_lies movis base r), Astray k) ∷ ((not (entry_length r == 0) && not (clear_of ss (base + entry_offset r) (entry_length r)), Overlap k) ∷ [])

-- the tests of the entries from a number on
abbrev pub entries_tests : List Span → List Span → ℕ → ℕ → List (List ℕ) → List (Bool × IndexFault)
entries_tests movis ss base k [] = []
entries_tests movis ss base k (r ∷ rs) = entry_tests movis ss base k r ++ entries_tests movis ss base (suc k) rs

-- what is answered of one entry: whether it is counted
abbrev pub JudgesEntry : List Span → List Span → ℕ → ℕ → List ℕ → Result Bool IndexFault → Type 0
JudgesEntry movis ss base k r (Ok counted) = (first (entry_tests movis ss base k r) ≡ None) × (counted ≡ counts r)
JudgesEntry movis ss base k r (Err fault) = first (entry_tests movis ss base k r) ≡ Some fault

-- what is answered of a standard index: how many entries are counted, or the first fault
abbrev pub JudgesEntries : List Span → List Span → ℕ → List (List ℕ) → Result ℕ IndexFault → Type 0
JudgesEntries movis ss base rs (Ok n) = (first (entries_tests movis ss base 0 rs) ≡ None) × (n ≡ count_rows counts rs)
JudgesEntries movis ss base rs (Err NoBase) = ⊥
JudgesEntries movis ss base rs (Err (Astray k)) = first (entries_tests movis ss base 0 rs) ≡ Some (Astray k)
JudgesEntries movis ss base rs (Err (Overlap k)) = first (entries_tests movis ss base 0 rs) ≡ Some (Overlap k)
JudgesEntries movis ss base rs (Err Depot) = Unit {0}

-- ---- where the entries stand

-- the entries lie in the file
abbrev pub IsTable : ℕ → Option Entries → Type 0
IsTable len None = Unit {0}
IsTable len (Some t) = (t.end ≤ len) × (t.at + width_by t.two_fields * t.used ≡ t.end)

-- these are the entries of the standard index at a place
abbrev pub TableAt : List ℕ → ℕ → Option Entries → Type 0
TableAt b at None = ⊥
TableAt b at (Some t) = (rows (width_by t.two_fields) t.used (drop t.at b) ≡ entries (named b at).body) × (t.base ≡ index_base (named b at).body)

-- the entries that a head tells, if they lie in a file of this length
abbrev pub EntriesBy : IndexHead → ℕ → ℕ → Option Entries → Type 0
EntriesBy h at len None = len < at + width_by h.two_fields * h.used
EntriesBy h at len (Some t) =
    (t.at ≡ at) × (t.end ≡ at + width_by h.two_fields * h.used) × (t.end ≤ len) × (t.two_fields ≡ h.two_fields) × (t.used ≡ h.used) × (t.base ≡ h.base)
