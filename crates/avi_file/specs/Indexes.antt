-- The index chunks as they are read: heads, places that super indexes name, and all chunks.
use Rattle.std.specs.Prelude.{◌≡◌, ◌<◌, ◌≤◌, ℕ, ◌+◌, ◌-◌, ◌^◌, List, [], ◌∷◌, ◌++◌, length, map, take, Bool, true, not, nat_lt, Some, None, Result, Vec, if◌then◌else◌}
use Rattle.std.specs.Global.{Global}
use Rattle.std.specs.declared.result.Result.TheVariants.{Ok, Err}
use Rattle.std.specs.List.{flat_map, AllByRecursion}
use Rattle.part_tree.specs.declared.names.Span.{Span}
use Rattle.part_tree.specs.Ranges.{in_one}
use Rattle.part_tree.specs.declared.table.IndexHead.{IndexHead}
use Rattle.part_tree.specs.declared.why.Why.TheVariants.{IndexPlace, TooManyParts}
use Rattle.part_tree.specs.declared.why.ReadFault.{ReadFault}
use Rattle.part_tree.specs.declared.why.ReadFault.TheVariants.{Why, Depot, Memory}
use Rattle.container_model.specs.Written.{slice}
use Rattle.container_model.specs.Tables.{Table, named, size_at}
use Rattle.container_model.specs.Tests.{first}
use Rattle.opendml_index.specs.Index.{entries, is_super, used_place}
use Rattle.opendml_index.specs.Kinds.{is_index_kind, is_standard_kind}
use Rattle.opendml_index.specs.Heads.{IsHead}
use Rattle.avi_model.specs.Index.{table_span}
use Rattle.avi_model.specs.Why.{Test, sound_tests}
use Rattle.avi_file.specs.declared.index.IndexChunk.{IndexChunk}
use Rattle.avi_file.specs.declared.index.Indexes.{Indexes}

-- ---- one chunk

-- how an index chunk is kept
abbrev pub kept_of : Table → IndexChunk
kept_of t = record { body = table_span t; standard = not (is_super t.body) }

-- what is answered of the body of an index chunk that is to be of a kind
abbrev pub ReadsIndex : (List ℕ → Bool) → ℕ → List ℕ → Result IndexHead ReadFault → Type 0
ReadsIndex of_kind at body (Ok h) = (first (sound_tests of_kind at body) ≡ None) × IsHead body h
ReadsIndex of_kind at body (Err (Why w)) = first (sound_tests of_kind at body) ≡ Some w
ReadsIndex of_kind at body (Err Depot) = Unit {0}
ReadsIndex of_kind at body (Err Memory) = Unit {0}

-- ---- places

-- the test of a place: the chunk there lies in the body of one of the movi lists
abbrev pub place_test : List Span → List ℕ → ℕ → Test
place_test movis b p = (not (in_one movis p (8 + size_at b p)), IndexPlace p)

-- the tests of a place that a super entry names
abbrev pub named_tests : List Span → List ℕ → ℕ → List Test
named_tests movis b p = place_test movis b p ∷ sound_tests is_standard_kind p (named b p).body

-- the body of the chunk at a place
abbrev pub ReadsPlace : List Span → List ℕ → ℕ → Result Span ReadFault → Type 0
ReadsPlace movis b p (Ok body) = (in_one movis p (8 + size_at b p) ≡ true) × (body ≡ table_span (named b p))
ReadsPlace movis b p (Err (Why w)) = first (place_test movis b p ∷ []) ≡ Some w
ReadsPlace movis b p (Err Depot) = Unit {0}
ReadsPlace movis b p (Err Memory) = Unit {0}

-- ---- what is kept

-- one more than there may be
unfoldable pub kept_limit : ℕ
kept_limit = 65537

-- of all chunks the first ones are kept, with some more behind them
abbrev pub KeepsFirst : List IndexChunk → List IndexChunk → List IndexChunk → Type 0
KeepsFirst more old new = (all : List IndexChunk) → old ≡ take kept_limit all → new ≡ take kept_limit (all ++ more)

-- what is answered of places that are named: their chunks are kept, or the first test that holds
abbrev pub ReadsNamed : List Test → List IndexChunk → List IndexChunk → List IndexChunk → Result Unit ReadFault → Type 0
ReadsNamed tests more old new (Ok u) = (first tests ≡ None) × KeepsFirst more old new
ReadsNamed tests more old new (Err (Why w)) = first tests ≡ Some w
ReadsNamed tests more old new (Err Depot) = Unit {0}
ReadsNamed tests more old new (Err Memory) = Unit {0}

-- the chunks at places
abbrev pub kept_at : List ℕ → List ℕ → List IndexChunk
kept_at b ps = map (λ p. kept_of (named b p)) ps

-- the tests of some places
abbrev pub places_tests : List Span → List ℕ → List ℕ → List Test
places_tests movis b ps = flat_map (named_tests movis b) ps

-- the places that super entries name: their tests and their chunks
abbrev pub rows_tests : List Span → List ℕ → List (List ℕ) → List Test
rows_tests movis b rs = places_tests movis b (flat_map used_place rs)

abbrev pub kept_rows : List ℕ → List (List ℕ) → List IndexChunk
kept_rows b rs = kept_at b (flat_map used_place rs)

-- ---- a stream's index chunk

-- the table at a range
abbrev pub table_at : List ℕ → Span → Table
table_at b s = record { at = s.at; body = slice b s.at s.len }

-- the tests of a stream's index chunk, and of the chunks that it names
abbrev pub index_tests : List Span → List ℕ → Table → List Test
index_tests movis b t = sound_tests is_index_kind (t.at - 8) t.body ++ (if is_super t.body then rows_tests movis b (entries t.body) else [])

-- the chunks that it names
abbrev pub kept_in : List ℕ → Table → List IndexChunk
kept_in b t = if is_super t.body then kept_rows b (entries t.body) else []

-- what is answered of index chunks of streams: they are kept, and the chunks that they name, or the first test that holds
abbrev pub ReadsStreams : List Test → List IndexChunk → List IndexChunk → Indexes → Indexes → Result Unit ReadFault → Type 0
ReadsStreams tests streams more old new (Ok u) = (first tests ≡ None) × (new.streams.items ≡ old.streams.items ++ streams) × KeepsFirst more old.named.items new.named.items
ReadsStreams tests streams more old new (Err (Why w)) = first tests ≡ Some w
ReadsStreams tests streams more old new (Err Depot) = Unit {0}
ReadsStreams tests streams more old new (Err Memory) = Unit {0}

-- the tests of all, then that of how many there are
abbrev pub all_tests : List Span → List ℕ → List Span → List Test
all_tests movis b ss = flat_map (λ s. index_tests movis b (table_at b s)) ss

-- all chunks: those of the streams, and those that are named
abbrev pub streams_kept : List ℕ → List Span → List IndexChunk
streams_kept b ss = map (λ s. kept_of (table_at b s)) ss

abbrev pub named_kept : List ℕ → List Span → List IndexChunk
named_kept b ss = flat_map (λ s. kept_in b (table_at b s)) ss

abbrev pub all_kept : List ℕ → List Span → List IndexChunk
all_kept b ss = streams_kept b ss ++ named_kept b ss

-- what is answered of the index chunks of all streams
abbrev pub ReadsIndexes : List Span → List ℕ → List Span → Result (Vec IndexChunk Global) ReadFault → Type 0
ReadsIndexes movis b ss (Ok chunks) = (first (all_tests movis b ss ++ (nat_lt 65536 (length (all_kept b ss)), TooManyParts) ∷ []) ≡ None) × (chunks.items ≡ all_kept b ss)
ReadsIndexes movis b ss (Err (Why w)) = first (all_tests movis b ss ++ (nat_lt 65536 (length (all_kept b ss)), TooManyParts) ∷ []) ≡ Some w
ReadsIndexes movis b ss (Err Depot) = Unit {0}
ReadsIndexes movis b ss (Err Memory) = Unit {0}

-- ---- where chunks stand, whatever the file

-- a chunk has a header before its body, and ends below 2^63
abbrev pub IsSoundChunk : IndexChunk → Type 0
IsSoundChunk x = (8 ≤ x.body.at) × (x.body.at + x.body.len < 2 ^ 63)

abbrev pub AreSound : List IndexChunk → Type 0
AreSound xs = AllByRecursion IsSoundChunk xs

-- where all were sound, they are
abbrev pub KeepsSound : List IndexChunk → List IndexChunk → Type 0
KeepsSound old new = AreSound old → AreSound new
