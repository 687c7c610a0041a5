-- Which AVI files are supported: every list that is opened is whole, and every index entry names bytes of the essence
-- (this project's own, over RIFF and OpenDML 1.02).
use Rattle.std.specs.Prelude.{◌≡◌, ℕ, ◌+◌, ◌<◌, ◌≤◌, ◌==◌, nat_le, nat_lt, List, [], ◌∷◌, ◌++◌, length, map, take, drop, Bool, true, false, ◌&&◌, ◌||◌, codes, if◌then◌else◌}
use Rattle.std.specs.Str.{bytes_eq}
use Rattle.std.specs.List.{AllByRecursion}
use Rattle.part_tree.specs.declared.names.Span.{Span}
use Rattle.part_tree.specs.Ranges.{within, in_one}
use Rattle.container_model.specs.Chunk.{ends}
use Rattle.container_model.specs.Stood.{Stood, only}
use Rattle.container_model.specs.Tables.{Table, named, size_at}
use Rattle.carrier_model.specs.Info.{is_type, list_run}
use Rattle.carrier_model.specs.Names.{is_name}
use Rattle.avi_index.specs.Rows.{row_offset, row_length, Base, from_start, from_movi, old_rows}
use Rattle.avi_index.specs.Found.{is_based}
use Rattle.opendml_index.specs.Index.{is_super, entries, super_places, entry_offset, entry_length, index_base}
use Rattle.opendml_index.specs.Kinds.{SoundIndex, is_index_kind, is_standard_kind}
use Rattle.opendml_index.specs.Checks.{entry_lies as lies_in}
use Rattle.avi_model.specs.Avi.{forms, Avi, avi_of, kids, top, others_at, hdrls, strls, is_movi, essence, body_span, first_movi}
use Rattle.avi_model.specs.Index.{streams, indexes, spans, base, olds, is_head, misses}

-- ---- chunks

-- the first bytes say RIFF and AVI
abbrev pub begins : List ℕ → Bool
begins b = nat_le 12 (length b) && (bytes_eq (take 4 b) (codes "RIFF") && bytes_eq (take 4 (drop 8 b)) (codes "AVI "))

-- the lists of the first form that hold fields
abbrev pub infos : Avi → List Stood
infos a = only (is_type (codes "INFO")) (top a)

-- the movi lists of the first form
abbrev pub movis : Avi → List Stood
movis a = only is_movi (top a)

-- a list or a form whose chunks end with it
abbrev pub ListEnds : Stood → Type 0
ListEnds x = (list_run x.chunk).stop ≡ ends

-- the lists of the first form that are opened
abbrev pub opened : Avi → List Stood
opened a = hdrls a ++ (strls a ++ infos a)

-- how many chunks these lists have
abbrev pub count_kids : List Stood → ℕ
count_kids [] = 0
count_kids (x ∷ xs) = length (list_run x.chunk).chunks + count_kids xs

-- the chunks of each form and of each list that is opened
abbrev pub parts : Avi → ℕ
parts a = length a.children + count_kids (opened a) + count_kids (others_at a)

-- 65,536 parts, or index chunks
abbrev pub part_limit : ℕ
part_limit = 65536

-- 16 MiB
abbrev pub list_limit : ℕ
list_limit = 16777216

-- ---- index chunks (OpenDML AVI File Format Extensions 1.02, AVISUPERINDEX and AVISTDINDEX)

-- the bodies of the movi lists
abbrev pub movi_spans : Avi → List Span
movi_spans a = map body_span (essence a)

-- a place that a super entry names: a standard index stands there, whole inside one movi body
pub record SoundPlace (b : List ℕ) (p : ℕ) : Type 0 where
  pub lies : in_one (movi_spans (avi_of b)) p (8 + size_at b p) ≡ true
  pub sound : SoundIndex is_standard_kind (named b p).body

-- ---- index chunks by place

-- an index chunk put among others by place
abbrev pub put_by_place : Table → List Table → List Table
put_by_place t [] = t ∷ []
put_by_place t (u ∷ us) = if nat_lt t.at u.at then t ∷ (u ∷ us) else u ∷ put_by_place t us

-- the index chunks by place
abbrev pub by_place : List Table → List Table
by_place [] = []
by_place (t ∷ ts) = put_by_place t (by_place ts)

-- no index chunk begins before the one before it ends
abbrev pub Apart : ℕ → List Table → Type 0
Apart from [] = Unit {0}
Apart from (t ∷ ts) = (nat_lt t.at (from + 8) ≡ false) × Apart (t.at + length t.body) ts

-- ---- entries

-- an entry's bytes lie inside one movi, and its second place inside the entry
abbrev pub entry_lies : Avi → ℕ → List ℕ → Bool
entry_lies a base r = lies_in (movi_spans a) base r

-- a standard entry that is counted
pub record SoundEntry (b : List ℕ) (base : ℕ) (r : List ℕ) : Type 0 where
  pub lies : entry_lies (avi_of b) base r ≡ true
  pub clear : misses (indexes b) (base + entry_offset r) (entry_length r) ≡ true

-- the counted entries of a standard index
abbrev pub SoundEntries : List ℕ → Table → Type 0
SoundEntries b t = AllByRecursion (λ r. (entry_length r == 0) ≡ false → SoundEntry b (index_base t.body) r) (entries t.body)

-- ---- idx1

-- an entry from the file's start that has bytes lies inside the first movi, and its bytes in no index chunk
pub record SoundRow (movi : Span) (ts : List Table) (r : List ℕ) : Type 0 where
  pub lies : within movi (row_offset r) (8 + row_length r) ≡ true
  pub clear : (is_head ts (row_offset r) || misses ts (row_offset r + 8) (row_length r)) ≡ true

-- the entries of idx1, where they count from the start
abbrev pub SoundRows : Base → Span → List Table → Table → Type 0
SoundRows from_start movi ts t = AllByRecursion (λ r. (row_length r == 0) ≡ false → SoundRow movi ts r) (old_rows t.body)
SoundRows from_movi movi ts t = Unit {0}

-- ---- a file

-- what a file needs to be supported
pub record Supported (b : List ℕ) : Type 0 where
  pub is_avi : begins b ≡ true
  pub forms_end : (forms b).stop ≡ ends
  pub forms_long : AllByRecursion (λ c. 4 ≤ length c.body) (forms b).chunks
  pub forms_read : AllByRecursion (λ c. (list_run c).stop ≡ ends) (forms b).chunks
  pub lists_end : AllByRecursion ListEnds (opened (avi_of b))
  pub few_parts : parts (avi_of b) ≤ part_limit
  pub lists_small : AllByRecursion (λ x. length x.chunk.body ≤ list_limit) (infos (avi_of b))
  pub some_hdrl : 0 < length (hdrls (avi_of b))
  pub some_movi : 0 < length (movis (avi_of b))
  pub streams_sound : AllByRecursion (λ t. SoundIndex is_index_kind t.body) (streams b)
  pub places_sound : AllByRecursion (λ t. is_super t.body ≡ true → AllByRecursion (SoundPlace b) (super_places t.body)) (streams b)
  pub few_indexes : length (indexes b) ≤ part_limit
  pub indexes_apart : Apart 0 (by_place (indexes b))
  pub entries_sound : AllByRecursion (λ t. is_super t.body ≡ false → SoundEntries b t) (indexes b)
  pub based : AllByRecursion (λ t. is_based b (spans (indexes b)) (first_movi (avi_of b)) (old_rows t.body) ≡ true) (olds b)
  pub rows_sound : AllByRecursion (SoundRows (base b) (first_movi (avi_of b)) (indexes b)) (olds b)

-- ---- names

-- the names in a stream's list are small
abbrev pub NamesSmall : Stood → Type 0
NamesSmall x = AllByRecursion (λ (c : Stood). is_name c.chunk ≡ true → length c.chunk.body ≤ list_limit) (kids x)

-- what a file needs to be supported where the names of streams are carriers too
pub record SupportedNames (b : List ℕ) : Type 0 where
  pub file : Supported b
  pub names_small : AllByRecursion NamesSmall (strls (avi_of b))
