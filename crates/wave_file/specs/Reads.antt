-- What the reader's calls answer.
use Rattle.std.specs.Prelude.{◌≡◌, ◌≤◌, ℕ, ◌+◌, List, [], ◌∷◌, ◌++◌, length, map, take, nat_lt, Bool, true, false, ◌&&◌, codes, Option, Some, None, Result, if◌then◌else◌}
use Rattle.std.specs.Str.{bytes_eq}
use Rattle.std.specs.declared.result.Result.TheVariants.{Ok, Err}
use Rattle.container_model.specs.Chunk.{Chunk, Run}
use Rattle.container_model.specs.Items.{listed}
use Rattle.container_model.specs.Walk.{along}
use Rattle.carrier_model.specs.Info.{one_of}
use Rattle.part_tree.specs.declared.names.Span.{Span}
use Rattle.part_tree.specs.declared.part.Role.{Role}
use Rattle.part_tree.specs.declared.part.Role.TheVariants.{Opaque, Padding, Bext, Info, Whole, Essence}
use Rattle.part_tree.specs.declared.field.BextField.{BextField}
use Rattle.part_tree.specs.declared.field.FieldName.{FieldName}
use Rattle.part_tree.specs.declared.field.FieldName.TheVariants as name
use Rattle.part_tree.specs.declared.fields.Entry.{Entry}
use Rattle.part_tree.specs.declared.why.ReadFault.{ReadFault}
use Rattle.part_tree.specs.declared.why.ReadFault.TheVariants.{Why, Depot, Memory}
use Rattle.part_tree.specs.Fields.{values}
use Rattle.part_tree.specs.Names.{whole_ids, info_ids, bext_row}
use Rattle.field_model.specs.Bext.{range_of}
use Rattle.field_model.specs.Fields.{FieldMap, plain}
use Rattle.info_list.specs.Fields.{Grows}
use Rattle.wave_model.specs.Wave.{is_big, wave_of, form_size, form_run, sizes_of}
use Rattle.wave_model.specs.Fields.{body_in, fields, fields_of}
use Rattle.wave_model.specs.Edited.{block_size, formats, parts_of}
use Rattle.wave_model.specs.Why.{Seen, is_fmt, kind_tests, ds64_why, form_tests, chunk_tests, see, children_why, last_why, chunks_why}
use Rattle.container_model.specs.Tests.{first}
use Rattle.rf64_ds64.specs.declared.Ds64.{Ds64}
use Rattle.wave_file.specs.Lawful.{HasNoBext, HasBext, HasNoKeys, HasRanges}
use Rattle.wave_file.specs.Map.{part_at, sound_at, all_parts, all_sounds, Ascend, HasSizes}
use Rattle.wave_file.specs.Sized.{sizes_in, run_at, state_of}
use Rattle.wave_file.specs.declared.sizing.Sizing.{Sizing}
use Rattle.wave_file.specs.Tests.{essence_tests, late_tests}
use Rattle.wave_file.specs.declared.chunk.Reading.{Reading}
use Rattle.wave_file.specs.declared.chunk.Essence.{Essence as Sound}

-- ---- what a chunk is, by what is read of it

abbrev pub role_from : Bool → List ℕ → List ℕ → Role
role_from own id word =
    if own && (bytes_eq id (codes "LIST") && bytes_eq word (codes "INFO")) then Info
    else (if own && one_of whole_ids id then Whole
    else (if own && bytes_eq (codes "bext") id then Bext
    else (if bytes_eq (codes "data") id then Essence
    else (if own && bytes_eq id (codes "JUNK") then Padding
    else Opaque))))

abbrev pub carries : Role → Bool
carries Info = true
carries Whole = true
carries Bext = true
carries _ = false

abbrev pub is_ranges : Role → Bool
is_ranges Bext = true
is_ranges _ = false

-- ---- fields

-- the fields of the ranges of a body below a number
abbrev pub ranges_below : ℕ → List ℕ → FieldMap
ranges_below k body (name.Bext field) = if nat_lt (bext_row field) k then plain (range_of (bext_row field) body) ∷ [] else []
ranges_below k body _ = []

pub record AddsFields (c : Chunk) (at parts n : ℕ) (old new : List Entry) : Type 0 where
  pub count : n ≡ length (parts_of c)
  pub tests : first (late_tests at parts c) ≡ None
  pub grown : Grows old new (fields_of (c ∷ []))

abbrev pub ReadsFields : Chunk → ℕ → ℕ → List Entry → List Entry → Result ℕ ReadFault → Type 0
ReadsFields c at parts old new (Ok n) = AddsFields c at parts n old new
ReadsFields c at parts old new (Err (Why w)) = first (late_tests at parts c) ≡ Some w
ReadsFields c at parts old new (Err Depot) = Unit {0}
ReadsFields c at parts old new (Err Memory) = Unit {0}

-- no refusal of the file
abbrev pub IsNoWhy : ReadFault → Type 0
IsNoWhy (Why w) = ⊥
IsNoWhy Depot = Unit {0}
IsNoWhy Memory = Unit {0}

-- the ranges of `bext` come with it alone
abbrev pub KeepsRanges : Role → List Entry → List Entry → Type 0
KeepsRanges Bext old new = HasNoBext old → HasBext new
KeepsRanges _ old new = (field : BextField) → values new (name.Bext field) ≡ values old (name.Bext field)

-- the values of each key stay
abbrev pub KeepsKeys : List Entry → List Entry → Type 0
KeepsKeys old new = (key : List ℕ) → values new (name.Key key) ≡ values old (name.Key key)

-- ---- one chunk more

abbrev pub one_if : Bool → ℕ
one_if t = if t then 1 else 0

abbrev pub seen_of : Reading → Seen
seen_of r = record { parts = r.count; formats = length (listed r.align); sounds = length (listed r.sound); bexts = one_if r.has_bext }

-- the block size and the sound, with those of a chunk behind them
pub record AddsSound (c : Chunk) (at : ℕ) (old : Reading) (e : Sound) : Type 0 where
  pub tests : first (essence_tests (seen_of old) c) ≡ None
  pub formats : listed e.align ≡ listed old.align ++ map block_size (body_in is_fmt c)
  pub sounds : listed e.sound ≡ listed old.sound ++ sound_at at c

abbrev pub ReadsSound : Chunk → ℕ → Reading → Result Sound ReadFault → Type 0
ReadsSound c at old (Ok e) = AddsSound c at old e
ReadsSound c at old (Err (Why w)) = first (essence_tests (seen_of old) c) ≡ Some w
ReadsSound c at old (Err Depot) = Unit {0}
ReadsSound c at old (Err Memory) = Unit {0}

pub record Took (c : Chunk) (at : ℕ) (old new : Reading) : Type 0 where
  pub tests : first (chunk_tests at (seen_of old) c) ≡ None
  pub seen : seen_of new ≡ see (seen_of old) c
  pub parts : new.parts.items ≡ old.parts.items ++ part_at at c
  pub grown : Grows old.fields new.fields (fields_of (c ∷ []))
  pub formats : listed new.align ≡ listed old.align ++ map block_size (body_in is_fmt c)
  pub sounds : listed new.sound ≡ listed old.sound ++ sound_at at c

abbrev pub Takes : Chunk → ℕ → Reading → Reading → Result Unit ReadFault → Type 0
Takes c at old new (Ok _) = Took c at old new
Takes c at old new (Err (Why w)) = first (chunk_tests at (seen_of old) c) ≡ Some w
Takes c at old new (Err Depot) = Unit {0}
Takes c at old new (Err Memory) = Unit {0}

-- ---- what is read so far, whatever the file

abbrev pub Ends : ℕ → Option Span → Type 0
Ends at None = Unit {0}
Ends at (Some s) = s.at + s.len ≤ at

pub record IsPartial (r : Reading) (at : ℕ) : Type 0 where
  pub few : r.count ≤ 65536
  pub ascends : Ascend 12 r.parts.items at
  pub sound : Ends at r.sound
  pub ranges : HasRanges r.has_bext r.fields
  pub keys : HasNoKeys r.fields

-- ---- all chunks

-- What is read of the chunks up to a place, and what is left behind it, are the whole.
pub record IsLeft (b : List ℕ) (rest : Run) (at : ℕ) (r : Reading) : Type 0 where
  pub tests : chunks_why b ≡ children_why at (seen_of r) rest.chunks (last_why rest.stop rest.left)
  pub parts : r.parts.items ++ along part_at at rest.chunks ≡ all_parts (wave_of b)
  pub grown : (n : FieldName) → values r.fields n ++ fields_of rest.chunks n ≡ fields b n
  pub formats : listed r.align ++ map block_size (formats rest.chunks) ≡ map block_size (formats (wave_of b).children)
  pub sounds : listed r.sound ++ along sound_at at rest.chunks ≡ all_sounds (wave_of b)

-- the form lies whole in the file and ends here, and its chunks have these sizes
pub record IsForm (b : List ℕ) (ds : Option Ds64) (end : ℕ) : Type 0 where
  pub tests : first (kind_tests b) ≡ None
  pub ds64 : ds64_why (is_big (take 4 b)) b ≡ None
  pub form : first (form_tests b) ≡ None
  pub has : HasSizes b ds
  pub state : sizes_of b ≡ sizes_in ds
  pub size : end ≡ 8 + form_size b
  pub run : form_run b ≡ run_at (sizes_in ds) b 12 end

-- nothing was read yet
pub record IsFresh (r : Reading) (z : Sizing) : Type 0 where
  pub count : r.count ≡ 0
  pub parts : r.parts.items ≡ []
  pub none : r.fields ≡ []
  pub align : r.align ≡ None
  pub sound : r.sound ≡ None
  pub has_bext : r.has_bext ≡ false
  pub wides : z.wides.items ≡ []

-- what is answered once `ds64` is passed
abbrev pub Begins : List ℕ → Reading → ℕ → ℕ → Sizing → Result Unit ReadFault → Type 0
Begins b r at end z (Ok _) = IsLeft b (run_at (state_of z) b at end) at r
Begins b r at end z (Err (Why w)) = chunks_why b ≡ Some w
Begins b r at end z (Err Depot) = Unit {0}
Begins b r at end z (Err Memory) = Unit {0}
