-- What is read of the form at the front of a file.
use Rattle.std.specs.Prelude.{◌≡◌, ◌≤◌, ℕ, ◌+◌, ◌==◌, ◌||◌, List, [], ◌∷◌, length, map, take, drop, nat_lt, Bool, true, false, Option, Some, None, Result, if◌then◌else◌}
use Rattle.std.specs.declared.result.Result.TheVariants.{Ok, Err}
use Rattle.part_tree.specs.declared.field.FieldName.{FieldName}
use Rattle.part_tree.specs.declared.names.Kind.{Kind}
use Rattle.part_tree.specs.declared.names.Kind.TheVariants.{Rf64, Bw64, Wave as WaveKind}
use Rattle.part_tree.specs.Fields.{values}
use Rattle.part_tree.specs.declared.why.ReadFault.{ReadFault}
use Rattle.part_tree.specs.declared.why.ReadFault.TheVariants.{Why, Depot, Memory}
use Rattle.rf64_ds64.specs.declared.Ds64.{Ds64}
use Rattle.container_model.specs.Ds64.{le32}
use Rattle.wave_model.specs.Wave.{is_big, form_size, kind_of, sizes_of, wave_of}
use Rattle.wave_model.specs.Fields.{fields}
use Rattle.wave_model.specs.Edited.{block_size, formats}
use Rattle.wave_model.specs.Why.{kind_tests, ds64_tests, ds64_why, chunks_why}
use Rattle.container_model.specs.Tests.{first}
use Rattle.field_model.specs.Lawful.{IsLawful}
use Rattle.wave_file.specs.Map.{Ascend, HasSizes, all_parts, all_sounds}
use Rattle.wave_file.specs.declared.form.AllRead.{AllRead}
use Rattle.wave_file.specs.Sized.{sizes_in}
use Rattle.wave_file.specs.declared.form.Front.{Front}

-- the kind is that of a WAVE file, and this is its form's size
pub record IsFront (b : List ℕ) (f : Front) : Type 0 where
  pub tests : first (kind_tests b) ≡ None
  pub big : f.big ≡ is_big (take 4 b)
  pub kind : f.kind ≡ kind_of b
  pub field : f.field ≡ le32 (drop 4 b)
  pub long : 12 ≤ length b

abbrev pub ReadsFront : List ℕ → Result Front ReadFault → Type 0
ReadsFront b (Ok f) = IsFront b f
ReadsFront b (Err (Why w)) = first (kind_tests b) ≡ Some w
ReadsFront b (Err Depot) = Unit {0}
ReadsFront b (Err Memory) = Unit {0}

-- the size of a form by its own field and by `ds64`
abbrev pub size_by : ℕ → Option Ds64 → ℕ
size_by field None = field
size_by field (Some ds) = if field == 4294967295 then ds.riff else field

-- these are the sizes of the form
pub record HasForm (b : List ℕ) (ds : Option Ds64) : Type 0 where
  pub has : HasSizes b ds
  pub state : sizes_of b ≡ sizes_in ds
  pub size : (field : ℕ) → field ≡ le32 (drop 4 b) → size_by field ds ≡ form_size b

abbrev pub ReadsSizes : List ℕ → Result Ds64 ReadFault → Type 0
ReadsSizes b (Ok ds) = (first (ds64_tests b) ≡ None) × (is_big (take 4 b) ≡ true → HasForm b (Some ds))
ReadsSizes b (Err (Why w)) = first (ds64_tests b) ≡ Some w
ReadsSizes b (Err Depot) = Unit {0}
ReadsSizes b (Err Memory) = Unit {0}

-- the sizes of a form that is big, or isn't
abbrev pub ReadsForm : List ℕ → Bool → Result (Option Ds64) ReadFault → Type 0
ReadsForm b big (Ok ds) = (ds64_why big b ≡ None) × (big ≡ is_big (take 4 b) → HasForm b ds)
ReadsForm b big (Err (Why w)) = ds64_why big b ≡ Some w
ReadsForm b big (Err Depot) = Unit {0}
ReadsForm b big (Err Memory) = Unit {0}

abbrev pub ends_badly : ℕ → ℕ → Bool
ends_badly size len = nat_lt size 4 || nat_lt len (8 + size)

abbrev pub ReadsEnd : ℕ → Option Ds64 → ℕ → Option ℕ → Type 0
ReadsEnd field ds len (Some end) = (ends_badly (size_by field ds) len ≡ false) × (end ≡ 8 + size_by field ds) × (12 ≤ end) × (end ≤ len)
ReadsEnd field ds len None = ends_badly (size_by field ds) len ≡ true

-- the kind of a form, by whether its sizes stand in `ds64`, and whether it is BW64
abbrev pub kind_from : Bool → Bool → Kind
kind_from true bw64 = if bw64 then Bw64 else Rf64
kind_from false bw64 = WaveKind

-- ---- all chunks

-- what is answered once all chunks are read
pub record IsRead (b : List ℕ) (r : AllRead) : Type 0 where
  pub tests : chunks_why b ≡ None
  pub parts : r.parts.items ≡ all_parts (wave_of b)
  pub grown : (n : FieldName) → values r.fields n ≡ fields b n
  pub formats : r.align ∷ [] ≡ map block_size (formats (wave_of b).children)
  pub sounds : r.sound ∷ [] ≡ all_sounds (wave_of b)

abbrev pub ReadsChunks : List ℕ → Result AllRead ReadFault → Type 0
ReadsChunks b (Ok r) = IsRead b r
ReadsChunks b (Err (Why w)) = chunks_why b ≡ Some w
ReadsChunks b (Err Depot) = Unit {0}
ReadsChunks b (Err Memory) = Unit {0}

-- the same on every depot
pub record IsSoundPart (r : AllRead) (end : ℕ) : Type 0 where
  pub ascends : Ascend 12 r.parts.items end
  pub sound : r.sound.at + r.sound.len ≤ end
  pub lawful : IsLawful (values r.fields)
