-- What a map says of a WAVE file: its parts with their places and roles, its fields, its sizes, and where its sound stands.
use Rattle.std.specs.Prelude.{◌≡◌, ◌≤◌, ◌<◌, ℕ, ◌+◌, ◌^◌, ◌==◌, List, [], ◌∷◌, ◌++◌, length, map, take, drop, Bool, true, false, ◌&&◌, Option, Some, None, Result, if◌then◌else◌}
use Rattle.container_model.specs.Chunk.{Chunk, spell}
use Rattle.container_model.specs.Written.{slice}
use Rattle.container_model.specs.Walk.{along}
use Rattle.carrier_model.specs.Info.{own_size, is_padding, one_of}
use Rattle.part_tree.specs.Letters.{four}
use Rattle.part_tree.specs.Fields.{values}
use Rattle.part_tree.specs.Names.{whole_ids}
use Rattle.part_tree.specs.declared.names.Span.{Span}
use Rattle.part_tree.specs.declared.part.Part.{Part}
use Rattle.part_tree.specs.declared.part.Role.{Role}
use Rattle.part_tree.specs.declared.part.Role.TheVariants.{Opaque, Padding, Bext, Info, Whole, Essence}
use Rattle.part_tree.specs.declared.part.Role.TheVariants as role
use Rattle.part_tree.specs.declared.field.FieldName.{FieldName}
use Rattle.part_tree.specs.declared.why.ReadFault.{ReadFault}
use Rattle.container_model.specs.Ds64.{le32}
use Rattle.wave_model.specs.Wave.{is_big, Wave, wave_of, form_size, kind_of}
use Rattle.wave_model.specs.Fields.{is_bext, is_info, fields}
use Rattle.wave_model.specs.Edited.{block_size, formats}
use Rattle.wave_model.specs.New.{children_at}
use Rattle.wave_model.specs.Kind.{wave_kind}
use Rattle.wave_model.specs.Why.{is_data, why}
use Rattle.rf64_ds64.specs.declared.Ds64.{Ds64}
use Rattle.rf64_ds64.specs.Ds64.{IsDs64}
use Rattle.field_model.specs.KindReads.{ReadsKind}
use Rattle.field_model.specs.Lawful.{IsLawful}
use Rattle.wave_file.specs.declared.map.WaveMap.{WaveMap}

-- ---- parts

-- a chunk that is a field as a whole
abbrev pub is_field : Chunk → Bool
is_field c = own_size c.form && one_of whole_ids c.id

-- what a chunk of the form is to an edit
abbrev pub role_of : Chunk → Role
role_of c =
    if is_info c then Info
    else (if is_field c then Whole
    else (if is_bext c then Bext
    else (if is_data c then Essence
    else (if is_padding c then Padding
    else Opaque))))

-- A JUNK directly behind the form's type, which is at 12, is no padding.
abbrev pub at_front : ℕ → Role → Role
at_front at Padding = if at == 12 then Opaque else Padding
at_front at role = role

-- the part that a chunk at a place is
abbrev pub part_as : Role → ℕ → Chunk → Part
part_as role at c = record {
  id = four c.id;
  at = at;
  body = record { at = at + 8; len = length c.body };
  next = at + length (spell c);
  role = role;
}

abbrev pub part_at : ℕ → Chunk → List Part
part_at at c = part_as (at_front at (role_of c)) at c ∷ []

abbrev pub sizes_at : ℕ → Chunk → List Part
sizes_at at c = part_as role.Sizes at c ∷ []

-- `ds64`, where the file has it, and the other chunks of the form
abbrev pub all_parts : Wave → List Part
all_parts w = along sizes_at 12 w.ds64 ++ along part_at (children_at w) w.children

-- the body of `data`
abbrev pub sound_at : ℕ → Chunk → List Span
sound_at at c = if is_data c then record { at = at + 8; len = length c.body } ∷ [] else []

abbrev pub all_sounds : Wave → List Span
all_sounds w = along sound_at (children_at w) w.children

-- ---- what a map says of a file

-- the sizes that stand in `ds64`
abbrev pub HasSizes : List ℕ → Option Ds64 → Type 0
HasSizes b None = is_big (take 4 b) ≡ false
HasSizes b (Some ds) = (is_big (take 4 b) ≡ true) × IsDs64 (slice b 20 (le32 (drop 16 b))) ds

-- The file is supported, and the map tells its length, its kind, where its form ends, its sizes, its parts in order, the
-- values of each field, and the place of its sound and the size of a block.
pub record IsMapOf (b : List ℕ) (m : WaveMap) : Type 0 where
  pub supported : why b ≡ None
  pub len : m.len ≡ length b
  pub kind : m.kind ≡ kind_of b
  pub form_end : m.form_end ≡ 8 + form_size b
  pub sizes : HasSizes b m.ds64
  pub parts : m.parts.items ≡ all_parts (wave_of b)
  pub field_values : (name : FieldName) → values m.fields name ≡ fields b name
  pub sound : m.sound ∷ [] ≡ all_sounds (wave_of b)
  pub align : m.align ∷ [] ≡ map block_size (formats (wave_of b).children)

-- the map of the file, or the first refusal
abbrev pub ReadsWave : List ℕ → Result WaveMap ReadFault → Type 0
ReadsWave b r = ReadsKind wave_kind IsMapOf b r

-- ---- a map that is sound, whatever the file

-- the parts ascend from a place on without overlap, each body in its part, and end at or before a place
abbrev pub Ascend : ℕ → List Part → ℕ → Type 0
Ascend low [] end = low ≤ end
Ascend low (p ∷ ps) end = (low ≤ p.at) × (p.body.at ≡ p.at + 8) × (p.body.at + p.body.len ≤ p.next) × Ascend p.next ps end

pub record IsSound (m : WaveMap) : Type 0 where
  pub small : m.len < 2 ^ 63
  pub form_inside : m.form_end ≤ m.len
  pub parts_ascend : Ascend 12 m.parts.items m.form_end
  pub sound_inside : m.sound.at + m.sound.len ≤ m.form_end
  pub lawful : IsLawful (values m.fields)
