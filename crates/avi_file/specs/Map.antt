-- What a map says of an AVI file: its forms, its parts with their places and roles, its fields, and where its essence, its indexes
-- and its streams stand.
use Rattle.std.specs.Prelude.{◌≡◌, ◌<◌, ◌≤◌, ℕ, ◌+◌, ◌^◌, List, [], ◌∷◌, length, map, Option, Some, None, Result}
use Rattle.std.specs.List.{AllByRecursion}
use Rattle.part_tree.specs.Fields.{values}
use Rattle.part_tree.specs.Ranges.{Ascends}
use Rattle.part_tree.specs.declared.field.FieldName.{FieldName}
use Rattle.part_tree.specs.declared.names.Span.{Span}
use Rattle.std.specs.declared.result.Result.TheVariants.{Ok, Err}
use Rattle.part_tree.specs.declared.fields.Entry.{Entry}
use Rattle.part_tree.specs.declared.why.ReadFault.{ReadFault}
use Rattle.part_tree.specs.declared.why.ReadFault.TheVariants.{Why, Depot, Memory}
use Rattle.field_model.specs.KindReads.{ReadsKind}
use Rattle.field_model.specs.Lawful.{IsLawful}
use Rattle.avi_index.specs.Checks.{told_base}
use Rattle.avi_index.specs.Found.{counted}
use Rattle.opendml_index.specs.Checks.{EndInside}
use Rattle.avi_model.specs.Avi.{avi_of, first_movi, strls}
use Rattle.avi_model.specs.After.{all_fields}
use Rattle.avi_model.specs.Index.{base, indexes, olds, spans, table_span}
use Rattle.avi_model.specs.Kind.{avi_kind}
use Rattle.avi_model.specs.Map.{count_olds, counted_entries, essence_spans, form_spans, parts_of, standards, supers}
use Rattle.avi_model.specs.Why.{why_named}
use Rattle.avi_file.specs.Walk.{ArePlaced, behind_type}
use Rattle.avi_file.specs.declared.map.OldIndex.{OldIndex}
use Rattle.avi_file.specs.declared.map.AviMap.{AviMap}

-- ---- what a map says of a file

-- how many entries of `idx1` are counted
abbrev pub old_entries : List ℕ → ℕ
old_entries b = count_olds (counted (base b) (first_movi (avi_of b)) (spans (indexes b))) (olds b)

-- its body, its base, and how many of its entries are counted
pub record IsOld (b : List ℕ) (old : OldIndex) : Type 0 where
  pub body : old.body ∷ [] ≡ map table_span (olds b)
  pub base_is : old.base ≡ told_base (first_movi (avi_of b)).at (base b)
  pub counted_are : old.counted ≡ old_entries b

-- `idx1`, if there is one
abbrev pub TellsOld : List ℕ → Option OldIndex → Type 0
TellsOld b None = olds b ≡ []
TellsOld b (Some old) = IsOld b old

-- The file is supported, and the map tells its length, its forms, its parts in order, the values of each field, the bodies of its
-- movi lists, of `idx1`, of its super and of its standard indexes, how many entries are counted, and its streams' lists.
pub record IsMapOf (b : List ℕ) (m : AviMap) : Type 0 where
  pub supported : why_named b ≡ None
  pub len : m.len ≡ length b
  pub forms : m.forms.items ≡ form_spans b
  pub parts : m.parts.items ≡ parts_of b
  pub field_values : (name : FieldName) → values m.fields name ≡ all_fields b name
  pub movis : m.movis.items ≡ essence_spans b
  pub idx1 : TellsOld b m.idx1
  pub supers_are : m.supers.items ≡ map table_span (supers b)
  pub standards_are : m.standards.items ≡ map table_span (standards b)
  pub entries : m.entries ≡ counted_entries b
  pub streams : m.streams.items ≡ map behind_type (strls (avi_of b))

-- the map of the file, or the first refusal
abbrev pub ReadsAvi : List ℕ → Result AviMap ReadFault → Type 0
ReadsAvi b r = ReadsKind avi_kind IsMapOf b r

-- the fields of a supported file
abbrev pub ReadsFields : List ℕ → Result (List Entry) ReadFault → Type 0
ReadsFields b (Ok fs) = (name : FieldName) → values fs name ≡ all_fields b name
ReadsFields b (Err (Why w)) = ⊥
ReadsFields b (Err Depot) = Unit {0}
ReadsFields b (Err Memory) = Unit {0}

-- ---- a map that is sound, whatever the file

-- a body stands behind a header, and ends below 2^63
abbrev pub IsBody : Span → Type 0
IsBody s = (8 ≤ s.at) × (s.at + s.len < 2 ^ 63)

-- `idx1`, if there is one, stands before a place
abbrev pub OldEnds : ℕ → Option OldIndex → Type 0
OldEnds end None = Unit {0}
OldEnds end (Some old) = EndInside end old.body

-- the parts, the essence and `idx1` lie inside the length, the essence ascends, index chunks have headers, and the fields are lawful
pub record IsSound (m : AviMap) : Type 0 where
  pub small : m.len < 2 ^ 63
  pub parts_placed : ArePlaced m.len m.len m.parts.items
  pub movis_ascend : Ascends 0 m.movis.items
  pub movis_inside : AllByRecursion (EndInside m.len) m.movis.items
  pub idx1_inside : OldEnds m.len m.idx1
  pub supers_stand : AllByRecursion IsBody m.supers.items
  pub standards_stand : AllByRecursion IsBody m.standards.items
  pub lawful : IsLawful (values m.fields)
