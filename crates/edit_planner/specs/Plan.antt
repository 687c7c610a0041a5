-- The plan of an edit of a file, by the map of the file (this project's own).
use Rattle.std.specs.Prelude.{◌≡◌, ◌<◌, ℕ, ◌+◌, ◌-◌, ◌^◌, min, List, [], ◌∷◌, length, map, ◌&&◌, nat_le, codes, Option, Some, None, if◌then◌else◌}
use Rattle.std.specs.Str.{bytes_eq}
use Rattle.part_tree.specs.declared.part.Part.{Part}
use Rattle.wave_file.specs.declared.map.WaveMap.{WaveMap}
use Rattle.wave_plan.specs.declared.widen.Widening.{Widening}
use Rattle.part_tree.specs.declared.field.EditItem.{EditItem}
use Rattle.part_tree.specs.declared.field.RuleSet.TheVariants.{Base}
use Rattle.part_tree.specs.declared.names.Kind.{Kind}
use Rattle.part_tree.specs.declared.names.Kind.TheVariants as kind
use Rattle.part_tree.specs.declared.names.Span.{Span}
use Rattle.part_tree.specs.declared.why.Why.{Why}
use Rattle.part_tree.specs.Fields.{values}
use Rattle.part_tree.specs.Shows.{Told}
use Rattle.field_model.specs.Broken.{broken}
use Rattle.field_model.specs.Fields.{FieldMap}
use Rattle.field_model.specs.Update.{effective}
use Rattle.avi_file.specs.Map as avi
use Rattle.avi_model.specs.Kind.{behind_word}
use Rattle.mov_file.specs.Map as mov
use Rattle.wave_file.specs.Map.{IsMapOf, IsSound}
use Rattle.edit_planner.specs.declared.plans.FileMap.{FileMap}
use Rattle.edit_planner.specs.declared.plans.FileMap.TheVariants.{Wave, Avi, Mov}

-- it is the map of the file
abbrev pub Maps : List ℕ → FileMap → Type 0
Maps b (Wave m) = IsMapOf b m
Maps b (Avi m) = avi.IsMapOf b m
Maps b (Mov m) = mov.IsMapOf b m

-- it is sound, whatever the file
abbrev pub SoundMap : FileMap → Type 0
SoundMap (Wave m) = IsSound m
SoundMap (Avi m) = avi.IsSound m
SoundMap (Mov m) = mov.IsSound m

-- the length of ranges together
abbrev pub total_len : List Span → ℕ
total_len [] = 0
total_len (s ∷ ss) = s.len + total_len ss

-- the same as far as it can be told
abbrev pub told_len : List Span → ℕ
told_len ss = min (total_len ss) (2 ^ 64 - 1)

-- what a report tells of it
abbrev pub told_in : FileMap → Told
told_in (Wave m) = record {
  kind = m.kind;
  payload = m.sound.len;
  fields = m.fields;
  entries = None;
  tracks = [];
  mdats = [];
}
told_in (Avi m) = record {
  kind = kind.Avi;
  payload = told_len (map behind_word m.movis.items);
  fields = m.fields;
  entries = Some m.entries;
  tracks = [];
  mdats = [];
}
told_in (Mov m) = record {
  kind = kind.Mov;
  payload = told_len m.mdats.items;
  fields = m.fields;
  entries = None;
  tracks = m.tracks.items;
  mdats = m.mdats.items;
}

-- how many streams can have fields of their own
abbrev pub streams_in : FileMap → ℕ
streams_in (Wave m) = 0
streams_in (Avi m) = min (length m.streams.items) (2 ^ 32 - 1)
streams_in (Mov m) = 0

-- the kind that it tells
abbrev pub kind_in : FileMap → Kind
kind_in m = (told_in m).kind

-- the fields that it tells
abbrev pub fields_in : FileMap → FieldMap
fields_in m = values (told_in m).fields

-- the length of the body of the JUNK that is reserved for `ds64`, directly behind the form's type
abbrev pub reserved_in : List Part → Option ℕ
reserved_in [] = None
reserved_in (p ∷ ps) =
    if bytes_eq p.id.0 (codes "JUNK") && (nat_le 28 p.body.len && nat_le p.body.len (2 ^ 24)) then Some p.body.len
    else None

-- what a form that becomes RF64 tells in its `ds64`
abbrev pub widening_in : WaveMap → Widening
widening_in m = record { reserved = reserved_in m.parts.items; sound = m.sound; align = m.align }

-- Each item of the edit changes a field, there is an item, and they break no basic rule.
pub record IsReady (kind : Kind) (streams : ℕ) (f : FieldMap) (e : List EditItem) : Type 0 where
  pub changes_all : effective f e ≡ e
  pub changes_some : 0 < length e
  pub keeps_rules : broken kind streams f e Base ≡ None
