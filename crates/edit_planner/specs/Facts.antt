-- What the map of a file tells, whatever the file's kind (this project's own).
use Rattle.std.specs.Prelude.{◌≡◌, ◌⊎◌, ℕ, ◌+◌, ◌<◌, ◌^◌, List, [], ◌∷◌, ⊤, Option, Some, None, IfSome}
use Rattle.std.specs.List.{AllByRecursion}
use Rattle.me_disk.specs.Disk.{Disk}
use Rattle.me_disk.specs.Holds.{Holds, Inside}
use Rattle.part_tree.specs.declared.field.FieldName.{FieldName}
use Rattle.part_tree.specs.declared.names.Span.{Span}
use Rattle.part_tree.specs.declared.why.ReadFault.{ReadFault}
use Rattle.part_tree.specs.declared.why.ReadFault.TheVariants as read
use Rattle.part_tree.specs.Fields.{IsMap}
use Rattle.part_tree.specs.Ranges.{Ascends}
use Rattle.part_tree.specs.Shows.{Told}
use Rattle.field_model.specs.Kind.{KindModel}
use Rattle.field_model.specs.Lawful.{IsLawful}
use Rattle.edit_planner.specs.declared.plans.FileMap.{FileMap}
use Rattle.edit_planner.specs.declared.plans.FileMap.TheVariants.{Wave, Avi, Mov}
use Rattle.edit_planner.specs.Kinds.{model_in}
use Rattle.edit_planner.specs.Plan.{Maps, SoundMap, fields_in, streams_in, told_in, total_len}
use Rattle.track_samples.specs.Places.{AllInside, TablesLie}

-- the range whose checksum is told
abbrev pub hashed_in : FileMap → Option Span
hashed_in (Wave m) = Some m.sound
hashed_in (Avi m) = None
hashed_in (Mov m) = None

-- The map tells what the file is, as one of its kind.
pub record TellsOf (k : KindModel) (o : List ℕ) (m : FileMap) : Type 0 where
  pub supported : k.why o ≡ None
  pub kind : (told_in m).kind ≡ k.kind o
  pub fields : (name : FieldName) → fields_in m name ≡ k.fields o name
  pub streams : streams_in m ≡ k.streams o
  pub payload : (told_in m).payload ≡ total_len (k.essence o)
  pub hashed : hashed_in m ≡ k.hashed o
  pub entries : (told_in m).entries ≡ k.entries o
  pub tracks : (told_in m).tracks ≡ k.tracks o
  -- where there are tracks, the bodies that hold their samples are the essence
  pub bodies : ((told_in m).tracks ≡ []) ⊎ ((told_in m).mdats ≡ k.essence o)

-- The map was read of the depot: it is that of the file and tells what it is, its fields are lawful
-- and in field order, and its range, the bodies of its essence and the tables of its tracks lie inside the file.
pub record IsRead (d : Disk) (m : FileMap) : Type 0 where
  pub mapped : (o : List ℕ) → Holds d o → Maps o m
  pub tells : (o : List ℕ) → Holds d o → TellsOf (model_in o) o m
  pub sound : SoundMap m
  pub lawful : IsLawful (fields_in m)
  pub ordered : IsMap (told_in m).fields
  pub inside : IfSome (hashed_in m) (λ s. Inside (s.at + s.len) d)
  pub small : IfSome (hashed_in m) (λ s. s.at + s.len < 2 ^ 63)
  pub bodies_ascend : Ascends 0 (told_in m).mdats
  pub bodies_inside : AllInside d (told_in m).mdats
  pub tables : AllByRecursion (TablesLie d) (told_in m).tracks
