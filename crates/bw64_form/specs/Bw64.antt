-- BW64 as a kind of files (ITU-R BS.2088): RF64 files with another identifier, and no other files.
use Rattle.std.specs.Prelude.{◌≡◌, ⊤, ℕ, List, take, Bool, true, codes, Option, Some, None, Result, if◌then◌else◌}
use Rattle.std.specs.declared.result.Result.TheVariants.{Ok, Err}
use Rattle.std.specs.Str.{bytes_eq}
use Rattle.part_tree.specs.Fields.{values}
use Rattle.part_tree.specs.declared.field.FieldName.{FieldName}
use Rattle.part_tree.specs.declared.why.Why.{Why}
use Rattle.part_tree.specs.declared.why.Why.TheVariants.{UnknownKind}
use Rattle.part_tree.specs.declared.why.ReadFault.{ReadFault}
use Rattle.part_tree.specs.declared.why.ReadFault.TheVariants as read
use Rattle.field_model.specs.Kind.{KindModel}
use Rattle.wave_model.specs.Fields.{fields}
use Rattle.wave_model.specs.Kind.{wave_kind}
use Rattle.wave_model.specs.Twin.{twin}
use Rattle.wave_model.specs.Why.{why}
use Rattle.wave_file.specs.declared.map.WaveMap.{WaveMap}

-- whether a file begins as BW64 does
abbrev pub is_bw64 : List ℕ → Bool
is_bw64 b = bytes_eq (take 4 b) (codes "BW64")

-- why a file isn't a supported BW64 file
abbrev pub why_bw64 : List ℕ → Option Why
why_bw64 b = if is_bw64 b then why b else Some UnknownKind

-- the kind
abbrev pub bw64_kind : KindModel
bw64_kind = record wave_kind { why = why_bw64 }

-- what is read of a BW64 file is what stands in the RF64 file with the same bytes
abbrev pub ReadsTwin : List ℕ → Result WaveMap ReadFault → Type 0
ReadsTwin b (Ok m) = (why (twin b) ≡ None) × ((name : FieldName) → values m.fields name ≡ fields (twin b) name)
ReadsTwin b (Err (read.Why w)) = is_bw64 b ≡ true → why (twin b) ≡ Some w
ReadsTwin b (Err read.Depot) = ⊤
ReadsTwin b (Err read.Memory) = ⊤
