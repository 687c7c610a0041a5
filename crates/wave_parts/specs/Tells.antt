-- What the map of a file tells, with all its parts, whatever the file's kind.
use Rattle.std.specs.Prelude.{List, [], ◌∷◌, Some, None}
use Rattle.part_tree.specs.declared.part.Part.{Part}
use Rattle.field_model.specs.KindReads.{Facts}
use Rattle.wave_file.specs.declared.map.WaveMap.{WaveMap}

abbrev pub facts_of : WaveMap → List Part → Facts
facts_of m parts = record {
  kind = m.kind;
  fields = m.fields;
  streams = 0;
  parts = parts;
  essence = m.sound ∷ [];
  hashed = Some m.sound;
  entries = None;
  tracks = [];
}
