-- What the map of a file tells, whatever the file's kind.
use Rattle.std.specs.Prelude.{length, map, Some, None, []}
use Rattle.part_tree.specs.declared.names.Kind.TheVariants.{Avi}
use Rattle.field_model.specs.KindReads.{Facts}
use Rattle.avi_model.specs.Kind.{behind_word}
use Rattle.avi_file.specs.declared.map.AviMap.{AviMap}

-- Its streams are those whose lists are told, and its essence is what the movi lists hold behind their type words.
abbrev pub facts_of : AviMap → Facts
facts_of m = record {
  kind = Avi;
  fields = m.fields;
  streams = length m.streams.items;
  parts = m.parts.items;
  essence = map behind_word m.movis.items;
  hashed = None;
  entries = Some m.entries;
  tracks = [];
}
