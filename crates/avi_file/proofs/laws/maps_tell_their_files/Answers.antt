use Rattle.std.proofs.Common.{◌∙◌, ap, length, map, refl, Some}
use Rattle.std.proofs.lemmas.List.{length-map}
use Rattle.avi_model.specs.Avi.{avi_of, strls}
use Rattle.avi_model.specs.Kind.{behind_word}
use Rattle.avi_file.specs.Walk.{behind_type}
use Rattle.avi_file.proofs.laws.maps_tell_their_files.Goals as goal

pub returns : goal.returns
returns c b m is = record {
  supported = is.supported;
  kind = refl;
  fields = is.field_values;
  streams = ap length is.streams ∙ length-map (strls (avi_of b)) behind_type;
  parts = is.parts;
  essence = ap (map behind_word) is.movis;
  hashed = refl;
  entries = ap Some is.entries;
  tracks = refl;
}
