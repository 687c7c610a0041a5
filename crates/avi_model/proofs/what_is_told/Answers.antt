use Rattle.std.specs.Prelude.{not}
use Rattle.opendml_index.specs.Index.{is_super}
use Rattle.avi_model.proofs.Map.{parts_told, essence_told, tables_told, olds_told}
use Rattle.avi_model.proofs.what_is_told.Goals as goal

pub returns : goal.returns
returns c = record {
  parts = λ b. parts_told b;
  essence = λ b i s. essence_told b i s;
  supers = λ b i s. tables_told b i s (λ t. is_super t.body);
  standards = λ b i s. tables_told b i s (λ t. not (is_super t.body));
  olds = λ b i s. olds_told b i s;
}
