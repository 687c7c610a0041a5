use Rattle.std.proofs.Common.{drop, map}
use Rattle.part_tree.specs.declared.field.FieldName.TheVariants.{Key}
use Rattle.field_model.specs.Fields.{plain}
use Rattle.mov_file.proofs.Grown.{ValuesLeft}
use Rattle.mov_file.proofs.keys.add_values.Given as goal

-- the values so far, and those that are left
abbrev pub invariant-values : goal.invariant-values
invariant-values l = ValuesLeft l.fields l.fn.fields (Key l.name) (map plain (drop l.value-index l.values)) (map plain l.values)
