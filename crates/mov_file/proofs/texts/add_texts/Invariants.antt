use Rattle.std.proofs.Common.{drop}
use Rattle.part_tree.specs.declared.field.FieldName.TheVariants.{User}
use Rattle.mov_file.proofs.Grown.{ValuesLeft}
use Rattle.mov_file.proofs.texts.add_texts.Given as goal

-- the values so far, and the texts that are left
abbrev pub invariant-texts : goal.invariant-texts
invariant-texts l = ValuesLeft l.fields l.fn.fields (User l.kind) (drop l.text-index l.texts) l.texts
