use Rattle.std.proofs.Common.{sym, ◌∙◌}
use Rattle.part_tree.specs.Fields.{values}
use Rattle.core_edit.proofs.Filled.{only_fills, only_one}
use Rattle.core_edit.proofs.exported.only_shown.Goals as goal

pub shown-requires-clause-fills : goal.shown-requires-clause-fills
shown-requires-clause-fills c =
    let one = only_one c.get.result.now c.value-item.result c.in-len1.len_at_least c.in-len1.len_below c.value-item.is in
    only_fills (values c.args.fields.now) c.args.name.now c.value-item.result c.requires (sym c.get.ensures ∙ one)
