use Rattle.std.proofs.Common.{◌<◌, length, rules, subst, sym}
use Rattle.part_tree.specs.Fields.{values}
use Rattle.field_model.specs.Lawful.{FillsName}
use Rattle.me_report.proofs.Fills.{value_fills}
use Rattle.me_report.proofs.show.put_field.Goals as goal

pub put_value-requires-clause-fills : goal.put_value-requires-clause-fills
put_value-requires-clause-fills c =
    let name = c.args.name.now in
    let inside : c.values.value-index < length c.get-value-items.result.now = search rules in
    subst (λ v. FillsName name v.raw) (sym c.value-item.is) (value_fills (values c.args.fields.now) name c.get-value-items.result.now c.values.value-index c.value-item.result c.requires c.get-value-items.ensures inside)
