use Rattle.std.proofs.Common.{◌∙◌, ap, sym}
use Rattle.field_model.specs.Fields.{plain}
use Rattle.info_list.proofs.Grown.{item_added, ok_grows}
use Rattle.info_list.proofs.fields.add_item.Goals as goal

pub returns : goal.returns
returns c =
    ok_grows c.add.result
    (item_added c.args.fields.now c.add.new.self c.args.item.now (record { lang = 0; raw = c.in_ok-raw.raw }) (sym c.is_field.ensures ∙ c.if-not-is_field.false) (ap plain (c.in_ok-raw.ensures ∙ c.as_slice.ensures))) c.add.ensures.ok
