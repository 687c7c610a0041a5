use Rattle.std.proofs.Common.{◌∙◌, ap, arith}
use Rattle.field_model.specs.Fields.{plain}
use Rattle.wave_file.proofs.Grown.{range_added}
use Rattle.wave_file.proofs.fields.add_rows.Goals as goal

pub rows-preserved : goal.rows-preserved
rows-preserved c =
    range_added c.args.fields.now c.rows.fields c.add.new.self c.rows.k _ c.in_ok-value.value c.args.body.now (c.rows_are_the_ranges.ensures.rows c.rows.k _ (omega arith)).number
    (c.in_ok-value.ensures ∙ ap plain (c.get_raw.ensures ∙ c.rows_are_the_ranges.ensures.bytes c.rows.k _ c.args.body.now (omega arith))) c.rows.invariant c.in_ok-add.ensures.ok
