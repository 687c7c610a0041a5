use Rattle.part_tree.specs.Fields.{values}
use Rattle.core_edit.proofs.Updated.{raised_more}
use Rattle.core_edit.proofs.apply.prepare.Goals as goal

pub loop-row-preserved : goal.loop-row-preserved
loop-row-preserved c =
    let so_far = c.loop-row.invariant in
    record {
      version = so_far.version;
      some = so_far.some;
      raised = raised_more (values c.args.fields.now) _ c.loop-row.row c.loop-row.new c.replace.new.self c.field_at-field.result c.in_ok-value.value c.field_at-field.ensures c.in_ok-value.ensures
          c.in_ok-replace.ensures.ok so_far.raised;
    }
