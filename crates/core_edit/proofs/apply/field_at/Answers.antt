use Rattle.core_edit.proofs.Updated.{field_row}
use Rattle.core_edit.proofs.apply.field_at.Goals as goal

pub returns : goal.returns
returns c = field_row c.args.row _ c.requires
