use Rattle.core_edit.proofs.Letters.{told_utf8}
use Rattle.core_csv.proofs.row.is_text.Goals as goal

pub returns : goal.returns
returns c = told_utf8 c.is_utf8.result c.args.cell.now c.is_utf8.ensures
