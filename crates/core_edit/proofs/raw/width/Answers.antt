use Rattle.std.proofs.Common.{◌∙◌, sym}
use Rattle.core_edit.proofs.Tables.{found_width}
use Rattle.core_edit.proofs.raw.width.Goals as goal

pub returns-in-Some : goal.returns-in-Some
returns-in-Some c = found_width c.args.field _ _ (sym c.in-Some.is ∙ c.locate.ensures)
