use Rattle.bext_fields.proofs.Rows.{model_rows, same_bytes, same_laid}
use Rattle.bext_fields.proofs.rows_are_the_ranges.Goals as goal

pub returns-clause-rows : goal.returns-clause-rows
returns-clause-rows c = model_rows

pub returns-clause-bytes : goal.returns-clause-bytes
returns-clause-bytes c = same_bytes

pub returns-clause-laid : goal.returns-clause-laid
returns-clause-laid c = same_laid
