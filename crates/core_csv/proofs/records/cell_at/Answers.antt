use Rattle.csv.specs.Records.{fields_of}
use Rattle.core_csv.proofs.Cells.{cell_none, cell_there}
use Rattle.core_csv.proofs.records.cell_at.Goals as goal

pub returns-in-Some : goal.returns-in-Some
returns-in-Some c = cell_there (fields_of c.args.row.now) c.args.at _ c.in-Some.ensures.value

pub returns-in-None : goal.returns-in-None
returns-in-None c = cell_none (fields_of c.args.row.now) c.args.at c.in-None.ensures.value
