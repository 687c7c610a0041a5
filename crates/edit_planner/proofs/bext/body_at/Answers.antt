use Rattle.bext_fields.specs.Change.{raw_items_of}
use Rattle.edit_planner.proofs.BextChunk.{body_now}
use Rattle.edit_planner.proofs.bext.body_at.Goals as goal

pub returns-clause-cell : goal.returns-clause-cell
returns-clause-cell c = body_now (raw_items_of c.args.changes.now) c.args.cell.now c.in-Body.body c.as_slice.result.now c.in_ok-cell.field-0 c.in-Body.is c.as_slice.ensures c.in_ok-cell.ensures
