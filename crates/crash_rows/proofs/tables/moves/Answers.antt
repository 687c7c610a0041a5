use Rattle.std.proofs.Common.{rules}
use Rattle.crash_rows.specs.Tables.{gone}
use Rattle.crash_rows.proofs.tables.moves.Goals as goal

pub returns : goal.returns
unfolding gone
returns c = search rules
