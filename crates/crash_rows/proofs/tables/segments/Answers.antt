use Rattle.std.proofs.Common.{rules}
use Rattle.crash_rows.specs.Tables.{parts}
use Rattle.crash_rows.proofs.tables.segments.Goals as goal

pub returns : goal.returns
unfolding parts
returns c = search rules
