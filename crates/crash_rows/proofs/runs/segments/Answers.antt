use Rattle.std.proofs.Common.{rules}
use Rattle.crash_rows.specs.Worked.{rewrite}
use Rattle.crash_rows.proofs.runs.segments.Goals as goal

pub returns : goal.returns
unfolding rewrite
returns c = search rules
