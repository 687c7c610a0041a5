use Rattle.std.proofs.Common.{rules}
use Rattle.crash_rows.specs.Worked.{patches}
use Rattle.crash_rows.proofs.runs.patches_in_place.Goals as goal

pub returns : goal.returns
unfolding patches
returns c = search rules
