use Rattle.std.proofs.Common.{rules}
use Rattle.crash_rows.proofs.Works.{can_rewrite}
use Rattle.crash_rows.proofs.runs.edit_by_rewrite.Goals as goal

pub new-requires-2 : goal.new-requires-2
new-requires-2 c = can_rewrite _ (search rules)
