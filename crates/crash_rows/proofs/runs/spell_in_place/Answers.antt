use Rattle.std.proofs.Common.{rules}
use Rattle.crash_rows.proofs.Works.{can_patch}
use Rattle.crash_rows.proofs.runs.spell_in_place.Goals as goal

pub spell_journal-requires : goal.spell_journal-requires
spell_journal-requires c = can_patch _ (search rules)
