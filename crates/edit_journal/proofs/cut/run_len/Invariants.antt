use Rattle.std.proofs.Common.{◌-◌, length}
use Rattle.edit_journal.proofs.Runs.{IsRunTo}
use Rattle.edit_journal.proofs.cut.run_len.Given as goal

abbrev pub invariant-loop-end : goal.invariant-loop-end
invariant-loop-end l = record { run : IsRunTo l.bytes l.from l.end }

abbrev pub decreases-loop-end : goal.decreases-loop-end
decreases-loop-end l = length l.bytes - l.end
