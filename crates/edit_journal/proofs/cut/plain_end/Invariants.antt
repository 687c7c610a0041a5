use Rattle.std.proofs.Common.{◌≤◌, ◌-◌, length}
use Rattle.edit_journal.proofs.Runs.{JoinsTo}
use Rattle.edit_journal.proofs.cut.plain_end.Given as goal

abbrev pub invariant-loop-end : goal.invariant-loop-end
invariant-loop-end l = record {
  low : l.from ≤ l.end;
  inside : l.end ≤ length l.bytes;
  joins : JoinsTo l.bytes l.from l.end;
}

abbrev pub decreases-loop-end : goal.decreases-loop-end
decreases-loop-end l = length l.bytes - l.end
