use Rattle.std.proofs.Common.{◌≡◌, ◌+◌, ◌-◌, ◌*◌, ◌≤◌, length, drop}
use Rattle.edit_journal.specs.Strips.{cut}
use Rattle.edit_journal.proofs.cut.count_cuts.Given as goal

abbrev pub invariant-loop-from : goal.invariant-loop-from
invariant-loop-from l = record {
  inside : l.from ≤ length l.bytes;
  strips : l.tally.strips + length (cut (drop l.from l.bytes)) ≡ length (cut l.bytes);
  few : l.tally.strips ≤ l.from;
  small : l.tally.size ≤ 14 * l.from;
}

abbrev pub decreases-loop-from : goal.decreases-loop-from
decreases-loop-from l = length l.bytes - l.from
