use Rattle.std.proofs.Common.{◌≡◌, ◌++◌, ◌+◌, ◌-◌, ◌≤◌, length, drop}
use Rattle.edit_journal.specs.Strips.{cut, placed}
use Rattle.edit_journal.specs.Journal.{spelled_strips}
use Rattle.edit_journal.specs.Journal.Version.{Second}
use Rattle.edit_journal.proofs.spell.put_patch.Given as goal

abbrev pub invariant-loop-from : goal.invariant-loop-from
invariant-loop-from l = record {
  inside : l.from ≤ length l.patch.bytes;
  put : l.out.items ++ spelled_strips Second (placed (l.patch.at + l.from) (cut (drop l.from l.patch.bytes))) ≡ l.fn.out.items ++ spelled_strips Second (placed l.patch.at (cut l.patch.bytes));
}

abbrev pub decreases-loop-from : goal.decreases-loop-from
decreases-loop-from l = length l.patch.bytes - l.from
