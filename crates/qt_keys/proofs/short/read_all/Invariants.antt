use Rattle.std.proofs.Common.{length, ◌-◌, ◌≤◌}
use Rattle.qt_keys.proofs.Atoms.{Left}
use Rattle.qt_keys.proofs.short.read_all.Given as goal

-- what was read and what is left are all of it
abbrev pub invariant-atoms : goal.invariant-atoms
invariant-atoms g l = record {
  inside : l.at ≤ length l.bytes;
  left : Left g.T.FromAtom.reads l.bytes l.at l.all.items;
}

abbrev pub decreases-atoms : goal.decreases-atoms
decreases-atoms g l = length l.bytes - l.at
