use Rattle.std.proofs.Common.{◌≤◌}
use Rattle.std.specs.Prelude.{IsTrue}
use Rattle.me_disk.specs.Disk.{bytes_of}
use Rattle.me_disk.specs.Steps.{ReadsOnly}
use Rattle.part_tree.specs.Patches.{most_bytes}
use Rattle.edit_journal.specs.Reads.{IsWindow, Holds, IsAt}
use Rattle.edit_journal.proofs.check.check_strips.Given as goal

abbrev pub invariant-loop-left : goal.invariant-loop-left
invariant-loop-left g l = let old = g.D.Depot.disk l.fn.depot in let now = g.D.Depot.disk l.depot in record {
  window : IsWindow l.window;
  holds : IsTrue old.tells → Holds l.window (bytes_of old.slots.journal);
  at : l.p.at ≤ l.head.len;
  total : l.p.total ≤ most_bytes;
  reads : ReadsOnly old now;
  is_at : IsTrue old.tells → IsAt l.head (bytes_of old.slots.journal) l.left l.p;
}

abbrev pub decreases-loop-left : goal.decreases-loop-left
decreases-loop-left g l = l.left
