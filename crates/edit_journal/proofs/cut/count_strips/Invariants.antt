use Rattle.std.proofs.Common.{◌≡◌, ◌*◌, ◌≤◌, length, take}
use Rattle.part_tree.specs.Patches.{all_bytes}
use Rattle.edit_journal.specs.Strips.{strips}
use Rattle.edit_journal.proofs.cut.count_strips.Given as goal

abbrev pub invariant-loop-patch : goal.invariant-loop-patch
invariant-loop-patch l = record {
  strips : l.tally.strips ≡ length (strips (take l.patch-index l.patches));
  few : l.tally.strips ≤ all_bytes (take l.patch-index l.patches);
  small : l.tally.size ≤ 14 * all_bytes (take l.patch-index l.patches);
}
