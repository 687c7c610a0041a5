use Rattle.std.proofs.Common.{◌≡◌, length, take}
use Rattle.metaedit_top.specs.Batch.{BegunTexts}
use Rattle.metaedit_top.proofs.Starts.{StartsFront}
use Rattle.metaedit_top.proofs.batch.start_files.Given as goal

-- the files so far are begun
abbrev pub invariant-loop-i : goal.invariant-loop-i
invariant-loop-i g l = record {
  front : StartsFront g.D.Depot.disk l.edit l.files l.i l.fn.depots l.depots l.ends.items l.swaps.items;
  texts : BegunTexts (take l.i l.files) l.ends.items l.texts.items;
  left : length l.left.items ≡ l.i;
}
