use Rattle.std.proofs.Common.{ℕ, List, drop}
use Rattle.me_disk.specs.Steps.{ReadsOnly}
use Rattle.me_disk.specs.Holds.{Holds}
use Rattle.avi_file.specs.Fields.{OnlyTexts}
use Rattle.avi_file.proofs.Grown.{ListsLeft}
use Rattle.avi_file.proofs.fields.read_lists.Given as goal

-- the values so far, and the lists that are left
abbrev pub invariant-lists : goal.invariant-lists
invariant-lists g l = record {
  reads : ReadsOnly (g.D.Depot.disk l.fn.depot) (g.D.Depot.disk l.depot);
  only : OnlyTexts l.fn.fields → OnlyTexts l.fields;
  left : (b : List ℕ) → Holds (g.D.Depot.disk l.fn.depot) b → ListsLeft b l.fields l.fn.fields (drop l.list-index l.lists) l.lists;
}
