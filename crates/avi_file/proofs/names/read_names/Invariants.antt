use Rattle.std.proofs.Common.{ℕ, List, drop}
use Rattle.me_disk.specs.Steps.{ReadsOnly}
use Rattle.me_disk.specs.Holds.{Holds}
use Rattle.avi_file.specs.Fields.{OnlyTexts}
use Rattle.avi_file.proofs.Named.{NamesLeft}
use Rattle.avi_file.proofs.names.read_names.Given as goal

-- the values so far, and the names that are left
abbrev pub invariant-names : goal.invariant-names
invariant-names g l = record {
  reads : ReadsOnly (g.D.Depot.disk l.fn.depot) (g.D.Depot.disk l.depot);
  only : OnlyTexts l.fn.fields → OnlyTexts l.fields;
  left : (b : List ℕ) → Holds (g.D.Depot.disk l.fn.depot) b → NamesLeft b l.stream l.fields l.fn.fields (drop l.name-index l.names) l.names;
}
