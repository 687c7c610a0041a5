use Rattle.std.proofs.Common.{◌≡◌, ℕ, List, drop}
use Rattle.me_disk.specs.Steps.{ReadsOnly}
use Rattle.me_disk.specs.Holds.{Holds}
use Rattle.avi_file.specs.Fields.{OnlyTexts}
use Rattle.avi_file.proofs.Named.{StreamsLeft}
use Rattle.avi_file.proofs.names.read_streams.Given as goal

-- the values so far, and the streams that are left
abbrev pub invariant-strls : goal.invariant-strls
invariant-strls g l = record {
  reads : ReadsOnly (g.D.Depot.disk l.fn.depot) (g.D.Depot.disk l.depot);
  only : OnlyTexts l.fn.fields → OnlyTexts l.fields;
  number : (b : List ℕ) → Holds (g.D.Depot.disk l.fn.depot) b → l.stream ≡ l.strl-index;
  left : (b : List ℕ) → Holds (g.D.Depot.disk l.fn.depot) b → StreamsLeft b l.strl-index l.fields l.fn.fields (drop l.strl-index l.strls) l.strls;
}
