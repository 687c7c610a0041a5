use Rattle.std.proofs.Common.{◌≡◌, ℕ, List, drop}
use Rattle.me_disk.specs.Steps.{ReadsOnly}
use Rattle.me_disk.specs.Holds.{Holds}
use Rattle.mov_plan.specs.Carriers.{found_from}
use Rattle.mov_plan.proofs.key_carry.first_table.Given as goal

-- none was met so far
abbrev pub invariant-atoms : goal.invariant-atoms
invariant-atoms g l = record {
  reads : ReadsOnly (g.D.Depot.disk l.fn.depot) (g.D.Depot.disk l.depot);
  left : (b : List ℕ) → Holds (g.D.Depot.disk l.fn.depot) b → found_from b l.number (drop l.number l.atoms) ≡ found_from b 0 l.atoms;
}
