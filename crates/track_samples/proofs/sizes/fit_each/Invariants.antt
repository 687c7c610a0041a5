use Rattle.std.proofs.Common.{◌≡◌, ◌+◌, ◌-◌, ◌*◌, ℕ, List, drop}
use Rattle.me_disk.specs.Steps.{ReadsOnly}
use Rattle.me_disk.specs.Holds.{Holds}
use Rattle.me_disk.specs.Windows.{IsWindow}
use Rattle.container_model.specs.Rows.{be32, numbers}
use Rattle.track_samples.specs.Left.{fitting}
use Rattle.track_samples.proofs.sizes.fit_each.Given as goal

-- the sizes so far fit, and those that are left fill what is left of the room
abbrev pub invariant-sizes : goal.invariant-sizes
invariant-sizes g l = record {
  window : IsWindow (g.D.Depot.disk l.depot) l.window;
  reads : ReadsOnly (g.D.Depot.disk l.fn.depot) (g.D.Depot.disk l.depot);
  fits : (b : List ℕ) → Holds (g.D.Depot.disk l.fn.depot) b
      → l.row + fitting (l.count - l.row) (numbers be32 (l.count - l.row) (drop (l.at + 4 * l.row) b)) l.left ≡ fitting l.count (numbers be32 l.count (drop l.at b)) l.room;
}
