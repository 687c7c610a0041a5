use Rattle.std.proofs.Common.{◌≡◌, ◌≤◌, ◌+◌, ◌-◌, ◌*◌, ℕ, suc, List, drop}
use Rattle.me_disk.specs.Steps.{ReadsOnly}
use Rattle.me_disk.specs.Holds.{Holds}
use Rattle.container_model.specs.Rows.{numbers}
use Rattle.mov_file.specs.Chunks.{first_astray, width_of}
use Rattle.mov_file.proofs.chunks.astray_among.Given as goal

-- no row so far is astray, and those that are left say the rest
abbrev pub invariant-pages : goal.invariant-pages
invariant-pages g l = record {
  few : l.done ≤ l.count;
  reads : ReadsOnly (g.D.Depot.disk l.fn.depot) (g.D.Depot.disk l.depot);
  left : (b : List ℕ) → Holds (g.D.Depot.disk l.fn.depot) b
      → first_astray l.mdats 1 (numbers (width_of l.wide) l.count (drop l.fn.rows.at b))
      ≡ first_astray l.mdats (l.done + 1) (numbers (width_of l.wide) (l.count - l.done) (drop (l.fn.rows.at + (width_of l.wide).bytes * l.done) b));
}

abbrev pub decreases-pages : goal.decreases-pages
decreases-pages g l = l.count - l.done
