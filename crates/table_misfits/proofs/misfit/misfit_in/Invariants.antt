use Rattle.std.proofs.Common.{◌≡◌, ◌≤◌, ◌+◌, ◌-◌, ◌*◌, ℕ, List, drop}
use Rattle.me_disk.specs.Holds.{Holds}
use Rattle.me_disk.specs.Steps.{ReadsOnly}
use Rattle.part_tree.specs.Tables.{width}
use Rattle.table_misfits.specs.Misfits.{misfits}
use Rattle.table_misfits.proofs.misfit.misfit_in.Given as goal

-- the rows that were read can name their new places, and the others are left
abbrev pub invariant-pages : goal.invariant-pages
invariant-pages g l = record {
  reads : ReadsOnly (g.D.Depot.disk l.fn.depot) (g.D.Depot.disk l.depot);
  few : l.done ≤ l.rows;
  left : (b : List ℕ) → Holds (g.D.Depot.disk l.fn.depot) b
      → misfits l.moves l.form (l.rows - l.done) (drop (l.from + width l.form * l.done) b) ≡ misfits l.moves l.form l.rows (drop l.from b);
}

abbrev pub decreases-pages : goal.decreases-pages
decreases-pages g l = l.rows - l.done
