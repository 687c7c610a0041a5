use Rattle.std.proofs.Common.{◌≤◌, ◌-◌}
use Rattle.me_generate.specs.Makes.{Grows}
use Rattle.me_generate.specs.Rows.{rows}
use Rattle.me_generate.proofs.making.append_rows.Given as goal

-- so many rows are appended
abbrev pub invariant-pages : goal.invariant-pages
invariant-pages g l = record {
  inside : l.first ≤ l.n;
  grown : Grows (rows l.row l.first) (g.D.Depot.disk l.fn.depot) (g.D.Depot.disk l.depot);
}

abbrev pub decreases-pages : goal.decreases-pages
decreases-pages g l = l.n - l.first
