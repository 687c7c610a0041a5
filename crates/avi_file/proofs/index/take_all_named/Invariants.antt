use Rattle.std.proofs.Common.{◌-◌, ◌*◌, ℕ, List, drop}
use Rattle.me_disk.specs.Steps.{ReadsOnly}
use Rattle.me_disk.specs.Holds.{Holds}
use Rattle.me_disk.specs.Windows.{IsWindow}
use Rattle.container_model.specs.Written.{rows, slice}
use Rattle.avi_file.specs.Indexes.{KeepsSound, kept_rows, rows_tests}
use Rattle.avi_file.proofs.Lined.{NamedLeft}
use Rattle.avi_file.proofs.index.take_all_named.Given as goal

-- the entries that were read and those that are left are the whole
abbrev pub invariant-entries : goal.invariant-entries
invariant-entries g l = record {
  window : IsWindow (g.D.Depot.disk l.depot) l.window;
  reads : ReadsOnly (g.D.Depot.disk l.fn.depot) (g.D.Depot.disk l.depot);
  sound : KeepsSound l.fn.named.items l.named.items;
  left : (b : List ℕ) → Holds (g.D.Depot.disk l.fn.depot) b
      → NamedLeft (rows_tests l.movis b (rows 16 l.used (drop 24 (slice b l.body.at l.body.len)))) (rows_tests l.movis b (rows 16 (l.used - l.k) (drop (16 * l.k) (drop 24 (slice b l.body.at l.body.len)))))
      (kept_rows b (rows 16 l.used (drop 24 (slice b l.body.at l.body.len)))) (kept_rows b (rows 16 (l.used - l.k) (drop (16 * l.k) (drop 24 (slice b l.body.at l.body.len))))) l.fn.named.items l.named.items;
}
