use Rattle.std.proofs.Common.{◌≡◌, ◌≤◌, ◌+◌, ◌-◌, ℕ, List, take, drop}
use Rattle.std.specs.Prelude.{◌&&◌}
use Rattle.std.specs.Int.{w32, from_be_bytes}
use Rattle.me_disk.specs.Steps.{ReadsOnly}
use Rattle.me_disk.specs.Holds.{Holds}
use Rattle.container_model.specs.Windows.{window}
use Rattle.container_model.specs.Written.{slice}
use Rattle.sample_tables.specs.Tables.{entries_local, entries_whole}
use Rattle.mov_file.proofs.tables.read_references.Given as goal

-- the entries so far are whole, and those that are left say the rest
abbrev pub invariant-entries : goal.invariant-entries
invariant-entries g l = record {
  end : l.end ≡ l.fn.body.at + l.fn.body.len;
  place : l.at ≤ l.end;
  reads : ReadsOnly (g.D.Depot.disk l.fn.depot) (g.D.Depot.disk l.depot);
  whole : (b : List ℕ) → Holds (g.D.Depot.disk l.fn.depot) b → entries_whole l.count (drop 8 (slice b l.fn.body.at l.fn.body.len)) ≡ entries_whole (l.count - l._entry) (window b l.at l.end);
  local : (b : List ℕ) → Holds (g.D.Depot.disk l.fn.depot) b → entries_local l.count (drop 8 (slice b l.fn.body.at l.fn.body.len)) ≡ (l.local && entries_local (l.count - l._entry) (window b l.at l.end));
  is_count : (b : List ℕ) → Holds (g.D.Depot.disk l.fn.depot) b → l.count ≡ from_be_bytes w32 (take 4 (drop 4 (slice b l.fn.body.at l.fn.body.len)));
}
