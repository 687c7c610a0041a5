use Rattle.std.proofs.Common.{◌*◌, ◌^◌, ◌≤◌, ℕ, List, drop}
use Rattle.me_disk.specs.Steps.{ReadsOnly}
use Rattle.me_disk.specs.Holds.{Holds}
use Rattle.avi_file.specs.Entries.{chunk_count, chunk_tests}
use Rattle.avi_file.proofs.Counting.{CountsLeft}
use Rattle.avi_file.proofs.entries.check_standards.Given as goal

-- what was counted, and the chunks that are left
abbrev pub invariant-chunks : goal.invariant-chunks
invariant-chunks g l = record {
  reads : ReadsOnly (g.D.Depot.disk l.fn.depot) (g.D.Depot.disk l.depot);
  few : l.counted ≤ 2 ^ 32 * l.chunk-index;
  left : (b : List ℕ) → Holds (g.D.Depot.disk l.fn.depot) b → CountsLeft (chunk_tests l.movis l.bodies b) (chunk_count b) l.chunks (drop l.chunk-index l.chunks) l.counted;
}
