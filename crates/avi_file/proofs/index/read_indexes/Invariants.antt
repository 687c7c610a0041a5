use Rattle.std.proofs.Common.{◌≡◌, ◌++◌, [], ℕ, List, drop}
use Rattle.me_disk.specs.Steps.{ReadsOnly}
use Rattle.me_disk.specs.Holds.{Holds}
use Rattle.avi_file.specs.Indexes.{AreSound, all_tests, named_kept, streams_kept}
use Rattle.avi_file.proofs.Lined.{NamedLeft}
use Rattle.avi_file.proofs.index.read_indexes.Given as goal

-- the chunks that were taken and those that are left are the whole
abbrev pub invariant-indexes : goal.invariant-indexes
invariant-indexes g l = record {
  reads : ReadsOnly (g.D.Depot.disk l.fn.depot) (g.D.Depot.disk l.depot);
  streams : (b : List ℕ) → Holds (g.D.Depot.disk l.fn.depot) b → l.indexes.streams.items ++ streams_kept b (drop l.body-index l.bodies) ≡ streams_kept b l.bodies;
  sound : AreSound l.indexes.streams.items;
  sound_named : AreSound l.indexes.named.items;
  left : (b : List ℕ) → Holds (g.D.Depot.disk l.fn.depot) b
      → NamedLeft (all_tests l.movis b l.bodies) (all_tests l.movis b (drop l.body-index l.bodies)) (named_kept b l.bodies) (named_kept b (drop l.body-index l.bodies)) [] l.indexes.named.items;
}
