use Rattle.std.proofs.Common.{◌≡◌, ℕ, List, ◌++◌, length, map, drop}
use Rattle.std.specs.List.{flat_map}
use Rattle.me_disk.specs.Steps.{ReadsOnly}
use Rattle.me_disk.specs.Holds.{Holds}
use Rattle.me_disk.specs.Windows.{IsWindow}
use Rattle.mov_plan.specs.Tables.{rows_of}
use Rattle.mov_plan.specs.Tracks.{track_rows}
use Rattle.mov_plan.proofs.tracks.all_tables.Given as goal

-- the tables so far, and those of the tracks that are left
abbrev pub invariant-tracks : goal.invariant-tracks
invariant-tracks g l = record {
  window : IsWindow (g.D.Depot.disk l.depot) l.window;
  reads : ReadsOnly (g.D.Depot.disk l.fn.depot) (g.D.Depot.disk l.depot);
  left : (b : List ℕ) → Holds (g.D.Depot.disk l.fn.depot) b → length b ≡ l.end
      → map rows_of l.tables.items ++ flat_map (track_rows b) (drop l.track-index l.tracks) ≡ flat_map (track_rows b) l.tracks;
}
