use Rattle.std.proofs.Common.{◌≡◌, ◌+◌, ◌++◌, ℕ, List, [], drop}
use Rattle.me_disk.specs.Holds.{Holds}
use Rattle.me_disk.specs.Steps.{ReadsOnly}
use Rattle.me_report.specs.Report.{track_lines}
use Rattle.me_report.proofs.show.put_tracks.Given as goal

-- the lines so far, and those of the tracks that are left
abbrev pub invariant-tracks : goal.invariant-tracks
invariant-tracks g l = record {
  number : l.number ≡ l.track-index + 1;
  reads : ReadsOnly (g.D.Depot.disk l.fn.depot) (g.D.Depot.disk l.depot);
  none : l.tracks ≡ [] → l.out.items ≡ l.fn.out.items;
  still : l.tracks ≡ [] → l.depot ≡ l.fn.depot;
  lines : (b : List ℕ) → Holds (g.D.Depot.disk l.fn.depot) b
      → l.out.items ++ track_lines b l.bodies l.number (drop l.track-index l.tracks) ≡ l.fn.out.items ++ track_lines b l.bodies 1 l.tracks;
}
