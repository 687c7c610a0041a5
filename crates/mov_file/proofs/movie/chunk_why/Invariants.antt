use Rattle.std.proofs.Common.{◌≡◌, ◌+◌, ℕ, List, drop}
use Rattle.std.specs.List.{AllByRecursion}
use Rattle.me_disk.specs.Steps.{ReadsOnly}
use Rattle.me_disk.specs.Holds.{Holds}
use Rattle.mov_file.specs.Whole.{HasPlaces, first_chunk}
use Rattle.mov_file.proofs.movie.chunk_why.Given as goal

-- no chunk of the tracks so far is astray
abbrev pub invariant-tracks : goal.invariant-tracks
invariant-tracks g l = record {
  number : l.number ≡ l.track-index;
  reads : ReadsOnly (g.D.Depot.disk l.fn.depot) (g.D.Depot.disk l.depot);
  left : (b : List ℕ) → Holds (g.D.Depot.disk l.fn.depot) b → AllByRecursion (HasPlaces b) l.tracks
      → first_chunk b l.mdats 1 l.tracks ≡ first_chunk b l.mdats (l.number + 1) (drop l.track-index l.tracks);
}
