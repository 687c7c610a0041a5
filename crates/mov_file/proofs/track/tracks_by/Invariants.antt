use Rattle.std.proofs.Common.{◌≡◌, map, take}
use Rattle.mov_file.specs.Track.{track_from}
use Rattle.mov_file.proofs.track.tracks_by.Given as goal

-- the tracks so far
abbrev pub invariant-tracks : goal.invariant-tracks
invariant-tracks l = l.tracks.items ≡ map track_from (take l.track-index l.tables)
