use Rattle.std.proofs.Common.{arith, sym, ap, ◌≡◌, ◌∙◌, ◌+◌, ◌<◌, ℕ, suc, List, length, drop, get_or}
use Rattle.me_disk.proofs.Holds.{holds_on}
use Rattle.me_disk.proofs.Runs.{ReadsOnly-trans}
use Rattle.part_tree.specs.declared.shows.Track.{Track}
use Rattle.mov_file.specs.Whole.{first_chunk}
use Rattle.mov_file.proofs.Held.{chunk_here, chunk_next, no_track, places_at_index, same_at, track_ends}
use Rattle.mov_file.proofs.movie.chunk_why.Goals as goal

pub astray_of-requires-clause-tables : goal.astray_of-requires-clause-tables
astray_of-requires-clause-tables g c =
    let k = c.tracks.track-index in
    let ts = c.args.tracks.now in
    let t : Track = get_or ts k no_track in
    track_ends c.args.end ts k t c.tracks-test.true (same_at ts k no_track t c.tracks-test.true) c.requires.tables

pub tracks-preserved : goal.tracks-preserved
tracks-preserved g c =
    let inv = c.tracks.invariant in
    let k = c.tracks.track-index in
    let n = c.tracks.number in
    let ts = c.args.tracks.now in
    let mdats = c.args.mdats.now in
    let lt = c.tracks-test.true in
    let t : Track = get_or ts k no_track in
    let is : t ≡ get_or ts k t = same_at ts k no_track t lt in
    record {
      number = omega (arith, inv.number);
      reads = ReadsOnly-trans _ _ _ inv.reads c.astray_of.ensures.reads;
      left = λ b holds places.
          let held = holds_on _ _ b inv.reads holds in
          let none = sym c.in-None.is ∙ c.in_ok-astray_of.ensures.astray b held (places_at_index b ts k t lt is places) in
          let count : suc (n + 1) ≡ n + 1 + 1 = omega arith in
          inv.left b holds places ∙ chunk_next b mdats (n + 1) k ts t lt is none ∙ ap (λ (i : ℕ). first_chunk b mdats i (drop (k + 1) ts)) count;
    }

pub returns-in-Some-clause-why : goal.returns-in-Some-clause-why
returns-in-Some-clause-why g c = λ b holds places.
    let inv = c.tracks.invariant in
    let k = c.tracks.track-index in
    let n = c.tracks.number in
    let ts = c.args.tracks.now in
    let mdats = c.args.mdats.now in
    let lt = c.tracks-test.true in
    let t : Track = get_or ts k no_track in
    let is : t ≡ get_or ts k t = same_at ts k no_track t lt in
    let held = holds_on _ _ b inv.reads holds in
    let some = sym c.in-Some.is ∙ c.in_ok-astray_of.ensures.astray b held (places_at_index b ts k t lt is places) in
    sym (inv.left b holds places ∙ chunk_here b mdats (n + 1) k c.in-Some.chunk ts t lt is some)
