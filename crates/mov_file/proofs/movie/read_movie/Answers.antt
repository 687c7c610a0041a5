use Rattle.std.proofs.Common.{arith, refl, sym, ap, subst, ◌≡◌, ◌∙◌, List, length, map, Some, None}
use Rattle.part_tree.specs.declared.names.Span.{Span}
use Rattle.part_tree.specs.declared.shows.Track.{Track}
use Rattle.mov_file.specs.Track.{track_from}
use Rattle.mov_file.specs.Whole.{first_chunk}
use Rattle.std.specs.List.{AllByRecursion}
use Rattle.me_disk.proofs.Holds.{holds_on}
use Rattle.qt_atoms.specs.Walk.{InOrder}
use Rattle.mov_file.specs.Map.{TrackEndsBy}
use Rattle.mov_file.proofs.Sound.{tracks_end}
use Rattle.mov_file.proofs.Whole.{map_is, meet_fails, moov_end, no_why_fails, rows_there, user_end, why_is}
use Rattle.mov_file.proofs.movie.read_movie.Goals as goal

pub returns-in-Err-clause-movie : goal.returns-in-Err-clause-movie
returns-in-Err-clause-movie g c = λ b holds begins. meet_fails b c.meet.new.reading c.in-Err.fault begins (c.in-Err.ensures.meets b holds (c.requires.whole b holds))

pub returns-in-Ok-Some-clause-movie : goal.returns-in-Ok-Some-clause-movie
returns-in-Ok-Some-clause-movie g c = λ b holds begins.
    let whole = c.requires.whole b holds in
    let held = holds_on _ _ b c.meet.ensures.reads holds in
    let k = c.in-Ok.moov in
    let r = c.meet.new.reading in
    let met = c.in-Ok.ensures.meets b holds whole in
    let order : InOrder k.at (length b) k = rw whole c.in-Ok.ensures.sound.moov in
    let ts = c.in-Ok-tracks_by.tracks.items in
    let are : ts ≡ map track_from r.tracks.items = c.in-Ok-tracks_by.ensures ∙ ap (map track_from) c.as_slice.ensures.value in
    let rows = rows_there b begins r k met order ts are in
    let told : Some c.in-Ok-Some.why ≡ first_chunk b c.as_slice-2.result.now 1 c.as_slice-3.result.now = sym c.in-Ok-Some.field-0-is ∙ c.in-Ok-Some.ensures.why b held (rw c.as_slice-3.ensures.value rows) in
    why_is b begins r k met order ts are ∙ sym (told ∙ ap (λ (ss : List Span). first_chunk b ss 1 c.as_slice-3.result.now) c.as_slice-2.ensures.value ∙ ap (λ (us : List Track). first_chunk b r.mdats.items 1 us) c.as_slice-3.ensures.value)

pub returns-in-Err-read_carriers-clause-movie : goal.returns-in-Err-read_carriers-clause-movie
returns-in-Err-read_carriers-clause-movie g c = λ b holds begins.
    let whole = c.requires.whole b holds in
    let held = holds_on _ _ b c.meet.ensures.reads holds in
    let then = holds_on _ _ b c.chunk_why.ensures.reads held in
    let k = c.in-Ok.moov in
    let met = c.in-Ok.ensures.meets b holds whole in
    no_why_fails b c.in-Err-read_carriers.fault (c.in-Err-read_carriers.ensures.why b then (moov_end b k met.moov met.tests) (user_end b k met.moov met.tests))

pub returns-clause-movie : goal.returns-clause-movie
returns-clause-movie g c = λ b holds begins.
    let whole = c.requires.whole b holds in
    let held = holds_on _ _ b c.meet.ensures.reads holds in
    let then = holds_on _ _ b c.chunk_why.ensures.reads held in
    let k = c.in-Ok.moov in
    let r = c.meet.new.reading in
    let met = c.in-Ok.ensures.meets b holds whole in
    let order : InOrder k.at (length b) k = rw whole c.in-Ok.ensures.sound.moov in
    let ts = c.in-Ok-tracks_by.tracks.items in
    let are : ts ≡ map track_from r.tracks.items = c.in-Ok-tracks_by.ensures ∙ ap (map track_from) c.as_slice.ensures.value in
    let rows = rows_there b begins r k met order ts are in
    let told : None ≡ first_chunk b c.as_slice-2.result.now 1 c.as_slice-3.result.now = sym c.in-Ok-None.field-0-is ∙ c.in-Ok-None.ensures.why b held (rw c.as_slice-3.ensures.value rows) in
    let fine : None ≡ first_chunk b r.mdats.items 1 ts = told ∙ ap (λ (ss : List Span). first_chunk b ss 1 c.as_slice-3.result.now) c.as_slice-2.ensures.value ∙ ap (λ (us : List Track). first_chunk b r.mdats.items 1 us) c.as_slice-3.ensures.value in
    map_is b begins r k met order ts are c.in-Ok-read_carriers.carried _ fine (c.in-Ok-read_carriers.ensures.carried b then) (sym whole) refl refl refl refl refl refl refl

pub returns-clause-sound : goal.returns-clause-sound
returns-clause-sound g c =
    let lie = c.in-Ok.ensures.sound in
    let carried = c.in-Ok-read_carriers.ensures.sound in
    let r = c.meet.new.reading in
    let are : c.in-Ok-tracks_by.tracks.items ≡ map track_from r.tracks.items = c.in-Ok-tracks_by.ensures ∙ ap (map track_from) c.as_slice.ensures.value in
    record {
      small = c.requires.small;
      moov = lie.moov;
      user = carried.user;
      meta = carried.meta;
      parts = lie.all.parts;
      mdats = lie.essence.order;
      mdats_inside = lie.essence.ends;
      tracks = subst (AllByRecursion (TrackEndsBy c.args.len)) (sym are) (tracks_end c.args.len r.tracks.items lie.all.tables);
      lawful = carried.lawful;
    }

pub chunk_why-requires-clause-tables : goal.chunk_why-requires-clause-tables
chunk_why-requires-clause-tables g c =
    let r = c.meet.new.reading in
    let are : c.in-Ok-tracks_by.tracks.items ≡ map track_from r.tracks.items = c.in-Ok-tracks_by.ensures ∙ ap (map track_from) c.as_slice.ensures.value in
    let fine : AllByRecursion (TrackEndsBy c.args.len) c.in-Ok-tracks_by.tracks.items = subst (AllByRecursion (TrackEndsBy c.args.len)) (sym are) (tracks_end c.args.len r.tracks.items c.in-Ok.ensures.sound.all.tables) in
    rw c.as_slice-3.ensures.value fine
