use Rattle.std.proofs.Common.{◌∙◌}
use Rattle.edit_planner.proofs.MovieLaid.{ends_told, places_stand, places_told}
use Rattle.edit_planner.proofs.movie.laid_out.Goals as goal

pub returns-in-Ok-places_with-clause-laid : goal.returns-in-Ok-places_with-clause-laid
returns-in-Ok-places_with-clause-laid g c = λ b holds bytes are.
    let map = c.args.map.now in
    let known = c.requires.mapped b holds in
    let ks = c.args.atoms.now in
    record {
      moov = c.in-Some.ensures.moov b bytes known (ends_told b map ks c.end_of-end.result known are c.end_of-end.ensures.end);
      tell = places_told b map ks c.in-Ok.nested.counts.items c.deref.result.now c.in-Ok-places_with.places.items bytes known are c.in-Ok-places_with.ensures.places c.deref.ensures.value (c.in-Ok.ensures.counts b holds are);
      holders = c.in-Ok.ensures.holders b holds are;
    }

pub returns-in-Ok-places_with-clause-stand : goal.returns-in-Ok-places_with-clause-stand
returns-in-Ok-places_with-clause-stand g c =
    let map = c.args.map.now in
    record {
      sound = c.in-Some.ensures.sound;
      follow = places_stand map.moov.body.at map.moov.next c.args.atoms.now c.deref.result.now c.in-Ok-places_with.places.items c.in-Some.moov.from c.in-Some.moov.end c.in-Some.ensures.from
          (c.in-Some.ensures.end ∙ c.end_of-end.ensures.end) c.in-Ok-places_with.ensures.places c.in-Ok-places_with.ensures.many c.requires.follow;
      len_is = c.in-Some.ensures.len;
    }
