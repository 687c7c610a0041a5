use Rattle.std.proofs.Common.{sym, subst, refl, List}
use Rattle.unit_plan.specs.Places.{Follow}
use Rattle.unit_plan.specs.declared.place.Place.{Place}
use Rattle.avi_plan.proofs.Rowed.{follow_more}
use Rattle.avi_plan.proofs.strl.StrlRow.put.Goals as goal

pub returns-clause-follow : goal.returns-clause-follow
returns-clause-follow c from h =
    let row = c.args.self.now in
    let p : Place = record { at = row.at; next = c.args.next; lacks_pad = c.args.lacks_pad; parts = c.args.parts; what = c.args.what } in
    subst (λ (ps : List Place). Follow from ps c.args.next) (sym c.in-Ok.ensures.items) (follow_more from row.at row.places.items p h refl c.requires.order)
