use Rattle.std.proofs.Common.{◌∙◌, List, ap, subst, sym}
use Rattle.mov_plan.specs.Carry.{carried_by}
use Rattle.mov_plan.specs.Places.{Follow}
use Rattle.mov_plan.specs.declared.place.Place.{Place}
use Rattle.mov_plan.proofs.Carrying.{follow_carried}
use Rattle.mov_plan.proofs.carry.carry_atoms.Goals as goal

pub returns-clause-follow : goal.returns-clause-follow
returns-clause-follow c = λ end h.
    let places = c.in_ok-carry_one-2.ensures ∙ ap (carried_by c.args.from c.args.keys) c.in_ok-carry_one.ensures in
    subst (λ (ps : List Place). Follow c.args.from ps end) (sym places) (follow_carried c.args.keys c.args.from end _ (follow_carried c.args.user c.args.from end c.args.atoms.items h))
