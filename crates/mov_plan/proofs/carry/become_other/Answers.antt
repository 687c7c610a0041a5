use Rattle.std.proofs.Common.{◌∙◌, List, ap, arith}
use Rattle.std.specs.List.{insert}
use Rattle.mov_plan.specs.Carry.{with_bytes}
use Rattle.mov_plan.specs.declared.place.Place.{Place}
use Rattle.mov_plan.proofs.Carrying.{other_is}
use Rattle.mov_plan.proofs.carry.become_other.Goals as goal

pub returns : goal.returns
returns c =
    let old = c.remove-old.result in
    c.in-Ok.ensures.items ∙ ap (λ (ps : List Place). insert ps c.args.k (with_bytes c.args.now old)) c.remove-old.ensures.items
    ∙ other_is c.args.k c.args.now old c.args.places.now.items (omega (arith, c.if-k-len.false, c.len.ensures)) c.remove-old.ensures.value
