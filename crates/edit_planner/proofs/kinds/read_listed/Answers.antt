use Rattle.std.proofs.Common.{◌≤◌, ◌-◌, length, sym, subst, arith}
use Rattle.std.specs.Prelude.{◌^◌}
use Rattle.field_model.specs.KindReads.{Refuses}
use Rattle.edit_planner.specs.Facts.{IsRead}
use Rattle.edit_planner.specs.Plan.{Maps}
use Rattle.edit_planner.proofs.OfKind.{of_avi}
use Rattle.edit_planner.proofs.MapTells.{avi_read}
use Rattle.edit_planner.proofs.kinds.read_listed.Goals as goal

pub returns-in-Err-clause-file : goal.returns-in-Err-clause-file
returns-in-Err-clause-file g c = λ o h. of_avi (λ k. Refuses k o c.in-Err.fault) o (c.requires o h) (c.in-Err.ensures.avi o h)

pub returns-clause-file : goal.returns-clause-file
returns-clause-file g c = λ o h. subst (Maps o) (sym c.of_avi.ensures.same) (c.in-Ok.ensures.avi o h)

pub returns-clause-tells : goal.returns-clause-tells
returns-clause-tells g c =
    let a = g.D.Depot.disk c.args.depot.now in
    let few : length c.in-Ok.map.streams.items ≤ 2 ^ 32 - 1 = omega (arith, c.len.ensures) in
    subst (IsRead a) (sym c.of_avi.ensures.same) (avi_read a c.in-Ok.map c.requires c.in-Ok.ensures.avi c.in-Ok.ensures.sound c.of_avi.ensures.ordered few)
