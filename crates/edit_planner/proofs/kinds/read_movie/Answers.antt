use Rattle.std.proofs.Common.{sym, subst}
use Rattle.field_model.specs.KindReads.{Refuses}
use Rattle.edit_planner.specs.Facts.{IsRead}
use Rattle.edit_planner.specs.Plan.{Maps}
use Rattle.edit_planner.proofs.OfKind.{of_mov}
use Rattle.edit_planner.proofs.MapTells.{mov_read}
use Rattle.edit_planner.proofs.kinds.read_movie.Goals as goal

pub returns-in-Err-clause-file : goal.returns-in-Err-clause-file
returns-in-Err-clause-file g c = λ o h. of_mov (λ k. Refuses k o c.in-Err.fault) o (c.requires o h) (c.in-Err.ensures.movie o h)

pub returns-in-Ok-clause-file : goal.returns-in-Ok-clause-file
returns-in-Ok-clause-file g c = λ o h. subst (Maps o) (sym c.of_mov.ensures.same) (c.in-Ok.ensures.movie o h)

pub returns-in-Ok-clause-tells : goal.returns-in-Ok-clause-tells
returns-in-Ok-clause-tells g c =
    let a = g.D.Depot.disk c.args.depot.now in
    subst (IsRead a) (sym c.of_mov.ensures.same) (mov_read a c.in-Ok.map c.requires c.in-Ok.ensures.movie c.in-Ok.ensures.sound c.of_mov.ensures.ordered)
