use Rattle.std.proofs.Common.{rules, ◌≡◌, Err, refl, sym, subst, ap, ◌∙◌}
use Rattle.me_report.specs.Done.{done_line}
use Rattle.edit_planner.specs.Plan.{told_in}
use Rattle.metaedit_top.specs.declared.outcome.Stop.TheVariants as stop
use Rattle.metaedit_top.specs.Changed.{StartsChange}
use Rattle.metaedit_top.specs.Stage.{stop_of_plan}
use Rattle.metaedit_top.proofs.Prepared.{no_memory, not_planned, planned, the_summary}
use Rattle.metaedit_top.proofs.change.start_change.Goals as goal

pub returns-in_err-plan : goal.returns-in_err-plan
returns-in_err-plan g c =
    let a = g.D.Depot.disk c.args.depot.now in
    let b = g.D.Depot.disk c.plan.new.depot in
    let n = (told_in c.args.map.now).payload in
    let fault = c.in_err-plan.field-0.0 in
    let same : c.from_residual.result ≡ Err (stop_of_plan fault) = search rules in
    subst (StartsChange c.args.edit.now n a b) (sym same)
    (not_planned c.args.edit.now n a b c.in_err-plan.ensures.reads fault (stop_of_plan fault) refl c.in_err-plan.ensures.plans c.in_err-plan.ensures.cause)

pub returns-in_err-finished : goal.returns-in_err-finished
returns-in_err-finished g c =
    let a = g.D.Depot.disk c.args.depot.now in
    let b = g.D.Depot.disk c.plan.new.depot in
    let n = (told_in c.args.map.now).payload in
    let same : c.from_residual-in_err-finished.result ≡ Err stop.Memory = search rules in
    subst (StartsChange c.args.edit.now n a b) (sym same) (no_memory c.args.edit.now n a b c.in_ok-plan.ensures.reads stop.Memory refl)

pub returns-in_err-swap : goal.returns-in_err-swap
returns-in_err-swap g c =
    let a = g.D.Depot.disk c.args.depot.now in
    let b = g.D.Depot.disk c.plan.new.depot in
    let n = (told_in c.args.map.now).payload in
    let same : c.from_residual-in_err-swap.result ≡ Err stop.Memory = search rules in
    subst (StartsChange c.args.edit.now n a b) (sym same) (no_memory c.args.edit.now n a b c.in_ok-plan.ensures.reads stop.Memory refl)

pub returns : goal.returns
returns g c =
    let a = g.D.Depot.disk c.args.depot.now in
    let b = g.D.Depot.disk c.plan.new.depot in
    let n = (told_in c.args.map.now).payload in
    let told = ap (λ k. the_summary c.is_in_place.result k) c.payload.ensures in
    planned c.args.edit.now n a b c.in_ok-plan.ensures.reads c.in_ok-plan.plan c.in_ok-swap.swap c.in_ok-finished.finished c.is_in_place.result
    c.in_ok-plan.ensures.plans c.in_ok-plan.ensures.can c.in_ok-plan.ensures.belongs c.in_ok-swap.ensures c.is_in_place.ensures
    (c.in_ok-finished.ensures.summary ∙ told) (c.in_ok-finished.ensures.text ∙ ap done_line told)
