use Rattle.std.proofs.Common.{rules, ◌≡◌, Err, refl, sym, subst, ap, ◌∙◌}
use Rattle.metaedit_top.specs.Run.{Runs}
use Rattle.metaedit_top.specs.Stage.{counted, stop_of_recovery}
use Rattle.metaedit_top.proofs.Ran.{ran_done, ran_refused, ran_stopped, stood, wrote_exact}
use Rattle.metaedit_top.proofs.run.run.Goals as goal

pub returns-in_err-recovered : goal.returns-in_err-recovered
returns-in_err-recovered g c =
    let a = g.D.Depot.disk c.args.depot.now in
    let b = g.D.Depot.disk c.recover.new.depot in
    let fault = c.in_err-recovered.field-0.0 in
    let h = c.in_err-recovered.ensures in
    let same : c.from_residual.result ≡ Err (stop_of_recovery fault) = search rules in
    subst (Runs c.args.request.now a b) (sym same)
    (ran_refused c.args.request.now a b fault (stop_of_recovery fault) refl h.no_file h.damaged h.cause h.refusal h.written h.broken h.since h.tells h.later)

pub returns-in-Ok : goal.returns-in-Ok
returns-in-Ok g c =
    let a = g.D.Depot.disk c.args.depot.now in
    let b = g.D.Depot.disk c.recover.new.depot in
    let d = g.D.Depot.disk c.act.new.depot in
    let r = c.in_ok-recovered.ensures in
    ran_done c.args.request.now a b d r.done r.tells r.later r.crash (wrote_exact a b c.in_ok-recovered.recovered r.written) c.is_redone.result c.in-Ok.finished
    (λ tells. c.is_redone.ensures ∙ stood a c.in_ok-recovered.recovered tells r.nothing r.redone) (g.met.D.Depot.lawful c.recover.new.depot) r.since c.in-Ok.ensures

pub returns-in-Err : goal.returns-in-Err
returns-in-Err g c =
    let a = g.D.Depot.disk c.args.depot.now in
    let b = g.D.Depot.disk c.recover.new.depot in
    let d = g.D.Depot.disk c.act.new.depot in
    let r = c.in_ok-recovered.ensures in
    let stop = c.in-Err.stop in
    ran_stopped c.args.request.now a b d r.done r.tells r.later r.crash (wrote_exact a b c.in_ok-recovered.recovered r.written) c.is_redone.result stop c.counted_stop.result
    (c.counted_stop.ensures ∙ ap (λ n. counted n c.faults.result stop) c.faults-before.ensures ∙ ap (λ n. counted a.faults n stop) c.faults.ensures)
    (g.met.D.Depot.lawful c.recover.new.depot) r.since c.in-Err.ensures
