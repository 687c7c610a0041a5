use Rattle.std.proofs.Common.{rules, ◌≡◌, Err, Ok, refl, sym, subst, ap, ◌∙◌}
use Rattle.metaedit_top.specs.Batch.{Readies, file_request}
use Rattle.metaedit_top.specs.Stage.{counted, stop_of_recovery}
use Rattle.metaedit_top.proofs.Ran.{wrote_exact}
use Rattle.metaedit_top.proofs.Readied.{not_readied, readied, unready}
use Rattle.metaedit_top.proofs.batch.ready_file.Goals as goal

pub returns-in_err-recover : goal.returns-in_err-recover
returns-in_err-recover g c = λ file.
    let a = g.D.Depot.disk c.args.depot.now in
    let b = g.D.Depot.disk c.recover.new.depot in
    let q = file_request c.args.edit.now file in
    let f = c.in_err-recover.field-0.0 in
    let e = c.in_err-recover.ensures in
    let same : c.from_residual.result ≡ Err (stop_of_recovery f) = search rules in
    subst (Readies q a b) (sym same)
    (not_readied q a b f (stop_of_recovery f) refl e.no_file e.damaged e.cause e.refusal e.written e.broken e.since e.crash e.tells e.later)

pub returns-in-Ok : goal.returns-in-Ok
returns-in-Ok g c = λ file.
    let a = g.D.Depot.disk c.args.depot.now in
    let b = g.D.Depot.disk c.recover.new.depot in
    let d = g.D.Depot.disk c.prepare.new.depot in
    let e = c.in_ok-recover.ensures in
    let h = c.in-Ok.ensures in
    readied c.args.edit.now file a b d (g.met.D.Depot.lawful c.recover.new.depot) e.done e.tells e.later e.crash e.since
    (wrote_exact a b c.in_ok-recover.field-0 e.written) h.reads c.in-Ok.prepared h

pub returns-in-Err : goal.returns-in-Err
returns-in-Err g c = λ file.
    let a = g.D.Depot.disk c.args.depot.now in
    let b = g.D.Depot.disk c.recover.new.depot in
    let d = g.D.Depot.disk c.prepare.new.depot in
    let e = c.in_ok-recover.ensures in
    let h = c.in-Err.ensures in
    let stop = c.in-Err.stop in
    unready c.args.edit.now file a b d (g.met.D.Depot.lawful c.recover.new.depot) e.done e.tells e.later e.crash e.since
    (wrote_exact a b c.in_ok-recover.field-0 e.written) h.reads stop c.counted_stop.result
    (c.counted_stop.ensures ∙ ap (λ n. counted n c.faults.result stop) c.faults-before.ensures ∙ ap (λ n. counted a.faults n stop) c.faults.ensures)
    h
