use Rattle.std.proofs.Common.{rules, ◌≡◌, Err, ap, refl, subst, sym, ◌∙◌}
use Rattle.me_disk.proofs.Holds.{holds_on}
use Rattle.me_disk.proofs.Runs.{ReadsOnly-trans, rose_sooner}
use Rattle.metaedit_top.specs.Asked.{digest_of, reads_file}
use Rattle.metaedit_top.specs.declared.outcome.Stop.TheVariants as stop
use Rattle.metaedit_top.specs.Stage.{Acts, stop_of_read}
use Rattle.metaedit_top.proofs.Acted.{no_depot, not_read}
use Rattle.metaedit_top.proofs.Looks.{md5_acts}
use Rattle.metaedit_top.proofs.tell.md5.Goals as goal

pub returns : goal.returns
returns g c = λ stood.
    let a = g.D.Depot.disk c.args.depot.now in
    let b = g.D.Depot.disk c.read.new.depot in
    let d = g.D.Depot.disk c.digest.new.depot in
    md5_acts c.args.request.now stood a d c.in_ok-map.map c.in_ok-map.ensures.tells (ReadsOnly-trans a b d c.in_ok-map.ensures.reads c.in_ok-digest.ensures.reads) c.requires.settled
    c.in_ok-finished.finished c.requires.command c.in_ok-digest.digest
    (λ o held. c.in_ok-digest.ensures.digest o (holds_on a b o c.in_ok-map.ensures.reads held) ∙ ap (digest_of o) c.hashed.ensures)
    c.in_ok-finished.ensures.summary c.in_ok-finished.ensures.text

pub returns-in_err-digest : goal.returns-in_err-digest
returns-in_err-digest g c = λ stood.
    let q = c.args.request.now in
    let a = g.D.Depot.disk c.args.depot.now in
    let b = g.D.Depot.disk c.read.new.depot in
    let d = g.D.Depot.disk c.digest.new.depot in
    let reads = c.in_ok-map.ensures.reads in
    let same : c.from_residual-in_err-digest.result ≡ Err stop.Depot = search rules in
    subst (Acts q stood a d) (sym same)
    (no_depot q stood a d (ReadsOnly-trans a b d reads c.digest.ensures.reads) stop.Depot refl (rose_sooner a.faults b.faults d.faults reads.faults c.in_err-digest.ensures.cause.failed))

pub returns-in_err-map : goal.returns-in_err-map
returns-in_err-map g c = λ stood.
    let q = c.args.request.now in
    let a = g.D.Depot.disk c.args.depot.now in
    let b = g.D.Depot.disk c.read.new.depot in
    let fault = c.in_err-map.field-0.0 in
    let same : c.from_residual.result ≡ Err (stop_of_read fault) = search rules in
    let h = c.in_err-map.ensures in
    subst (Acts q stood a b) (sym same)
    (not_read q stood a b h.reads fault (stop_of_read fault) refl (ap reads_file c.requires.command) h.file h.cause)
