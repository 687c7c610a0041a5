use Rattle.std.proofs.Common.{rules, ◌≡◌, Err, ap, refl, subst, sym}
use Rattle.metaedit_top.specs.Asked.{reads_file}
use Rattle.metaedit_top.specs.Stage.{Acts, stop_of_read}
use Rattle.metaedit_top.proofs.Acted.{not_read}
use Rattle.metaedit_top.proofs.Looks.{validate_acts}
use Rattle.metaedit_top.proofs.tell.validate.Goals as goal

pub returns : goal.returns
returns g c = λ stood.
    let a = g.D.Depot.disk c.args.depot.now in
    let b = g.D.Depot.disk c.read.new.depot in
    validate_acts c.args.request.now stood a b c.in_ok-map.map c.in_ok-map.ensures.tells c.in_ok-map.ensures.reads c.requires.settled
    c.in_ok-finished.finished c.requires.command c.in_ok-finished.ensures.summary c.in_ok-finished.ensures.text

pub returns-in_err-map : goal.returns-in_err-map
returns-in_err-map g c = λ stood.
    let q = c.args.request.now in
    let a = g.D.Depot.disk c.args.depot.now in
    let b = g.D.Depot.disk c.read.new.depot in
    let fault = c.in_err-map.field-0.0 in
    let same : c.from_residual.result ≡ Err (stop_of_read fault) = search rules in
    let h = c.in_err-map.ensures in
    subst (Acts q stood a b) (sym same)
    (not_read q stood a b h.reads fault (stop_of_read fault) refl (ap reads_file c.requires.command) h.file h.cause)
