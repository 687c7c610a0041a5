use Rattle.std.proofs.Common.{rules, ◌≡◌, Err, ap, refl, subst, sym, ◌∙◌}
use Rattle.me_disk.proofs.Holds.{holds_on}
use Rattle.me_disk.proofs.Runs.{ReadsOnly-trans}
use Rattle.metaedit_top.specs.Asked.{reads_file}
use Rattle.metaedit_top.specs.Stage.{Acts, stop_of_read}
use Rattle.metaedit_top.specs.Told.{look_summary}
use Rattle.metaedit_top.proofs.Acted.{not_read}
use Rattle.metaedit_top.proofs.Looks.{show_acts, still_read}
use Rattle.metaedit_top.proofs.tell.show.Goals as goal

pub returns : goal.returns
returns g c = λ stood.
    let a = g.D.Depot.disk c.args.depot.now in
    let b = g.D.Depot.disk c.read.new.depot in
    let d = g.D.Depot.disk c.show_text.new.depot in
    show_acts c.args.request.now stood a d c.in_ok-map.map c.in_ok-map.ensures.tells (ReadsOnly-trans a b d c.in_ok-map.ensures.reads c.in_ok-text.ensures.reads) c.requires.settled
    (record { summary = c.look_summary-summary.result; text = c.in_ok-text.text }) c.requires.command
    (c.look_summary-summary.ensures ∙ ap (λ n. look_summary n 0) c.payload.ensures) (λ o held. c.in_ok-text.ensures.text o (holds_on a b o c.in_ok-map.ensures.reads held))

pub show_text-requires-clause-inside : goal.show_text-requires-clause-inside
show_text-requires-clause-inside g c =
    let read = still_read (g.D.Depot.disk c.args.depot.now) (g.D.Depot.disk c.read.new.depot) c.in_ok-map.map c.in_ok-map.ensures.reads c.in_ok-map.ensures.tells in
    read.bodies_inside

pub show_text-requires-clause-tables : goal.show_text-requires-clause-tables
show_text-requires-clause-tables g c =
    let read = still_read (g.D.Depot.disk c.args.depot.now) (g.D.Depot.disk c.read.new.depot) c.in_ok-map.map c.in_ok-map.ensures.reads c.in_ok-map.ensures.tells in
    read.tables

pub returns-in_err-map : goal.returns-in_err-map
returns-in_err-map g c = λ stood.
    let q = c.args.request.now in
    let a = g.D.Depot.disk c.args.depot.now in
    let b = g.D.Depot.disk c.read.new.depot in
    let fault = c.in_err-map.field-0.0 in
    let same : c.from_residual.result ≡ Err (stop_of_read fault) = search rules in
    let h = c.in_err-map.ensures in
    subst (Acts q stood a b) (sym same)
    (not_read q stood a b h.reads fault (stop_of_read fault) refl (ap reads_file c.requires.command) h.file h.cause)
