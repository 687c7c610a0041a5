use Rattle.std.proofs.Common.{rules, ◌≡◌, List, length, false, Err, Some, None, refl, sym, subst, ap, ◌∙◌}
use Rattle.std.specs.Prelude.{◌==◌}
use Rattle.part_tree.specs.declared.field.EditItem.{EditItem}
use Rattle.part_tree.specs.declared.fields.Entry.{Entry}
use Rattle.part_tree.specs.Fields.{values}
use Rattle.field_model.specs.Lawful.{IsLawful}
use Rattle.field_model.specs.Update.{effective}
use Rattle.me_report.specs.Done.{done_line}
use Rattle.metaedit_top.specs.declared.outcome.Stop.TheVariants as stop
use Rattle.metaedit_top.specs.Changed.{Prepares}
use Rattle.metaedit_top.specs.Stage.{stop_of_read}
use Rattle.metaedit_top.specs.Told.{look_summary}
use Rattle.metaedit_top.proofs.Looks.{still_read}
use Rattle.metaedit_top.proofs.Prepared.{broken_in, idle, is_none, is_some, not_read, prepare_no_memory, ready, rule_stops, starts}
use Rattle.metaedit_top.proofs.set.prepare.Goals as goal

pub returns-in_err-map : goal.returns-in_err-map
returns-in_err-map g c =
    let a = g.D.Depot.disk c.args.depot.now in
    let b = g.D.Depot.disk c.read.new.depot in
    let fault = c.in_err-map.field-0.0 in
    let same : c.from_residual.result ≡ Err (stop_of_read fault) = search rules in
    subst (Prepares c.args.rules c.args.edit.now a b) (sym same)
    (not_read c.args.rules c.args.edit.now a b c.in_err-map.ensures.reads fault (stop_of_read fault) refl c.in_err-map.ensures.file c.in_err-map.ensures.cause)

pub first_broken-requires : goal.first_broken-requires
first_broken-requires g c = subst (λ (es : List Entry). IsLawful (values es)) (sym c.fields.ensures) c.in_ok-map.ensures.tells.lawful

pub effective-requires : goal.effective-requires
effective-requires g c = subst (λ (es : List Entry). IsLawful (values es)) (sym c.fields-2.ensures) c.in_ok-map.ensures.tells.lawful

pub returns-in-Some : goal.returns-in-Some
returns-in-Some g c =
    let m = c.in_ok-map.map in
    rule_stops c.args.rules c.args.edit.now (g.D.Depot.disk c.args.depot.now) (g.D.Depot.disk c.read.new.depot) c.in_ok-map.ensures.reads m c.in_ok-map.ensures.tells c.in-Some.broken
    (broken_in m c.kind.result c.streams.result c.fields.result.now c.args.edit.now c.args.rules (Some c.in-Some.broken) c.kind.ensures c.streams.ensures c.fields.ensures c.in-Some.ensures)

pub returns-in_err-edit : goal.returns-in_err-edit
returns-in_err-edit g c =
    let a = g.D.Depot.disk c.args.depot.now in
    let b = g.D.Depot.disk c.read.new.depot in
    let same : c.from_residual-in_err-edit.result ≡ Err stop.Memory = search rules in
    subst (Prepares c.args.rules c.args.edit.now a b) (sym same) (prepare_no_memory c.args.rules c.args.edit.now a b c.in_ok-map.ensures.reads stop.Memory refl)

pub returns-in_err-finished : goal.returns-in_err-finished
returns-in_err-finished g c =
    let a = g.D.Depot.disk c.args.depot.now in
    let b = g.D.Depot.disk c.read.new.depot in
    let same : c.from_residual-in_err-finished.result ≡ Err stop.Memory = search rules in
    subst (Prepares c.args.rules c.args.edit.now a b) (sym same) (prepare_no_memory c.args.rules c.args.edit.now a b c.in_ok-map.ensures.reads stop.Memory refl)

pub returns-then-is_empty : goal.returns-then-is_empty
returns-then-is_empty g c =
    let a = g.D.Depot.disk c.args.depot.now in
    let b = g.D.Depot.disk c.read.new.depot in
    let m = c.in_ok-map.map in
    let e = c.in_ok-edit.edit in
    let told = ap (λ n. look_summary n 0) c.payload.ensures in
    idle c.args.rules c.args.edit.now a b c.in_ok-map.ensures.reads m c.in_ok-map.ensures.tells e
    (broken_in m c.kind.result c.streams.result c.fields.result.now c.args.edit.now c.args.rules None c.kind.ensures c.streams.ensures c.fields.ensures c.in-None.ensures)
    (c.in_ok-edit.ensures ∙ ap (λ es. effective (values es) c.args.edit.now) c.fields-2.ensures)
    (is_none e (c.if-is_empty.ensures ∙ ap (λ (es : List EditItem). length es == 0) c.items.ensures.items))
    c.in_ok-finished.finished (c.in_ok-finished.ensures.summary ∙ told) (c.in_ok-finished.ensures.text ∙ ap done_line told)

pub start_change-requires-clause-read : goal.start_change-requires-clause-read
start_change-requires-clause-read g c = still_read (g.D.Depot.disk c.args.depot.now) (g.D.Depot.disk c.read.new.depot) c.in_ok-map.map c.in_ok-map.ensures.reads c.in_ok-map.ensures.tells

pub start_change-requires-clause-ready : goal.start_change-requires-clause-ready
start_change-requires-clause-ready g c =
    let a = g.D.Depot.disk c.args.depot.now in
    let b = g.D.Depot.disk c.read.new.depot in
    let m = c.in_ok-map.map in
    let e = c.in_ok-edit.edit in
    ready c.args.rules c.args.edit.now a b c.in_ok-map.ensures.reads m c.in_ok-map.ensures.tells e
    (broken_in m c.kind.result c.streams.result c.fields.result.now c.args.edit.now c.args.rules None c.kind.ensures c.streams.ensures c.fields.ensures c.in-None.ensures)
    (c.in_ok-edit.ensures ∙ ap (λ es. effective (values es) c.args.edit.now) c.fields-2.ensures)
    (is_some e (c.if-is_empty.ensures ∙ ap (λ (es : List EditItem). length es == 0) c.items.ensures.items))

pub returns : goal.returns
returns g c =
    let a = g.D.Depot.disk c.args.depot.now in
    let b = g.D.Depot.disk c.read.new.depot in
    let d = g.D.Depot.disk c.start_change.new.depot in
    let m = c.in_ok-map.map in
    let e = c.in_ok-edit.edit in
    starts c.args.rules c.args.edit.now a b c.in_ok-map.ensures.reads m c.in_ok-map.ensures.tells e
    (broken_in m c.kind.result c.streams.result c.fields.result.now c.args.edit.now c.args.rules None c.kind.ensures c.streams.ensures c.fields.ensures c.in-None.ensures)
    (c.in_ok-edit.ensures ∙ ap (λ es. effective (values es) c.args.edit.now) c.fields-2.ensures)
    d (is_some e (c.if-is_empty.ensures ∙ ap (λ (es : List EditItem). length es == 0) c.items.ensures.items)) c.start_change.result c.start_change.ensures
