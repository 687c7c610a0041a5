use Rattle.std.proofs.Common.{rules, ◌≡◌, Err, List, ℕ, refl, sym, subst, ap, ◌∙◌}
use Rattle.part_tree.specs.declared.fields.Entry.{Entry}
use Rattle.part_tree.specs.Fields.{values}
use Rattle.field_model.specs.Lawful.{IsLawful}
use Rattle.metaedit_top.specs.Asked.{reads_file}
use Rattle.metaedit_top.specs.Stage.{Acts, stop_of_read}
use Rattle.metaedit_top.specs.Tables.{exported, form_of}
use Rattle.metaedit_top.specs.Told.{look_summary}
use Rattle.metaedit_top.proofs.Acted.{not_read}
use Rattle.metaedit_top.proofs.Exports.{export_acts}
use Rattle.metaedit_top.proofs.export.export.Goals as goal

pub exported-requires : goal.exported-requires
exported-requires g c = subst (λ (es : List Entry). IsLawful (values es)) (sym c.fields.ensures) c.in_ok-map.ensures.tells.lawful

pub returns : goal.returns
returns g c = λ stood.
    let a = g.D.Depot.disk c.args.depot.now in
    let b = g.D.Depot.disk c.read.new.depot in
    export_acts c.args.request.now stood a b c.in_ok-map.map c.in_ok-map.ensures.tells c.in_ok-map.ensures.reads c.requires.settled
    (record { summary = c.look_summary-summary.result; text = c.in_ok-text.text }) c.requires.command
    (c.look_summary-summary.ensures ∙ ap (λ n. look_summary n 0) c.payload.ensures)
    (c.in_ok-text.ensures
    ∙ ap (λ (file : List ℕ). exported (form_of c.args.request.now.format) file c.fields.result.now) c.as_slice.ensures ∙ ap (exported (form_of c.args.request.now.format) c.args.request.now.file) c.fields.ensures)

pub returns-in_err-map : goal.returns-in_err-map
returns-in_err-map g c = λ stood.
    let q = c.args.request.now in
    let a = g.D.Depot.disk c.args.depot.now in
    let b = g.D.Depot.disk c.read.new.depot in
    let fault = c.in_err-map.field-0.0 in
    let same : c.from_residual.result ≡ Err (stop_of_read fault) = search rules in
    let h = c.in_err-map.ensures in
    subst (Acts q stood a b) (sym same)
    (not_read q stood a b h.reads fault (stop_of_read fault) refl (ap reads_file c.requires.command) h.file h.cause)
