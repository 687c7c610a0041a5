use Rattle.std.proofs.Common.{◌≡◌, ◌∙◌, ap, map, subst, sym, List}
use Rattle.me_disk.specs.Holds.{Holds}
use Rattle.me_disk.proofs.Holds.{holds_on}
use Rattle.part_tree.specs.Fields.{values}
use Rattle.part_tree.specs.declared.plan.PlanFault.{PlanFault}
use Rattle.field_model.specs.KindReads.{Declines}
use Rattle.field_model.specs.Update.{RawItem}
use Rattle.unit_plan.specs.Places.{shape_in}
use Rattle.avi_model.specs.After.{all_changes, changed_by}
use Rattle.avi_model.specs.Avi.{avi_of}
use Rattle.avi_model.specs.Kind.{avi_kind}
use Rattle.avi_model.specs.Named.{Names}
use Rattle.avi_model.specs.NewFile.{Items, new_cells}
use Rattle.avi_model.proofs.NamesExact.{names_exact}
use Rattle.avi_plan.specs.Tables.{AreTables}
use Rattle.avi_plan.specs.Row.{told_row}
use Rattle.avi_plan.specs.NamesAt.{AreNames}
use Rattle.avi_plan.proofs.Listed.{list_passes}
use Rattle.edit_planner.proofs.AviReady.{declined, is_accepted, is_busy, items_are, listed}
use Rattle.edit_planner.proofs.Ready.{holds_back}
use Rattle.edit_planner.proofs.avi_plans.plan_avi.Goals as goal

pub named-requires-clause-mapped : goal.named-requires-clause-mapped
named-requires-clause-mapped g c = λ b holds. c.requires.mapped b (holds_back (g.D.Depot.disk c.args.depot.now) (g.D.Depot.disk c.read_form.new.depot) b c.in-Ok-read_form.ensures.reads holds)

pub returns-in-Err-avi_places-clause-plans : goal.returns-in-Err-avi_places-clause-plans
returns-in-Err-avi_places-clause-plans g c = λ b holds bytes.
    let m = c.args.avi.now in
    let e = c.args.edit.now in
    let known = c.requires.mapped b holds in
    let is = items_are b m e c.in-Ok.changes.items c.deref.result.now known (c.in-Ok.ensures.effective (values m.fields) c.requires.ready.changes_all) c.deref.ensures.value in
    let two_is = items_are b m e c.in-Ok.changes.items c.deref-2.result.now known (c.in-Ok.ensures.effective (values m.fields) c.requires.ready.changes_all) c.deref-2.ensures.value in
    let one : Holds (g.D.Depot.disk c.read_form.new.depot) b = holds_on (g.D.Depot.disk c.args.depot.now) (g.D.Depot.disk c.read_form.new.depot) b c.in-Ok-read_form.ensures.reads holds in
    let two : Holds (g.D.Depot.disk c.named.new.depot) b = holds_on (g.D.Depot.disk c.read_form.new.depot) (g.D.Depot.disk c.named.new.depot) b c.in-Ok-named.ensures.reads one in
    let told = c.in-Ok-read_form.ensures.tells b holds in
    let ok = is_accepted b m e known c.requires.ready in
    let busy = is_busy b m e c.in-Ok.changes.items c.deref.result.now known c.requires.ready is c.in-Ok.ensures.names c.deref.ensures.value in
    let places = c.in-Err-avi_places.ensures.places b two bytes told in
    let infos = ap (λ (rs : List RawItem). (changed_by rs).infos) two_is in
    subst (λ (f : PlanFault). Declines avi_kind b e f) (sym c.placeless.ensures)
    (declined b e c.in-Ok-named.names.lacks_pad _ c.in-Err-avi_places.fault infos (list_passes b e bytes ((names_exact b).0 known.supported) busy) places)

pub plan_row-requires-clause-form : goal.plan_row-requires-clause-form
plan_row-requires-clause-form g c = λ b holds.
    let two = holds_back (g.D.Depot.disk c.named.new.depot) (g.D.Depot.disk c.avi_places.new.depot) b c.in-Ok-avi_places.ensures.reads holds in
    let one = holds_back (g.D.Depot.disk c.read_form.new.depot) (g.D.Depot.disk c.named.new.depot) b c.in-Ok-named.ensures.reads two in
    (c.in-Ok-read_form.ensures.tells b (holds_back (g.D.Depot.disk c.args.depot.now) (g.D.Depot.disk c.read_form.new.depot) b c.in-Ok-read_form.ensures.reads one)).form

pub returns-clause-plans : goal.returns-clause-plans
returns-clause-plans g c = λ b holds bytes.
    let m = c.args.avi.now in
    let e = c.args.edit.now in
    let known = c.requires.mapped b holds in
    let is = items_are b m e c.in-Ok.changes.items c.deref.result.now known (c.in-Ok.ensures.effective (values m.fields) c.requires.ready.changes_all) c.deref.ensures.value in
    let two_is = items_are b m e c.in-Ok.changes.items c.deref-2.result.now known (c.in-Ok.ensures.effective (values m.fields) c.requires.ready.changes_all) c.deref-2.ensures.value in
    let one : Holds (g.D.Depot.disk c.read_form.new.depot) b = holds_on (g.D.Depot.disk c.args.depot.now) (g.D.Depot.disk c.read_form.new.depot) b c.in-Ok-read_form.ensures.reads holds in
    let two : Holds (g.D.Depot.disk c.named.new.depot) b = holds_on (g.D.Depot.disk c.read_form.new.depot) (g.D.Depot.disk c.named.new.depot) b c.in-Ok-named.ensures.reads one in
    let now : Holds (g.D.Depot.disk c.avi_places.new.depot) b = holds_on (g.D.Depot.disk c.named.new.depot) (g.D.Depot.disk c.avi_places.new.depot) b c.in-Ok-avi_places.ensures.reads two in
    let told = c.in-Ok-read_form.ensures.tells b holds in
    let ok = is_accepted b m e known c.requires.ready in
    let busy = is_busy b m e c.in-Ok.changes.items c.deref.result.now known c.requires.ready is c.in-Ok.ensures.names c.deref.ensures.value in
    let names = subst (λ (x : Names). AreNames b x c.in-Ok-named.names) (ap (λ (rs : List RawItem). (changed_by rs).names) is) (c.in-Ok-named.ensures.names b one bytes) in
    let places = c.in-Ok-avi_places.ensures.places b two bytes told in
    let infos = ap (λ (rs : List RawItem). (changed_by rs).infos) two_is in
    let shapes : map (shape_in b) c.deref-4.result.now ≡ told_row c.in-Ok-named.names.lacks_pad (new_cells (avi_of b) (all_changes b e).infos) =
    ap (map (shape_in b)) c.deref-4.ensures.value ∙ places.0 ∙ ap (λ (x : Items). told_row c.in-Ok-named.names.lacks_pad (new_cells (avi_of b) x)) infos
    in
    let lists = ap (λ (x : Items). Rattle.part_tree.specs.Large.first_above (Rattle.edit_planner.specs.AviPlaces.avi_sizes b x)) (sym infos) ∙ places.1 in
    let tables : AreTables b c.deref-3.result.now = subst (AreTables b) (sym c.deref-3.ensures.value) (c.in-Ok-tables_of.ensures b known) in
    c.plan_row.ensures.plans b e now bytes ((names_exact b).0 known.supported) tables names shapes (listed b e ok busy lists)
