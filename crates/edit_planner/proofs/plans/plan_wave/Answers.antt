use Rattle.std.proofs.Common.{ap, arith, subst, sym, ◌∙◌, ◌≡◌, ◌^◌, ℕ}
use Rattle.std.specs.Prelude.{Some}
use Rattle.me_disk.proofs.Holds.{holds_on}
use Rattle.part_tree.specs.Fields.{values}
use Rattle.part_tree.specs.Large.{first_above, limited}
use Rattle.bext_fields.specs.Change.{raw_items_of}
use Rattle.edit_planner.specs.Places.{list_sizes}
use Rattle.wave_model.specs.Fields.{fields}
use Rattle.wave_model.specs.Wave.{kind_of}
use Rattle.wave_model.proofs.Items.{items_fine}
use Rattle.wave_model.proofs.Law.{kind_is}
use Rattle.wave_model.proofs.Values.{ItemsFine}
use Rattle.wave_model.proofs.Why.{why_supported}
use Rattle.wave_plan.specs.Widened.{IsWideningOf}
use Rattle.edit_planner.proofs.Widens.{widening_known}
use Rattle.edit_planner.proofs.Ready.{are_fine, holds_back, is_accepted, is_listed, items_are, list_large, shapes_are}
use Rattle.edit_planner.proofs.plans.plan_wave.Goals as goal

pub places_of-requires-clause-fine : goal.places_of-requires-clause-fine
places_of-requires-clause-fine g c =
    are_fine c.args.wave.now.kind (values c.args.wave.now.fields) c.args.edit.now c.in-Ok.changes.items c.deref.result.now (sym c.is_wave.ensures ∙ c.if-not-is_wave.false) c.requires.ready
    (c.in-Ok.ensures.effective (values c.args.wave.now.fields) c.requires.ready.changes_all) c.deref.ensures.value

pub returns-in-Err-TooLarge-clause-plans : goal.returns-in-Err-TooLarge-clause-plans
returns-in-Err-TooLarge-clause-plans g c = λ b holds bytes.
    let m = c.args.wave.now in
    let e = c.args.edit.now in
    let known = c.requires.mapped b holds in
    let r = raw_items_of c.deref.result.now in
    let is = items_are b m e c.in-Ok.changes.items c.deref.result.now known (c.in-Ok.ensures.effective (values m.fields) c.requires.ready.changes_all) c.deref.ensures.value in
    let some : first_above (list_sizes b r) ≡ Some (limited (2 ^ 24) c.in-Err-TooLarge.size) = rw c.in-Err-TooLarge.field-0-is at (c.in-Err-TooLarge.ensures.row b bytes holds) in
    list_large b m e r (limited (2 ^ 24) c.in-Err-TooLarge.size) bytes known c.requires.ready is some ∙ ap (λ (n : ℕ). Some (limited (2 ^ 24) n)) (sym c.in-Err-TooLarge.size-is)

pub plan_row-requires-clause-form : goal.plan_row-requires-clause-form
plan_row-requires-clause-form g c = λ b holds. c.form_of-form.ensures.form b (c.requires.mapped b (holds_back (g.D.Depot.disk c.args.depot.now) (g.D.Depot.disk c.places_of.new.depot) b c.in-Ok-places_of.ensures.reads holds))

pub plan_row-requires-clause-high : goal.plan_row-requires-clause-high
plan_row-requires-clause-high g c = omega (arith, c.form_of-form.ensures.end, c.in-Ok-places_of.ensures.inside.2)

pub returns-in-Err-plan_row-clause-plans : goal.returns-in-Err-plan_row-clause-plans
returns-in-Err-plan_row-clause-plans g c = λ b holds bytes.
    let m = c.args.wave.now in
    let e = c.args.edit.now in
    let known = c.requires.mapped b holds in
    let r = raw_items_of c.deref.result.now in
    let is = items_are b m e c.in-Ok.changes.items c.deref.result.now known (c.in-Ok.ensures.effective (values m.fields) c.requires.ready.changes_all) c.deref.ensures.value in
    let row = c.in-Ok-places_of.ensures.row b bytes holds in
    let wider = subst (IsWideningOf b) (sym c.widening_of-widening.ensures.widening)
    (widening_known b bytes m known r (subst ItemsFine (sym is) (items_fine (kind_of b) (fields b) e (kind_is b bytes (why_supported b known.supported)) (is_accepted b m e known c.requires.ready))) row.lists) in
    let now = holds_on (g.D.Depot.disk c.args.depot.now) (g.D.Depot.disk c.places_of.new.depot) b c.in-Ok-places_of.ensures.reads holds in
    c.in-Err-plan_row.ensures.plans b e now bytes row.begins wider (shapes_are b e r c.in-Ok-places_of.row c.deref-2.result.now row is c.deref-2.ensures.value) (is_listed b m e r known c.requires.ready is row.lists)

pub returns-clause-plans : goal.returns-clause-plans
returns-clause-plans g c = λ b holds bytes.
    let m = c.args.wave.now in
    let e = c.args.edit.now in
    let known = c.requires.mapped b holds in
    let r = raw_items_of c.deref.result.now in
    let is = items_are b m e c.in-Ok.changes.items c.deref.result.now known (c.in-Ok.ensures.effective (values m.fields) c.requires.ready.changes_all) c.deref.ensures.value in
    let row = c.in-Ok-places_of.ensures.row b bytes holds in
    let wider = subst (IsWideningOf b) (sym c.widening_of-widening.ensures.widening)
    (widening_known b bytes m known r (subst ItemsFine (sym is) (items_fine (kind_of b) (fields b) e (kind_is b bytes (why_supported b known.supported)) (is_accepted b m e known c.requires.ready))) row.lists) in
    let now = holds_on (g.D.Depot.disk c.args.depot.now) (g.D.Depot.disk c.places_of.new.depot) b c.in-Ok-places_of.ensures.reads holds in
    c.in-Ok-plan_row.ensures.plans b e now bytes row.begins wider (shapes_are b e r c.in-Ok-places_of.row c.deref-2.result.now row is c.deref-2.ensures.value) (is_listed b m e r known c.requires.ready is row.lists)
