use Rattle.std.proofs.Common.{◌≡◌, ◌∙◌, ◌++◌, List, eqb, refl, sym, ap, subst, arith}
use Rattle.me_disk.proofs.Holds.{holds_on}
use Rattle.unit_plan.specs.Cuts.{SpansAscend}
use Rattle.unit_plan.specs.Sized.{spliced_len}
use Rattle.unit_plan.specs.declared.cut.CutAt.{CutAt}
use Rattle.avi_plan.specs.Form.{sizes}
use Rattle.avi_plan.specs.Patched.{FitsOn}
use Rattle.avi_plan.proofs.Entire.{comes_to}
use Rattle.avi_plan.proofs.Numbers.{file_asc, joined_fits, moved_more, padded_asc, stand_fits}
use Rattle.avi_plan.proofs.row.plan_row.Goals as goal

pub new_len-requires : goal.new_len-requires
new_len-requires g c =
    let f = c.args.form.now in
    subst (λ (ks : List CutAt). SpansAscend 0 ks f.len) (sym c.deref.ensures.value)
    (file_asc f c.requires.sound c.args.names c.requires.names f.others c.args.end c.requires.high c.in-Ok.units c.in-Ok-joined.edit c.in-Ok.ensures.ascend c.in-Ok-joined.ensures)

pub size_after-size-requires-clause-more : goal.size_after-size-requires-clause-more
size_after-size-requires-clause-more g c =
    let f = c.args.form.now in
    let moved : c.in-Some.moved ≡ spliced_len f.len c.in-Ok-joined.edit.cuts.items = c.in-Some.ensures ∙ ap (spliced_len f.len) c.deref.ensures.value in
    omega (arith, moved, moved_more f c.requires.sound c.args.names c.requires.names f.others c.args.end c.requires.high c.in-Ok.units c.in-Ok-joined.edit c.in-Ok.ensures.ascend c.in-Ok-joined.ensures)

pub plan_edit-requires-clause-ascend : goal.plan_edit-requires-clause-ascend
plan_edit-requires-clause-ascend g c =
    let f = c.args.form.now in
    subst (λ (ks : List CutAt). SpansAscend 8 ks f.len) (sym c.in-Ok-with_pad.ensures)
    (padded_asc f c.requires.sound c.args.names c.requires.names f.others c.args.end c.requires.high c.in-Ok.units c.in-Ok-joined.edit c.in-Ok.ensures.ascend c.in-Ok-joined.ensures c.size_after-size.result c.in-Ok-pad_stays.stays)

pub plan_edit-requires-clause-fits : goal.plan_edit-requires-clause-fits
plan_edit-requires-clause-fits g c = λ fit.
    let f = c.args.form.now in
    let n = c.size_after-size.result in
    let moved : c.in-Some.moved ≡ spliced_len f.len c.in-Ok-joined.edit.cuts.items = c.in-Some.ensures ∙ ap (spliced_len f.len) c.deref.ensures.value in
    let how = stand_fits 12 c.args.end f.len (eqb c.args.end f.len) c.in-Ok.units refl c.in-Ok.ensures.ascend c.in-Ok.ensures.fits in
    subst (λ (ks : List CutAt). FitsOn f.len (sizes f n ++ ks)) (sym c.in-Ok-with_pad.ensures)
    (joined_fits f c.requires.sound c.args.names c.requires.names f.others c.args.end c.requires.high c.in-Ok.units c.in-Ok-joined.edit c.in-Ok.ensures.ascend c.in-Ok-joined.ensures n c.in-Ok-pad_stays.stays
    (omega (arith, moved, c.size_after-size.ensures)) c.in-Ok-pad_stays.ensures.same c.in-Ok-pad_stays.ensures.last how fit)

pub returns-in-Err-plan_edit-clause-plans : goal.returns-in-Err-plan_edit-clause-plans
returns-in-Err-plan_edit-clause-plans g c = λ b e held bytes sup tables are shapes listed.
    let f = c.args.form.now in
    let n = c.size_after-size.result in
    let known = c.requires.form b held in
    let moved : c.in-Some.moved ≡ spliced_len f.len c.in-Ok-joined.edit.cuts.items = c.in-Some.ensures ∙ ap (spliced_len f.len) c.deref.ensures.value in
    let how = stand_fits 12 c.args.end f.len (eqb c.args.end f.len) c.in-Ok.units refl c.in-Ok.ensures.ascend c.in-Ok.ensures.fits in
    let out = c.in-Ok.ensures.outcome b (omega (arith, c.requires.high, c.requires.sound.inside, known.len)) in
    c.in-Err-plan_edit.ensures.plans b e (holds_on (g.D.Depot.disk c.args.depot.now) (g.D.Depot.disk c.pad_stays.new.depot) b c.in-Ok-pad_stays.ensures.reads held) bytes sup known tables listed.effect
    (comes_to b e bytes sup f known c.requires.sound c.args.names are c.requires.names c.args.end c.requires.high c.args.places.now c.requires.follow c.in-Ok.units c.in-Ok-joined.edit c.in-Ok.ensures.ascend (eqb c.args.end f.len) refl out shapes c.in-Ok-joined.ensures
    n (omega (arith, moved, c.size_after-size.ensures)) c.in-Ok-pad_stays.stays (c.in-Ok-pad_stays.ensures.stays b held bytes) c.in-Ok-pad_stays.ensures.same c.in-Ok-pad_stays.ensures.last how listed
    (record { cuts = c.in-Ok-with_pad.cuts; fits = c.in-Ok-joined.edit.fits; parts = c.in-Ok-joined.edit.parts }) c.in-Ok-with_pad.ensures refl refl)

pub returns-clause-plans : goal.returns-clause-plans
returns-clause-plans g c = λ b e held bytes sup tables are shapes listed.
    let f = c.args.form.now in
    let n = c.size_after-size.result in
    let known = c.requires.form b held in
    let moved : c.in-Some.moved ≡ spliced_len f.len c.in-Ok-joined.edit.cuts.items = c.in-Some.ensures ∙ ap (spliced_len f.len) c.deref.ensures.value in
    let how = stand_fits 12 c.args.end f.len (eqb c.args.end f.len) c.in-Ok.units refl c.in-Ok.ensures.ascend c.in-Ok.ensures.fits in
    let out = c.in-Ok.ensures.outcome b (omega (arith, c.requires.high, c.requires.sound.inside, known.len)) in
    c.in-Ok-plan_edit.ensures.plans b e (holds_on (g.D.Depot.disk c.args.depot.now) (g.D.Depot.disk c.pad_stays.new.depot) b c.in-Ok-pad_stays.ensures.reads held) bytes sup known tables listed.effect
    (comes_to b e bytes sup f known c.requires.sound c.args.names are c.requires.names c.args.end c.requires.high c.args.places.now c.requires.follow c.in-Ok.units c.in-Ok-joined.edit c.in-Ok.ensures.ascend (eqb c.args.end f.len) refl out shapes c.in-Ok-joined.ensures
    n (omega (arith, moved, c.size_after-size.ensures)) c.in-Ok-pad_stays.stays (c.in-Ok-pad_stays.ensures.stays b held bytes) c.in-Ok-pad_stays.ensures.same c.in-Ok-pad_stays.ensures.last how listed
    (record { cuts = c.in-Ok-with_pad.cuts; fits = c.in-Ok-joined.edit.fits; parts = c.in-Ok-joined.edit.parts }) c.in-Ok-with_pad.ensures refl refl)
