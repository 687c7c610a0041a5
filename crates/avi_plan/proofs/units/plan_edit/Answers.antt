use Rattle.std.proofs.Common.{◌≡◌, ◌∙◌, ◌++◌, None, map, sym}
use Rattle.std.specs.List.{flat_map}
use Rattle.part_tree.specs.Large.{limited}
use Rattle.container_model.specs.Tests.{or_else}
use Rattle.carrier_model.specs.Gaps.{moves_of}
use Rattle.unit_plan.specs.Cuts.{cut_in}
use Rattle.unit_plan.specs.Sized.{spliced_len}
use Rattle.avi_model.specs.After.{large_after}
use Rattle.avi_model.specs.Avi.{avi_of, first_movi}
use Rattle.avi_model.specs.Index.{base}
use Rattle.avi_plan.specs.Changes.{refused}
use Rattle.avi_plan.specs.Form.{sizes}
use Rattle.avi_plan.specs.Planned.{too_long}
use Rattle.avi_plan.specs.Tables.{changes_of, tables_in}
use Rattle.avi_plan.proofs.Answered.{applied_is, declines, form_told, refuses, told}
use Rattle.avi_plan.proofs.Standing.{tabled}
use Rattle.avi_plan.proofs.units.plan_edit.Goals as goal

pub returns-in-Some-clause-plans : goal.returns-in-Some-clause-plans
returns-in-Some-clause-plans g c = λ b e held bytes sup known tables effect comes.
    refuses b e bytes sup c.args.form.now known c.args.size c.args.edit effect comes (limited c.in-Some.field-0.limit c.in-Some.field-0.size) c.in-Some.ensures

pub returns-in-Err-clause-plans : goal.returns-in-Err-clause-plans
returns-in-Err-clause-plans g c = λ b e held bytes sup known tables effect comes.
    let f = c.args.form.now in
    let ms = moves_of (map (cut_in b) c.args.edit.cuts.items) f.len in
    let s = or_else (refused ms b (flat_map (changes_of ms (base b)) (tables_in b))) (too_long (spliced_len f.len (sizes f c.args.size ++ c.args.edit.cuts.items))) in
    declines b e s c.in-Err.fault (told b e bytes sup f known c.args.size c.args.edit effect comes c.in-None.ensures)
    (c.in-Err.ensures.large b (first_movi (avi_of b)).at (base b) (tables_in b) held (sym known.len) (tabled b bytes sup.file) tables)

pub returns-clause-plans : goal.returns-clause-plans
returns-clause-plans g c = λ b e held bytes sup known tables effect comes.
    let f = c.args.form.now in
    let n = c.args.size in
    let u = c.args.edit in
    let movi = (first_movi (avi_of b)).at in
    let none = c.in-None.ensures in
    let whole = sym known.len in
    let stand = tabled b bytes sup.file in
    let small : large_after b e ≡ None = told b e bytes sup f known n u effect comes none ∙ c.in-Ok.ensures.large b movi (base b) (tables_in b) held whole stand tables in
    let named = c.in-Ok.ensures.named b movi (base b) (tables_in b) held whole stand tables in
    let form = form_told b e bytes sup f known n u effect comes none small c.in-Ok.plan c.in-Ok.ensures.can c.in-Ok.ensures.form in
    record {
      fits = small;
      makes = applied_is b e bytes sup f known n u effect comes none small c.in-Ok.plan c.requires.ascend named form (c.in-Ok.ensures.makes b movi (base b) (tables_in b) held whole stand tables);
      form = form;
      belongs = c.in-Ok.ensures.belongs b held whole;
    }
