use Rattle.std.proofs.Common.{rules, subst, sym, ap, ◌∙◌, ◌≡◌, ◌+◌, List, map, length, cond, refl}
use Rattle.std.specs.List.{flat_map}
use Rattle.part_tree.specs.Large.{limited}
use Rattle.container_model.specs.Splice.{splice}
use Rattle.wave_model.specs.New.{new_file}
use Rattle.unit_plan.specs.declared.cut.CutAt.{CutAt}
use Rattle.unit_plan.specs.Cuts.{FitsIn, SpansAscend, cut_in, patch_of}
use Rattle.unit_plan.specs.Planned as Units
use Rattle.unit_plan.specs.Sized.{spliced_len}
use Rattle.wave_plan.proofs.Answered.{file_fits, file_large, file_told, form_told, new_long, refuses}
use Rattle.wave_plan.proofs.Numbers.{framed_ascend, framed_fits}
use Rattle.wave_plan.proofs.Told.{makes_new, size_told}
use Rattle.wave_plan.proofs.plan.plan_narrow.Goals as goal

pub new_len-requires : goal.new_len-requires
new_len-requires c =
    subst (λ (ks : List CutAt). SpansAscend 0 ks c.args.frame.now.len) (sym (c.deref.ensures.value ∙ c.in-Ok.ensures)) (framed_ascend c.args.frame.now c.args.units c.requires.stands c.args.size)

pub plan_of-requires-clause-ascend : goal.plan_of-requires-clause-ascend
plan_of-requires-clause-ascend c =
    subst (λ (ks : List CutAt). SpansAscend 0 ks c.args.frame.now.len) (sym (c.deref-2.ensures.value ∙ c.in-Ok.ensures)) (framed_ascend c.args.frame.now c.args.units c.requires.stands c.args.size)

pub plan_of-requires-clause-fits : goal.plan_of-requires-clause-fits
plan_of-requires-clause-fits c = λ fit.
    let sum : c.args.size + c.args.frame.now.len ≡ spliced_len c.args.frame.now.len c.args.units.cuts.items + c.args.frame.now.size = c.requires.sum in
    subst (FitsIn c.args.frame.now.len) (sym (c.deref-2.ensures.value ∙ c.in-Ok.ensures)) (framed_fits c.args.frame.now c.args.units c.requires.stands c.args.size sum fit)

pub returns-in-Some-first_passed-clause-plans : goal.returns-in-Some-first_passed-clause-plans
returns-in-Some-first_passed-clause-plans c = λ b e bytes sup frame comes listed.
    let f = c.args.frame.now in
    let u = c.args.units in
    let n = c.args.size in
    let is = size_told b e bytes sup f frame u comes c.requires.stands (spliced_len f.len u.cuts.items) n refl c.requires.sum in
    let parts : c.in-Some.parts ≡ u.parts + cond f.big 1 0 = search rules in
    refuses b e bytes sup f frame u comes c.requires.stands c.in-Some.parts n (limited c.in-Some-first_passed.field-0.limit c.in-Some-first_passed.field-0.size) listed parts is c.in-Some-first_passed.ensures

pub returns-then-len-gt-MOST_LEN-clause-plans : goal.returns-then-len-gt-MOST_LEN-clause-plans
returns-then-len-gt-MOST_LEN-clause-plans c = λ b e bytes sup frame comes listed.
    let f = c.args.frame.now in
    let u = c.args.units in
    let n = c.args.size in
    let is = size_told b e bytes sup f frame u comes c.requires.stands (spliced_len f.len u.cuts.items) n refl c.requires.sum in
    let parts : c.in-Some.parts ≡ u.parts + cond f.big 1 0 = search rules in
    let len = c.in-Some-new_len.len in
    let long : len ≡ length (new_file b e) = c.in-Some-new_len.ensures ∙ ap (spliced_len f.len) (c.deref.ensures.value ∙ c.in-Ok.ensures) ∙ sym (new_long b e bytes sup f frame u comes c.requires.stands n is) in
    file_told b e bytes sup f frame u comes c.requires.stands c.in-Some.parts n len listed parts is c.in-None.ensures long
    ∙ file_large b e bytes sup f frame u comes c.requires.stands len c.if-len-gt-MOST_LEN.true

pub returns-clause-plans : goal.returns-clause-plans
returns-clause-plans c = λ b e bytes sup frame comes listed.
    let f = c.args.frame.now in
    let u = c.args.units in
    let n = c.args.size in
    let is = size_told b e bytes sup f frame u comes c.requires.stands (spliced_len f.len u.cuts.items) n refl c.requires.sum in
    let sum : n + f.len ≡ spliced_len f.len u.cuts.items + f.size = c.requires.sum in
    let parts : c.in-Some.parts ≡ u.parts + cond f.big 1 0 = search rules in
    let len = c.in-Some-new_len.len in
    let long : len ≡ length (new_file b e) = c.in-Some-new_len.ensures ∙ ap (spliced_len f.len) (c.deref.ensures.value ∙ c.in-Ok.ensures) ∙ sym (new_long b e bytes sup f frame u comes c.requires.stands n is) in
    let small = file_told b e bytes sup f frame u comes c.requires.stands c.in-Some.parts n len listed parts is c.in-None.ensures long ∙ file_fits b e bytes sup f frame u comes c.requires.stands len c.if-len-gt-MOST_LEN.false in
    let cuts_are = c.deref-2.ensures.value ∙ c.in-Ok.ensures in
    let whole = sym frame.len in
    record {
      fits = small;
      makes = c.in-Ok-plan_of.ensures.applied b whole ∙ ap (λ (ks : List CutAt). splice b (map (cut_in b) ks)) cuts_are ∙ makes_new b e bytes sup f frame u comes c.requires.stands n is;
      form = form_told b e bytes sup f frame u comes c.requires.stands n len sum is long small c.in-Ok-plan_of.plan c.in-Ok-plan_of.ensures.can
          (subst (λ (ks : List CutAt). Units.IsPlanOf u.fits f.len len (flat_map patch_of ks) c.in-Ok-plan_of.plan) cuts_are c.in-Ok-plan_of.ensures.form);
      belongs = c.in-Ok-plan_of.ensures.belongs b whole;
    }
