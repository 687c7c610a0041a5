use Rattle.std.proofs.Common.{rules, subst, sym, ap, ◌∙◌, ◌≡◌, ◌+◌, ◌-◌, ◌^◌, ℕ, List, map, length, [], ◌∷◌, refl}
use Rattle.std.specs.List.{flat_map}
use Rattle.part_tree.specs.Large.{limited, first_above}
use Rattle.container_model.specs.Splice.{splice}
use Rattle.wave_model.specs.Widen.{file_after}
use Rattle.unit_plan.specs.declared.cut.CutAt.{CutAt}
use Rattle.unit_plan.specs.Cuts.{SpansAscend, cut_in, patch_of}
use Rattle.unit_plan.specs.Sized.{spliced_len}
use Rattle.wave_plan.specs.Widened.{more_bytes, more_parts, widened}
use Rattle.wave_plan.proofs.Widened.{both_fit, file_passes, makes_wide, parts_pass, wide_form, wide_long, wide_told}
use Rattle.wave_plan.proofs.widen.plan_widened.Goals as goal

pub returns-then-parts-gt-MOST_PARTS-clause-plans : goal.returns-then-parts-gt-MOST_PARTS-clause-plans
returns-then-parts-gt-MOST_PARTS-clause-plans c = λ b e bytes sup frame known comes listed is wide.
    let f = c.args.frame.now in
    let w = c.args.widening.now in
    let u = c.args.units in
    let parts : c.in-Some.parts ≡ u.parts + more_parts w.reserved = search rules in
    wide_told b e bytes sup w known listed wide f frame u comes c.requires.stands c.in-Some.parts parts
    ∙ parts_pass c.in-Some.parts (length (file_after b e)) c.if-parts-gt-MOST_PARTS.true

pub returns-then-len-gt-MOST_LEN-clause-plans : goal.returns-then-len-gt-MOST_LEN-clause-plans
returns-then-len-gt-MOST_LEN-clause-plans c = λ b e bytes sup frame known comes listed is wide.
    let f = c.args.frame.now in
    let w = c.args.widening.now in
    let u = c.args.units in
    let n = c.args.size in
    let k = c.in-Some-checked_add.riff_size in
    let parts : c.in-Some.parts ≡ u.parts + more_parts w.reserved = search rules in
    let sum : k ≡ n + more_bytes w.reserved = search rules in
    let ascend : SpansAscend 0 (widened f w n k u.cuts.items) f.len = subst (λ (ks : List CutAt). SpansAscend 0 ks f.len) (c.deref.ensures.value ∙ c.in-Ok.ensures) (c.if-not-ascends.ensures.0 refl) in
    let len = c.in-Some-new_len.len in
    let long : len ≡ length (file_after b e) = c.in-Some-new_len.ensures ∙ ap (spliced_len f.len) (c.deref-2.ensures.value ∙ c.in-Ok.ensures) ∙ sym (wide_long b e bytes sup w known listed wide f frame u comes c.requires.stands n k is sum ascend) in
    wide_told b e bytes sup w known listed wide f frame u comes c.requires.stands c.in-Some.parts parts
    ∙ ap (λ (m : ℕ). first_above (limited 65536 c.in-Some.parts ∷ (limited (2 ^ 63 - 1) m ∷ []))) (sym long)
    ∙ file_passes c.in-Some.parts len c.if-parts-gt-MOST_PARTS.false c.if-len-gt-MOST_LEN.true

pub returns-clause-plans : goal.returns-clause-plans
returns-clause-plans c = λ b e bytes sup frame known comes listed is wide.
    let f = c.args.frame.now in
    let w = c.args.widening.now in
    let u = c.args.units in
    let n = c.args.size in
    let k = c.in-Some-checked_add.riff_size in
    let parts : c.in-Some.parts ≡ u.parts + more_parts w.reserved = search rules in
    let sum : k ≡ n + more_bytes w.reserved = search rules in
    let ascend : SpansAscend 0 (widened f w n k u.cuts.items) f.len = subst (λ (ks : List CutAt). SpansAscend 0 ks f.len) (c.deref.ensures.value ∙ c.in-Ok.ensures) (c.if-not-ascends.ensures.0 refl) in
    let len = c.in-Some-new_len.len in
    let long : len ≡ length (file_after b e) = c.in-Some-new_len.ensures ∙ ap (spliced_len f.len) (c.deref-2.ensures.value ∙ c.in-Ok.ensures) ∙ sym (wide_long b e bytes sup w known listed wide f frame u comes c.requires.stands n k is sum ascend) in
    let whole = sym frame.len in
    record {
      fits =
          wide_told b e bytes sup w known listed wide f frame u comes c.requires.stands c.in-Some.parts parts
          ∙ ap (λ (m : ℕ). first_above (limited 65536 c.in-Some.parts ∷ (limited (2 ^ 63 - 1) m ∷ []))) (sym long)
          ∙ both_fit c.in-Some.parts len c.if-parts-gt-MOST_PARTS.false c.if-len-gt-MOST_LEN.false;
      makes =
          c.in-Ok-plan_of.ensures.applied b whole ∙ ap (λ (ks : List CutAt). splice b (map (cut_in b) ks)) (c.deref-3.ensures.value ∙ c.in-Ok.ensures)
          ∙ makes_wide b e bytes sup w known listed wide f frame u comes c.requires.stands n k is sum;
      form = wide_form b e bytes sup w known listed wide len f (flat_map patch_of c.deref-3.result.now) c.in-Ok-plan_of.plan long c.in-Ok-plan_of.ensures.form;
      belongs = c.in-Ok-plan_of.ensures.belongs b whole;
    }
