use Rattle.std.proofs.Common.{rules, arith, subst, sym, ap, ◌∙◌, ◌≡◌, List, false}
use Rattle.wave_model.specs.Widen.{widens}
use Rattle.unit_plan.specs.declared.cut.CutAt.{CutAt}
use Rattle.unit_plan.specs.Cuts.{SpansAscend}
use Rattle.unit_plan.specs.Sized.{spliced_len}
use Rattle.wave_plan.proofs.Stays.{as_narrow, big_stays, does_widen, small_stays}
use Rattle.wave_plan.proofs.Numbers.{moved_more, whole_ascend}
use Rattle.wave_plan.proofs.Told.{size_told}
use Rattle.wave_plan.proofs.plan.plan_units.Goals.{else-not-frame-via-then-not-frame+else-size-gt-MOST_SIZE, else-not-frame-via-else-not-frame}
use Rattle.wave_plan.proofs.plan.plan_units.Goals as goal

pub new_len-requires : goal.new_len-requires
new_len-requires c = subst (λ (ks : List CutAt). SpansAscend 0 ks c.args.frame.now.len) (sym c.deref.ensures.value) (whole_ascend c.args.frame.now c.args.units c.requires.stands)

pub size_after-size-requires-clause-more : goal.size_after-size-requires-clause-more
size_after-size-requires-clause-more c =
    let moved : c.in-Some.moved ≡ spliced_len c.args.frame.now.len c.args.units.cuts.items = c.in-Some.ensures ∙ ap (spliced_len c.args.frame.now.len) c.deref.ensures.value in
    omega (arith, moved, moved_more c.args.frame.now c.args.units c.requires.stands)

pub plan_narrow-requires-clause-sum : goal.plan_narrow-requires-clause-sum
plan_narrow-requires-clause-sum c =
    let moved : c.in-Some.moved ≡ spliced_len c.args.frame.now.len c.args.units.cuts.items = c.in-Some.ensures ∙ ap (spliced_len c.args.frame.now.len) c.deref.ensures.value in
    omega (arith, moved, c.size_after-size.ensures)

pub returns-then-size-gt-MOST_SIZE-clause-plans : goal.returns-then-size-gt-MOST_SIZE-clause-plans
returns-then-size-gt-MOST_SIZE-clause-plans c = λ b e bytes sup frame known comes listed.
    let f = c.args.frame.now in
    let u = c.args.units in
    let n = c.size_after-size.result in
    let moved : c.in-Some.moved ≡ spliced_len f.len u.cuts.items = c.in-Some.ensures ∙ ap (spliced_len f.len) c.deref.ensures.value in
    let is = size_told b e bytes sup f frame u comes c.requires.stands c.in-Some.moved n moved c.size_after-size.ensures in
    let narrow : f.big ≡ false = search rules in
    c.plan_widened.ensures.plans b e bytes sup frame known comes listed is (does_widen b e f frame listed n is narrow c.if-size-gt-MOST_SIZE.true)

pub returns-clause-plans : goal.returns-clause-plans
returns-clause-plans c = λ b e bytes sup frame known comes listed.
    let f = c.args.frame.now in
    let u = c.args.units in
    let n = c.size_after-size.result in
    let moved : c.in-Some.moved ≡ spliced_len f.len u.cuts.items = c.in-Some.ensures ∙ ap (spliced_len f.len) c.deref.ensures.value in
    let is = size_told b e bytes sup f frame u comes c.requires.stands c.in-Some.moved n moved c.size_after-size.ensures in
    let stays : widens b e ≡ false =
    elim c.else-not-frame.branch [
      | else-not-frame-via-then-not-frame+else-size-gt-MOST_SIZE w ↦ small_stays b e f frame listed n is w.if-size-gt-MOST_SIZE.false
      | else-not-frame-via-else-not-frame w ↦ big_stays b e f frame listed n is w.if-not-frame.false
    ]
    in
    as_narrow b e bytes sup stays c.plan_narrow.result (c.plan_narrow.ensures.plans b e bytes sup frame comes listed)
