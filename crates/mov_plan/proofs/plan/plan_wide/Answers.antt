use Rattle.std.proofs.Common.{sym, subst, ◌∙◌, ℕ}
use Rattle.mov_plan.specs.Planned.{IsSized}
use Rattle.mov_plan.proofs.Sized.{units_ascend}
use Rattle.mov_plan.proofs.Wide.{large_told}
use Rattle.mov_plan.proofs.plan.plan_wide.Goals as goal

pub sizes_of-requires-clause-ascend : goal.sizes_of-requires-clause-ascend
sizes_of-requires-clause-ascend g c = units_ascend c.args.moov.now c.requires.sound 0 c.args.units.cuts.items c.requires.stands.ascend

pub plan_grown-requires-clause-sized : goal.plan_grown-requires-clause-sized
plan_grown-requires-clause-sized g c = subst (λ (k : ℕ). IsSized c.args.moov.now c.args.units k c.in-Some.sizes) c.in-Ok.ensures c.in-Some.ensures

pub returns-in-Some-first_passed-clause-plans : goal.returns-in-Some-first_passed-clause-plans
returns-in-Some-first_passed-clause-plans g c = λ b e holds known hold wide.
    let sized : IsSized c.args.moov.now c.args.units _ c.in-Some.sizes = subst (λ (k : ℕ). IsSized c.args.moov.now c.args.units k c.in-Some.sizes) c.in-Ok.ensures c.in-Some.ensures in
    large_told b e c.args.moov.now c.args.tables.now c.args.units known c.requires.sound c.requires.stands c.args.holders.now wide c.in-Some.sizes sized
    ∙ sym c.in-Some-first_passed.ensures
