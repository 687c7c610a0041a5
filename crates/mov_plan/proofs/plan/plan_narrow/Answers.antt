use Rattle.std.proofs.Common.{sym, ◌∙◌}
use Rattle.mov_plan.proofs.Narrow.{large_told}
use Rattle.mov_plan.proofs.Sized.{units_ascend}
use Rattle.mov_plan.proofs.plan.plan_narrow.Goals as goal

pub sizes_of-requires-clause-ascend : goal.sizes_of-requires-clause-ascend
sizes_of-requires-clause-ascend c = units_ascend c.args.moov.now c.requires.sound 0 c.args.units.cuts.items c.requires.stands.ascend

pub returns-in-Some-first_passed-clause-plans : goal.returns-in-Some-first_passed-clause-plans
returns-in-Some-first_passed-clause-plans c = λ b e known narrow named.
    large_told b e c.args.moov.now c.args.tables.now c.args.units known c.requires.sound c.requires.stands narrow c.in-Some.sizes c.in-Some.ensures ∙ sym c.in-Some-first_passed.ensures
