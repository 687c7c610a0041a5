use Rattle.mov_plan.proofs.Sized.{kept_all}
use Rattle.mov_plan.proofs.plan.plan_cuts.Goals as goal

pub rewrite-requires-clause-kept : goal.rewrite-requires-clause-kept
rewrite-requires-clause-kept c = kept_all 0 c.args.len c.args.cuts.now c.requires.ascend

pub rewrite-requires-in-None-clause-kept : goal.rewrite-requires-in-None-clause-kept
rewrite-requires-in-None-clause-kept c = kept_all 0 c.args.len c.args.cuts.now c.requires.ascend
