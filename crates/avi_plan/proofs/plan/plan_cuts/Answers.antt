use Rattle.std.proofs.Common.{Bool, sym, subst}
use Rattle.unit_plan.specs.Planned.{IsPlanOf}
use Rattle.avi_plan.specs.Patched.{placed_patches}
use Rattle.avi_plan.proofs.plan.plan_cuts.Goals as goal

pub returns-then-not-fits-clause-form : goal.returns-then-not-fits-clause-form
returns-then-not-fits-clause-form c =
    subst (λ (fits : Bool). IsPlanOf fits c.args.len c.args.new_len (placed_patches c.args.cuts.now) c.in_ok-plan.plan) (sym c.if-not-fits.true) (c.in_ok-plan.ensures.unfit (placed_patches c.args.cuts.now))
