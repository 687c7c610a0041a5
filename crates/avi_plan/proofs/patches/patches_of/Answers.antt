use Rattle.std.proofs.Common.{subst, ◌++◌}
use Rattle.carrier_model.specs.Room.{patch}
use Rattle.unit_plan.specs.Sized.{IsTooMuch}
use Rattle.avi_plan.proofs.Patched.{too_much_more}
use Rattle.avi_plan.proofs.patches.patches_of.Goals as goal

pub returns-then-not-fits-clause-none : goal.returns-then-not-fits-clause-none
returns-then-not-fits-clause-none c =
    let bytes = c.as_slice.result.now in
    let much : IsTooMuch (c.pass.new.self.patches.items ++ patch c.in_ok-at.at bytes) = c.in_ok-fits.ensures.none c.if-not-fits.true in
    too_much_more c.args.cuts.now c.cuts.cut-index c.cut-item.result c.cuts.patched.from c.cuts.patched.to c.in_ok-at.at c.cuts.patched.patches.items bytes c.cuts-test.true c.cut-item.is c.cuts.invariant.left c.in_ok-at.ensures.at c.as_slice.ensures
    (subst (λ v. IsTooMuch (v.items ++ patch c.in_ok-at.at bytes)) c.in_ok-at.ensures.patches much)
