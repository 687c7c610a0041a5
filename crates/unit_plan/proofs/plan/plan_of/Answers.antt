use Rattle.std.proofs.Common.{ap, ◌∙◌, ◌≡◌, List}
use Rattle.std.specs.List.{flat_map}
use Rattle.part_tree.specs.declared.plan.Patch.{Patch}
use Rattle.part_tree.specs.Patches.{laid}
use Rattle.unit_plan.specs.Cuts.{FitsIn, patch_of}
use Rattle.unit_plan.proofs.Overlaid.{laid_splices}
use Rattle.unit_plan.proofs.plan.plan_of.Goals as goal

pub returns-in-Some-clause-applied : goal.returns-in-Some-clause-applied
returns-in-Some-clause-applied c = λ b long.
    let is : c.in-Some.patches ≡ flat_map patch_of c.args.cuts.now = rw c.in-Some.is at c.in_ok-in_place.ensures.patches in
    let fits : FitsIn c.args.len c.args.cuts.now = c.requires.fits c.if-not-fit.false in
    ap (λ (ps : List Patch). laid c.args.new_len ps b) is
    ∙ laid_splices b c.args.len c.args.new_len c.args.cuts.now long c.requires.ascend fits c.requires.new
