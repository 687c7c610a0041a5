use Rattle.std.proofs.Common.{◌≡◌, ◌≤◌, ◌^◌, length}
use Rattle.part_tree.specs.Patches.{all_bytes}
use Rattle.avi_plan.specs.Patched.{placed_patches}
use Rattle.avi_plan.proofs.Patched.{keeps_rules}
use Rattle.avi_plan.proofs.patches.in_place.Goals as goal

pub returns-in-Some-clause-rules : goal.returns-in-Some-clause-rules
returns-in-Some-clause-rules c =
    let ps = c.in-Some.patches in
    let is : ps ≡ placed_patches c.args.cuts.now = rw c.in-Some.is at c.in_ok-patches_of.ensures.patches in
    let few : length ps ≤ 65536 = rw c.in-Some.is at c.in_ok-patches_of.ensures.few in
    let small : all_bytes ps ≤ 2 ^ 24 = rw c.in-Some.is at c.in_ok-patches_of.ensures.small in
    keeps_rules c.args.len c.args.new_len c.args.cuts.now ps c.requires.ascend c.requires.fits c.requires.new c.requires.old_small c.requires.new_small is few small
