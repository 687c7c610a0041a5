use Rattle.std.proofs.Common.{◌≡◌, subst}
use Rattle.std.specs.Prelude.{IfOk}
use Rattle.part_tree.specs.declared.plan.Plan.{Plan}
use Rattle.file_swap.specs.Swap.{fresh}
use Rattle.crash_rows.proofs.Works.{can_patch, in_place_is}
use Rattle.crash_rows.proofs.runs.edit_in_place.Goals as goal

pub new-requires : goal.new-requires
new-requires c = can_patch c.in_ok-patches.patches c.in_ok-patches.ensures

pub returns : goal.returns
returns c = subst (λ (p : Plan). IfOk c.new.result (λ s. s ≡ fresh p)) (in_place_is c.in_ok-patches.patches c.in_ok-patches.ensures) c.new.ensures
