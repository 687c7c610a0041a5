use Rattle.std.proofs.Common.{◌≡◌, ◌∙◌, subst}
use Rattle.std.specs.Prelude.{IfOk}
use Rattle.part_tree.specs.declared.plan.Plan.{Plan}
use Rattle.file_swap.specs.Swap.{fresh}
use Rattle.crash_rows.proofs.TablePlans.{adds_up, plan_is}
use Rattle.crash_rows.proofs.tables.tables_swap.Goals as goal

pub new-requires-2 : goal.new-requires-2
new-requires-2 c = adds_up c.new.result (c.new.ensures ∙ c.in_ok-segments.ensures)

pub returns : goal.returns
returns c = subst (λ (p : Plan). IfOk c.new-2.result (λ s. s ≡ fresh p)) (plan_is c.in_ok-moves.moves c.new.result c.in_ok-moves.ensures (c.new.ensures ∙ c.in_ok-segments.ensures)) c.new-2.ensures
