use Rattle.std.proofs.Common.{ap, ◌∙◌, ◌+◌, ℕ, List, length}
use Rattle.part_tree.specs.Plans.{total_len}
use Rattle.part_tree.proofs.Plain.{plain_more}
use Rattle.unit_plan.proofs.Spliced.{total_more, inside_more}
use Rattle.unit_plan.proofs.segment.push_literal.Goals as goal

pub returns-clause-total : goal.returns-clause-total
returns-clause-total c =
    total_more c.args.segments.now.items c.push.new.self.items _ c.in-Ok.ensures.items
    ∙ ap (λ (x : List ℕ). total_len c.args.segments.now.items + length x) c.in_ok-copy.ensures

pub returns-clause-inside : goal.returns-clause-inside
returns-clause-inside c = λ b h. inside_more b c.args.segments.now.items c.push.new.self.items _ c.in-Ok.ensures.items h tt

pub returns-clause-plain : goal.returns-clause-plain
returns-clause-plain c = λ h. plain_more c.args.segments.now.items c.push.new.self.items _ c.in-Ok.ensures.items h tt
