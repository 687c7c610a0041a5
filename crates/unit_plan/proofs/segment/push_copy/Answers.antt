use Rattle.part_tree.proofs.Plain.{plain_more}
use Rattle.unit_plan.proofs.Spliced.{total_more, inside_more}
use Rattle.unit_plan.proofs.segment.push_copy.Goals as goal

pub returns-clause-total : goal.returns-clause-total
returns-clause-total c = total_more c.args.segments.now.items c.push.new.self.items _ c.in-Ok.ensures.items

pub returns-clause-inside : goal.returns-clause-inside
returns-clause-inside c = λ b inside h. inside_more b c.args.segments.now.items c.push.new.self.items _ c.in-Ok.ensures.items h inside

pub returns-clause-plain : goal.returns-clause-plain
returns-clause-plain c = λ h. plain_more c.args.segments.now.items c.push.new.self.items _ c.in-Ok.ensures.items h tt
