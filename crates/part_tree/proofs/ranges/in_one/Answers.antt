use Rattle.std.proofs.Common.{◌∙◌, sym}
use Rattle.part_tree.proofs.Spans.{one_last}
use Rattle.part_tree.proofs.ranges.in_one.Goals as goal

pub returns : goal.returns
returns c = c.last_holds.ensures ∙ sym (one_last 0 c.args.spans.now c.args.place c.args.len c.begun-count.result c.requires.in_order c.begun-count.ensures.bound c.begun-count.ensures.cut)
