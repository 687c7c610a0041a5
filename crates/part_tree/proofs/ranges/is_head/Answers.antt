use Rattle.std.proofs.Common.{◌∙◌, sym}
use Rattle.part_tree.proofs.Spans.{head_last}
use Rattle.part_tree.proofs.ranges.is_head.Goals as goal

pub returns : goal.returns
returns c = c.last_begins.ensures ∙ sym (head_last 0 c.args.chunks.now c.args.place c.begun_ahead-count.result c.requires.in_order c.begun_ahead-count.ensures.bound c.begun_ahead-count.ensures.cut)
