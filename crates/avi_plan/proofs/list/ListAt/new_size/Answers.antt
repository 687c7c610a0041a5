use Rattle.std.proofs.Common.{◌+◌, arith}
use Rattle.unit_plan.proofs.Spans.{lost_low}
use Rattle.avi_plan.proofs.Spans.{spans_low}
use Rattle.avi_plan.proofs.list.ListAt.new_size.Goals as goal

pub new_len-requires : goal.new_len-requires
new_len-requires c = let l = c.args.self.now in spans_low 0 (l.at + 12) (l.at + 8 + l.size) c.args.inside.now (omega arith) c.requires.ascend

pub overflow_sub-result : goal.overflow_sub-result
overflow_sub-result c = let l = c.args.self.now in omega (arith, c.in_ok-new_end.ensures, lost_low (l.at + 12) (l.at + 8 + l.size) c.args.inside.now c.requires.ascend)

pub returns : goal.returns
returns c = let l = c.args.self.now in omega (arith, c.in_ok-new_end.ensures, lost_low (l.at + 12) (l.at + 8 + l.size) c.args.inside.now c.requires.ascend)
