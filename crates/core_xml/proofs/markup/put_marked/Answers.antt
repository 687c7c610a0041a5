use Rattle.std.proofs.Common.{arith}
use Rattle.core_xml.proofs.Writing.{marked_end, marked_more}
use Rattle.core_xml.proofs.markup.put_marked.Goals as goal

pub loop-x-preserved : goal.loop-x-preserved
loop-x-preserved c =
    marked_more c.args.text.now c.loop-x.x-index _ _ _ c.loop-x-test.true c.in_ok-put_byte.ensures c.loop-x.invariant

pub returns : goal.returns
returns c = marked_end c.args.text.now c.loop-x.x-index _ _ (omega arith) c.loop-x.invariant
